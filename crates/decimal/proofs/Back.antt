-- A number that was written with its decimals and is read back is the same number, and nothing is read but what is so written:
-- each number has one text, and no two numbers have the same.
use Rattle.std.specs.Prelude.{Option, Some, None, ◌≡◌, ◌↔◌, Bool, cond, List, [], ◌∷◌, ◌++◌, ltb, eqb, ℤ, length, take, drop, get_or}
use Rattle.std.proofs.Math.Path.{refl}
use Rattle.std.proofs.Common.{sym, ◌∙◌, ap, append-nil, arith, drop_of_length-le, SFits}
use Rattle.std.proofs.Math.Bool.{true, false}
use Prim.Native.Nat.{ℕ, zero, suc, ◌+◌, ◌^◌, ◌<◌, ◌≤◌}
use Rattle.std.proofs.Math.IntN.{pos, negsuc}
use Rattle.std.specs.Int.{w64}
use borrow.Author.Tests.{lt-ltb, ltb-true, eqb-true}
use Rattle.integers.specs.Parts.{integers}
use Rattle.text.specs.Places.{Wrote, Stands}
use Rattle.text.specs.Numbers.{ascii}
use Rattle.text.specs.Reading.{decimal_at, below, not_below}
use Rattle.text.proofs.DecimalBack.{parts, refuted}
use Rattle.text.proofs.Back.{no_sign, sign, after-sign, with-sign, stands-there}
use Rattle.decimal.specs.Text.{fixed, fixed_text}
use Rattle.decimal.specs.Reading.{with_decimals, size_at, fixed_at}
use Rattle.decimal.proofs.SizeBack.{size_back, size-only}

-- ---- with a sign

none {ℓ} : {A : Type ℓ} {z : ℤ} {end : ℕ} → ◌≡◌ {A = Option (ℤ × ℕ)} None (Some (z, end)) → A
none e = absurd (let z : ◌≡◌ {A = ℕ} 0 1 = cc in omega arith)

module _ (places : ℕ) (s : List ℕ) (at : ℕ) (z : ℤ) (end : ℕ) where
  -- what stands there is the text of z, which an i64 holds
  abbrev Text : Type 0
  Text = Stands s at (fixed_text places z) end × SFits w64 z

  positive-by : (n next : ℕ) (t : Bool) → ltb n (2 ^ 63) ≡ t → Stands s at (fixed places n) next
      → cond {A = Option (ℤ × ℕ)} t (Some (pos n, next)) None ≡ Some (z, end) → Text
  unfolding fixed_text
  positive-by n next true t d e =
      let (x, y) = parts e in
      let f : n < 2 ^ 63 = ltb-true n (2 ^ 63) t in
      rw (← x, ← y) (d, omega integers)
  positive-by n next false t d e = none e

  positive-only : (u : Option (ℕ × ℕ)) → size_at places s at ≡ u → not_below u ≡ Some (z, end) → Text
  unfolding not_below
  positive-only None d e = none e
  positive-only (Some (n, next)) d e = positive-by n next (ltb n (2 ^ 63)) refl (size-only places s at n next d).0 e

  negative-by : (n next : ℕ) (t : Bool) → ltb n (2 ^ 63) ≡ t → Stands s at (45 ∷ fixed places (suc n)) next
      → cond {A = Option (ℤ × ℕ)} t (Some (negsuc n, next)) None ≡ Some (z, end) → Text
  unfolding fixed_text ascii
  negative-by n next true t d e =
      let (x, y) = parts e in
      let f : n < 2 ^ 63 = ltb-true n (2 ^ 63) t in
      rw (← x, ← y) (d, omega integers)
  negative-by n next false t d e = none e

  negative-only : (u : Option (ℕ × ℕ)) → get_or s at 0 ≡ 45 → size_at places s (at + 1) ≡ u → below u ≡ Some (z, end) → Text
  unfolding below
  negative-only None q d e = none e
  negative-only (Some (zero, next)) q d e = none e
  negative-only (Some (suc n, next)) q d e =
      negative-by n next (ltb n (2 ^ 63)) refl (with-sign q (size-only places s (at + 1) (suc n) next d).0) e

  by_sign : (t : Bool) → eqb (get_or s at 0) 45 ≡ t → cond t (below (size_at places s (at + 1))) (not_below (size_at places s at)) ≡ Some (z, end) → Text
  by_sign true t e = negative-only (size_at places s (at + 1)) (eqb-true (get_or s at 0) 45 t) refl e
  by_sign false t e = positive-only (size_at places s at) refl e

  pub fixed-only : fixed_at places s at ≡ Some (z, end) → Stands s at (fixed_text places z) end × SFits w64 z
  unfolding fixed_at
  fixed-only e = by_sign (eqb (get_or s at 0) 45) refl e

-- a text without a sign begins with none
unsigned : (places : ℕ) (s : List ℕ) (at n end : ℕ) (u : Option (ℕ × ℕ)) → decimal_at s at ≡ u → with_decimals places s u ≡ Some (n, end)
    → eqb (get_or s at 0) 45 ≡ false
unfolding with_decimals
unsigned places s at n end None d e = refuted e
unsigned places s at n end (Some (w, mid)) d e = no_sign s at w mid d

pub fixed_back : (places : ℕ) (s : List ℕ) (at : ℕ) (z : ℤ) (end : ℕ) → SFits w64 z → Stands s at (fixed_text places z) end
    → fixed_at places s at ≡ Some (z, end)
unfolding fixed_at fixed_text not_below below ascii
fixed_back places s at (pos n) end f p =
    let d = size_back places s at n end (omega integers) p in
    let q = unsigned places s at n end (decimal_at s at) refl (unfold size_at in d) in
    rw (q, d, lt-ltb n (2 ^ 63) (omega integers))
fixed_back places s at (negsuc n) end f p =
    let d = size_back places s (at + 1) (suc n) end (omega integers) (after-sign p) in
    rw (sign p, d, lt-ltb n (2 ^ 63) (omega integers))

-- ---- what this says

-- a number is read exactly where its text stands
pub fixed-means : (places : ℕ) (s : List ℕ) (at : ℕ) (z : ℤ) (end : ℕ) → SFits w64 z
    → (fixed_at places s at ≡ Some (z, end)) ↔ Stands s at (fixed_text places z) end
fixed-means places s at z end f = (λ e. (fixed-only places s at z end e).0, fixed_back places s at z end f)

-- the text of a number is read as that number, to its end
pub read_back : (places : ℕ) (z : ℤ) → SFits w64 z → fixed_at places (fixed_text places z) 0 ≡ Some (z, length (fixed_text places z))
read_back places z f =
    let text = fixed_text places z in
    let past : drop (length text) text ≡ [] = drop_of_length-le text {i = length text} (omega arith) in
    fixed_back places text 0 z (length text) f (record { ends = omega arith; holds = sym (append-nil text) ∙ ap (λ r. text ++ r) (sym past) })

-- what was written into a buffer is read back
pub fixed-printed : (places : ℕ) {a b : List ℕ} {at end : ℕ} → at ≤ length a → (z : ℤ) → SFits w64 z → Wrote a at (fixed_text places z) b end
    → fixed_at places (take end b) at ≡ Some (z, end)
fixed-printed places {b = b} {at = at} {end = end} h z f w = fixed_back places (take end b) at z end f (stands-there w h)

-- numbers with the same text are the same
pub one-to-one : (places : ℕ) (y z : ℤ) → SFits w64 y → SFits w64 z → fixed_text places y ≡ fixed_text places z → y ≡ z
one-to-one places y z f g e =
    (parts (sym (read_back places y f) ∙ ap (λ t. fixed_at places t 0) e ∙ read_back places z g)).0
