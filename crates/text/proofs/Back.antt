-- A number that was printed and is read back is the same number, and reading accepts nothing but what printing writes: each number has one text.
use Rattle.std.specs.Prelude.{Option, Some, None, ◌≡◌, Bool, cond, List, [], ◌∷◌, ◌++◌, ltb, eqb, ℤ, length, take, drop, get_or}
use Rattle.std.proofs.Math.Path.{refl}
use Rattle.std.proofs.Common.{sym, ◌∙◌, ap, ap₂, append-nil, add-zero, arith, add-one, length-take, drop_of_length-le, drop_at, drop-drop, drop-cons, get_or-drop, length-take-le, SFits}
use Rattle.std.proofs.Math.Bool.{true, false}
use Prim.Native.Nat.{ℕ, zero, suc, ◌+◌, ◌^◌, ◌<◌, ◌≤◌}
use Rattle.std.proofs.Math.IntN.{pos, negsuc}
use Rattle.std.specs.Int.{w64}
use borrow.Author.Tests.{lt-ltb, ltb-true, eqb-true, ne_eqb}
use Rattle.integers.specs.Parts.{integers}
use Rattle.text.specs.Places.{Wrote, Stands}
use Rattle.text.proofs.Pieces.{up-to-end}
use Rattle.text.specs.Numbers.{decimal, signed, hex, ascii}
use Rattle.text.specs.Reading.{decimal_in, decimal_at, below, not_below, signed_at, hex_at}
use Rattle.text.proofs.DecimalBack.{NoDigit, ended, Splits}
use Rattle.text.proofs.DecimalBack as D
use Rattle.text.proofs.HexBack as H
use Rattle.text.proofs.Digits.{length-hex_digits}

-- what a text begins with stands at its place
stands : {s : List ℕ} {at : ℕ} {word : List ℕ} {end : ℕ} → Splits (drop at s) at word end → Stands s at word end
stands {s} {at} {word} {end} p =
    let e : drop end s ≡ p.rest = ap (λ i. drop i s) p.ends ∙ sym (drop-drop (length word) at s) ∙ ap (drop (length word)) p.holds ∙ drop_at word p.rest (length word) refl in
    record { ends = p.ends; holds = p.holds ∙ ap (λ r. word ++ r) (sym e) }

-- ---- decimal

pub decimal-back : (s : List ℕ) (at n end : ℕ) → n < 2 ^ 64 → Stands s at (decimal n) end → NoDigit (drop end s) → decimal_at s at ≡ Some (n, end)
unfolding decimal_at
decimal-back s at n end f p e = ap (λ t. decimal_in t at) p.holds ∙ D.reads (drop end s) n at f e ∙ ap (λ k. Some (n, k)) (sym p.ends)

pub decimal-only : (s : List ℕ) (at n end : ℕ) → decimal_at s at ≡ Some (n, end) → Stands s at (decimal n) end × (n < 2 ^ 64)
unfolding decimal_at
decimal-only s at n end e = let (p, f) = D.only (drop at s) at n end e in (stands p, f)

-- ---- hexadecimal

pub hex-back : (s : List ℕ) (at n end : ℕ) → n < 2 ^ 64 → Stands s at (hex n) end → hex_at s at ≡ Some (n, end)
unfolding hex_at hex
hex-back s at n end f p =
    rw p.holds (H.reads (drop end s) n at f ∙ ap (λ k. Some (n, k)) (ap (λ k. at + k) (sym (length-hex_digits 16 n)) ∙ sym p.ends))

pub hex-only : (s : List ℕ) (at n end : ℕ) → hex_at s at ≡ Some (n, end) → Stands s at (hex n) end × (n < 2 ^ 64)
unfolding hex_at hex
hex-only s at n end e = let (p, f) = H.only (drop at s) at n end e in (stands p, f)

-- ---- signed

-- a decimal number begins with no sign
first_byte : (text : List ℕ) (at n end : ℕ) → decimal_in text at ≡ Some (n, end) → get_or text 0 0 ≡ 45 → ⊥
unfolding decimal_in
first_byte [] at n end e q = D.refuted e
first_byte (b ∷ text) at n end e q = D.refuted (rw q at e)

-- the byte at a place
at_place : (s : List ℕ) (at : ℕ) → get_or (drop at s) 0 0 ≡ get_or s at 0
at_place s at = get_or-drop at s 0 0 ∙ ap (λ i. get_or s i 0) (add-zero at)

pub no_sign : (s : List ℕ) (at n end : ℕ) → decimal_at s at ≡ Some (n, end) → eqb (get_or s at 0) 45 ≡ false
unfolding decimal_at
no_sign s at n end e = ne_eqb (get_or s at 0) 45 (λ q. first_byte (drop at s) at n end e (at_place s at ∙ q))

inside : (s : List ℕ) (at : ℕ) → get_or s at 0 ≡ 45 → at < length s
inside [] at e = absurd (omega arith)
inside (b ∷ s) zero e = omega arith
inside (b ∷ s) (suc at) e = omega (arith, inside s at e)

-- a sign, and what follows it
module _ {s : List ℕ} {at : ℕ} {word : List ℕ} {end : ℕ} where
  pub sign : Stands s at (45 ∷ word) end → get_or s at 0 ≡ 45
  sign p = sym (at_place s at) ∙ ap (λ t. get_or t 0 0) p.holds

  pub after-sign : Stands s at (45 ∷ word) end → Stands s (at + 1) word end
  after-sign p = record { ends = omega (arith, p.ends); holds = sym (drop-drop 1 at s) ∙ ap (drop 1) p.holds }

  pub with-sign : get_or s at 0 ≡ 45 → Stands s (at + 1) word end → Stands s at (45 ∷ word) end
  with-sign e p = record { ends = omega (arith, p.ends); holds = drop-cons s at 0 (inside s at e) ∙ rw (e, ← (add-one at)) (ap (λ t. 45 ∷ t) p.holds) }

pub signed_back : (s : List ℕ) (at : ℕ) (z : ℤ) (end : ℕ) → SFits w64 z → Stands s at (signed z) end → NoDigit (drop end s) → signed_at s at ≡ Some (z, end)
unfolding signed_at signed not_below below ascii
signed_back s at (pos n) end f p e =
    let d = decimal-back s at n end (omega integers) p e in
    rw (no_sign s at n end d, d, lt-ltb n (2 ^ 63) (omega integers))
signed_back s at (negsuc n) end f p e =
    let d = decimal-back s (at + 1) (suc n) end (omega integers) (after-sign p) e in
    rw (sign p, d, lt-ltb n (2 ^ 63) (omega integers))

none {ℓ} : {A : Type ℓ} {z : ℤ} {end : ℕ} → ◌≡◌ {A = Option (ℤ × ℕ)} None (Some (z, end)) → A
none e = absurd (let z : ◌≡◌ {A = ℕ} 0 1 = cc in omega arith)

module _ (s : List ℕ) (at : ℕ) (z : ℤ) (end : ℕ) where
  positive-by : (n next : ℕ) (t : Bool) → ltb n (2 ^ 63) ≡ t → decimal_at s at ≡ Some (n, next) → cond {A = Option (ℤ × ℕ)} t (Some (pos n, next)) None ≡ Some (z, end) → Stands s at (signed z) end × SFits w64 z
  unfolding signed
  positive-by n next true t d e =
      let (x, y) = D.parts e in
      let f : n < 2 ^ 63 = ltb-true n (2 ^ 63) t in
      rw (← x, ← y) ((decimal-only s at n next d).0, omega integers)
  positive-by n next false t d e = none e

  positive-only : (u : Option (ℕ × ℕ)) → decimal_at s at ≡ u → not_below u ≡ Some (z, end) → Stands s at (signed z) end × SFits w64 z
  unfolding not_below
  positive-only None d e = none e
  positive-only (Some (n, next)) d e = positive-by n next (ltb n (2 ^ 63)) refl d e

  negative-by : (n next : ℕ) (t : Bool) → ltb n (2 ^ 63) ≡ t → get_or s at 0 ≡ 45 → decimal_at s (at + 1) ≡ Some (suc n, next) → cond {A = Option (ℤ × ℕ)} t (Some (negsuc n, next)) None ≡ Some (z, end) → Stands s at (signed z) end × SFits w64 z
  unfolding signed ascii
  negative-by n next true t q d e =
      let (x, y) = D.parts e in
      let f : n < 2 ^ 63 = ltb-true n (2 ^ 63) t in
      rw (← x, ← y) (with-sign q (decimal-only s (at + 1) (suc n) next d).0, omega integers)
  negative-by n next false t q d e = none e

  negative-only : (u : Option (ℕ × ℕ)) → get_or s at 0 ≡ 45 → decimal_at s (at + 1) ≡ u → below u ≡ Some (z, end) → Stands s at (signed z) end × SFits w64 z
  unfolding below
  negative-only None q d e = none e
  negative-only (Some (zero, next)) q d e = none e
  negative-only (Some (suc n, next)) q d e = negative-by n next (ltb n (2 ^ 63)) refl q d e

  by_sign : (t : Bool) → eqb (get_or s at 0) 45 ≡ t → cond t (below (decimal_at s (at + 1))) (not_below (decimal_at s at)) ≡ Some (z, end) → Stands s at (signed z) end × SFits w64 z
  by_sign true t e = negative-only (decimal_at s (at + 1)) (eqb-true (get_or s at 0) 45 t) refl e
  by_sign false t e = positive-only (decimal_at s at) refl e

  pub signed-only : signed_at s at ≡ Some (z, end) → Stands s at (signed z) end × SFits w64 z
  unfolding signed_at
  signed-only e = by_sign (eqb (get_or s at 0) 45) refl e

-- ---- what a function wrote is read back

module _ {a : List ℕ} {at : ℕ} {word b : List ℕ} {end : ℕ} (w : Wrote a at word b end) (h : at ≤ length a) where
  up_to : take end b ≡ take at a ++ word
  up_to = ap₂ take w.ends w.holds ∙ up-to-end a at word

  past : drop end (take end b) ≡ []
  past = drop_of_length-le (take end b) {i = end} (omega (arith, length-take end b))

  pub stands-there : Stands (take end b) at word end
  stands-there =
      record {
        ends = w.ends;
        holds = ap (drop at) up_to ∙ drop_at (take at a) word at (length-take-le at a h) ∙ sym (append-nil word) ∙ ap (λ r. word ++ r) (sym past);
      }

  no_more : NoDigit (drop end (take end b))
  no_more = rw past ended

module _ {a b : List ℕ} {at end : ℕ} (h : at ≤ length a) where
  pub decimal-printed : (n : ℕ) → n < 2 ^ 64 → Wrote a at (decimal n) b end → decimal_at (take end b) at ≡ Some (n, end)
  decimal-printed n f w = decimal-back (take end b) at n end f (stands-there w h) (no_more w h)

  pub signed-printed : (z : ℤ) → SFits w64 z → Wrote a at (signed z) b end → signed_at (take end b) at ≡ Some (z, end)
  signed-printed z f w = signed_back (take end b) at z end f (stands-there w h) (no_more w h)

  pub hex-printed : (n : ℕ) → n < 2 ^ 64 → Wrote a at (hex n) b end → hex_at (take end b) at ≡ Some (n, end)
  hex-printed n f w = hex-back (take end b) at n end f (stands-there w h)
