-- The numbers of a data line: each is read exactly where its text stands.
use mathlib.Core.Path.{◌≡◌, refl, sym, ◌∙◌, ap}
use mathlib.Core.Bool.{Bool, true, false, cond}
use mathlib.Core.List.{List, [], ◌∷◌, ◌++◌, append_assoc}
use Prim.Native.Nat.{ℕ, zero, suc, ◌+◌, ◌^◌, ◌<◌, ◌≤◌}
use native.Mathlib.Nat.{add-zero}
use native.Mathlib.Numerals.{add-one}
use native.Mathlib.Omega.{arith}
use lib.Dec.{ltb, eqb}
use lib.IntN.{ℤ, nat_abs}
use lib.ListN.{length, drop, get_or, length-append}
use lib.Seq.{drop-drop, drop-cons, get_or-drop}
use mir.Syntax.{w64}
use mir.Val.{SFits}
use borrow.Author.Tests.{lt-ltb, ltb-true, eqb-true, eqb-false, eq-eqb}
use Rattle.integers.specs.Parts.{integers, nat_abs-parts, one-part}
use Rattle.text.specs.Numbers.{ascii}
use Rattle.std.specs.Prelude.{Option, Some, None}
use Rattle.text.specs.Places.{Stands}
use Rattle.decimal.specs.Text.{fixed_text, few_digits}
use Rattle.decimal.proofs.Digits.{few-digits}
use Rattle.decimal.specs.Reading.{fixed_at}
use Rattle.decimal.proofs.Back.{fixed-only, fixed_back}
use Rattle.message.specs.Message.{texts}
use Rattle.received.specs.Data.{decimals_of, field_by, field_at, field_start, value_in, value_of, end_of}

-- ---- texts that stand one behind the other

pub joined-texts : {s : List ℕ} {i j k : ℕ} {t u : List ℕ} → Stands s i t j → Stands s j u k → Stands s i (t ++ u) k
joined-texts {s} {i} {j} {k} {t} {u} p q =
    record {
      ends = omega (arith, p.ends, q.ends, length-append t u);
      holds = p.holds ∙ ap (λ x. t ++ x) q.holds ∙ sym (append_assoc t u (drop k s));
    }

inside : (b : ℕ) → 0 < b → (s : List ℕ) (at : ℕ) → get_or s at 0 ≡ b → at < length s
inside b h [] at e = absurd (omega (arith, e))
inside b h (c ∷ s) zero e = omega arith
inside b h (c ∷ s) (suc at) e = omega (arith, inside b h s at e)

-- a character, and what follows it
module _ {b : ℕ} {s : List ℕ} {at : ℕ} {word : List ℕ} {end : ℕ} where
  pub head-there : Stands s at (b ∷ word) end → get_or s at 0 ≡ b
  head-there p = sym (get_or-drop at s 0 0 ∙ ap (λ i. get_or s i 0) (add-zero at)) ∙ ap (λ t. get_or t 0 0) p.holds

  pub tail-there : Stands s at (b ∷ word) end → Stands s (at + 1) word end
  tail-there p = record { ends = omega (arith, p.ends); holds = sym (drop-drop 1 at s) ∙ ap (drop 1) p.holds }

  pub both-there : 0 < b → get_or s at 0 ≡ b → Stands s (at + 1) word end → Stands s at (b ∷ word) end
  both-there h e p =
      record {
        ends = omega (arith, p.ends);
        holds = drop-cons s at 0 (inside b h s at e) ∙ rw (e, ← (add-one at)) (ap (λ t. b ∷ t) p.holds);
      }

-- ---- a field

pub few-decimals : (k : ℕ) → decimals_of k ≤ 15
few-decimals k = by (ltb k 3)
  where
    by : (t : Bool) → cond t 6 9 ≤ 15
    by true = omega arith
    by false = omega arith

fits-size : (z : ℤ) → SFits w64 z → nat_abs z < 2 ^ 64
fits-size z f = omega (integers, nat_abs-parts z, one-part z)

pub size_fits : (z : ℤ) → nat_abs z < 10 ^ 16 → SFits w64 z
size_fits z h = omega (integers, nat_abs-parts z, one-part z)

pub record Shows (decimals : ℕ) (line : List ℕ) (at : ℕ) (f : Option (ℤ × ℕ)) : Type 0 where
  pub stands : Stands line at (32 ∷ fixed_text decimals (value_of f)) (end_of f)
  pub few : nat_abs (value_of f) < 10 ^ 16

module _ (decimals : ℕ) (most : decimals ≤ 15) (line : List ℕ) where
  few-by : (z : ℤ) (at end : ℕ) (t : Bool) → few_digits decimals z ≡ t → get_or line at 0 ≡ 32 → fixed_at decimals line (at + 1) ≡ Some (z, end)
      → ¬ (end_of (cond t (Some (z, end)) None) ≡ 0) → Shows decimals line at (cond t (Some (z, end)) None)
  few-by z at end true t space e h =
      let (stands, fits) = fixed-only decimals line (at + 1) z end e in
      let size = sym (few-digits decimals z most (fits-size z fits)) ∙ t in
      record { stands = both-there (omega arith) space stands; few = ltb-true (nat_abs z) (10 ^ 16) size }
  few-by z at end false t space e h = absurd (h refl)

  number_by : (n : Option (ℤ × ℕ)) (at : ℕ) → get_or line at 0 ≡ 32 → fixed_at decimals line (at + 1) ≡ n
      → ¬ (end_of (field_by decimals n) ≡ 0) → Shows decimals line at (field_by decimals n)
  unfolding field_by
  number_by (Some (z, end)) at space e h = few-by z at end (few_digits decimals z) refl space e h
  number_by None at space e h = absurd (h refl)

  space-by : (at : ℕ) (t : Bool) → eqb (get_or line at 0) 32 ≡ t
      → ¬ (end_of (cond t (field_by decimals (fixed_at decimals line (at + 1))) None) ≡ 0)
      → Shows decimals line at (cond t (field_by decimals (fixed_at decimals line (at + 1))) None)
  space-by at true t h = number_by (fixed_at decimals line (at + 1)) at (eqb-true (get_or line at 0) 32 t) refl h
  space-by at false t h = absurd (h refl)

  pub field-shown : (at : ℕ) → ¬ (end_of (field_at decimals line at) ≡ 0) → (¬ (at ≡ 0)) × Shows decimals line at (field_at decimals line at)
  unfolding field_at
  field-shown zero h = absurd (h refl)
  field-shown (suc at) h = (λ e. omega (arith, e), space-by (suc at) (eqb (get_or line (suc at) 0) 32) refl h)

  pub field-read : (at : ℕ) (v : ℤ) (end : ℕ) → ¬ (at ≡ 0) → Shows decimals line at (Some (v, end)) → field_at decimals line at ≡ Some (v, end)
  unfolding field_at field_by
  field-read zero v end h s = absurd (h refl)
  field-read (suc at) v end h s =
      let fits = size_fits v s.few in
      let size = few-digits decimals v most (fits-size v fits) ∙ lt-ltb (nat_abs v) (10 ^ 16) s.few in
      rw (eq-eqb (get_or line (suc at) 0) 32 (head-there s.stands), fixed_back decimals line (suc at + 1) v end fits (tail-there s.stands), size)

-- ---- field after field

-- field k as it is read, after a space
abbrev pub shown : List ℕ → ℕ → List ℕ
shown line k = ascii " " ++ fixed_text (decimals_of k) (value_in line k)

pub record Shown (line : List ℕ) (k : ℕ) : Type 0 where
  pub stands : Stands line 19 (texts (shown line) k) (field_start line k)
  pub few : (i : ℕ) → i < k → nat_abs (value_in line i) < 10 ^ 16

few-more : (line : List ℕ) (k i : ℕ) (t : Bool) → eqb i k ≡ t → ((j : ℕ) → j < k → nat_abs (value_in line j) < 10 ^ 16) → nat_abs (value_in line k) < 10 ^ 16
    → i < suc k → nat_abs (value_in line i) < 10 ^ 16
few-more line k i true t few h l = rw (eqb-true i k t) h
few-more line k i false t few h l = few i (omega (arith, eqb-false i k t))

pub fields-shown : (line : List ℕ) (k : ℕ) → ¬ (field_start line k ≡ 0) → Shown line k
unfolding field_start texts value_in ascii
fields-shown line zero h = record { stands = record { ends = refl; holds = refl }; few = λ i l. absurd (omega arith) }
fields-shown line (suc k) h =
    let (before, s) = field-shown (decimals_of k) (few-decimals k) line (field_start line k) h in
    let ih = fields-shown line k before in
    record { stands = joined-texts ih.stands s.stands; few = λ i. few-more line k i (eqb i k) refl ih.few s.few }
