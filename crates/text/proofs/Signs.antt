-- A signed number as the machine has it: its size, its sign, and the text that they make.
use Rattle.std.specs.Prelude.{Some, None}
use mathlib.Core.Path.{◌≡◌, refl}
use mathlib.Core.Bool.{true, false}
use mathlib.Core.List.{List, ◌∷◌}
use Prim.Native.Nat.{ℕ, zero, suc, ◌+◌, ◌-◌, ◌^◌, ◌<◌, ◌≤◌}
use native.Mathlib.Omega.{arith}
use borrow.Author.Tests.{ltb-true, lt-ltb, le-ltb, ne_eqb}
use lib.Dec.{T}
use lib.IntN.{ℤ, pos, negsuc, nat_abs, ◌-ℤ◌}
use lib.ListN.{length, get_or, get_or-eq_default}
use lib.Signed.{lt_z, non_neg}
use mir.Syntax.{w64}
use mir.Val.{SFits, Fits}
use Rattle.integers.specs.Parts.{integers, parts-≡, difference-parts, nat_abs-parts, one-part}
use Rattle.integers.specs.Size.{cast_fits}
use Rattle.text.specs.Numbers.{signed, decimal, ascii}
use Rattle.text.specs.Reading.{decimal_at, below, not_below, signed_at}
use Rattle.text.proofs.Decimals.{nothing_left}

-- ---- from a number to its size

module _ (z : ℤ) (f : SFits w64 z) where
  pub turned-fits : lt_z z (pos 0) ≡ true → SFits w64 (negsuc 0 -ℤ z)
  turned-fits t = omega (integers, difference-parts (negsuc 0) z)

  pub turned-casts : lt_z z (pos 0) ≡ true → T (non_neg (negsuc 0 -ℤ z)) × Fits w64 (nat_abs (negsuc 0 -ℤ z))
  turned-casts t = cast_fits w64 (negsuc 0 -ℤ z) (omega (integers, difference-parts (negsuc 0) z)) (omega (integers, difference-parts (negsuc 0) z))

  pub size_fits : nat_abs z < 2 ^ 64
  size_fits = omega (integers, nat_abs-parts z, one-part z)

  pub casts : lt_z z (pos 0) ≡ false → T (non_neg z) × Fits w64 (nat_abs z)
  casts t = cast_fits w64 z (omega integers) (omega integers)

-- ---- the text

pub negative-text : (z : ℤ) → lt_z z (pos 0) ≡ true → signed z ≡ 45 ∷ decimal (nat_abs z)
unfolding signed ascii
negative-text (pos n) e = absurd (omega (arith, ltb-true n 0 e))
negative-text (negsuc n) e = refl

pub positive-text : (z : ℤ) → lt_z z (pos 0) ≡ false → signed z ≡ decimal (nat_abs z)
unfolding signed ascii
positive-text (pos n) e = refl
positive-text (negsuc n) e = absurd (let z : ◌≡◌ {A = ℕ} 0 1 = cc in omega arith)

-- ---- from a size to a number

pub below-nothing : below None ≡ None
unfolding below
below-nothing = refl

pub below-zero : (n next : ℕ) → n ≡ 0 → below (Some (n, next)) ≡ None
unfolding below
below-zero n next e = rw e

pub below-too-far : (n next : ℕ) → 2 ^ 63 < n → below (Some (n, next)) ≡ None
unfolding below
below-too-far zero next h = absurd (omega arith)
below-too-far (suc n) next h = rw (le-ltb n (2 ^ 63) (omega arith))

pub minus-one-less : (n : ℕ) → negsuc 0 -ℤ pos n ≡ negsuc n
minus-one-less n = parts-≡ (omega (integers, difference-parts (negsuc 0) (pos n)))

pub below-fits : (n : ℕ) → (n ≡ 0 → ⊥) → n ≤ 2 ^ 63 → SFits w64 (negsuc 0 -ℤ pos (n - 1))
below-fits n f h = omega (integers, difference-parts (negsuc 0) (pos (n - 1)))

pub below-number : (n next : ℕ) → (n ≡ 0 → ⊥) → n ≤ 2 ^ 63 → below (Some (n, next)) ≡ Some (negsuc 0 -ℤ pos (n - 1), next)
unfolding below
below-number zero next f h = absurd (f refl)
below-number (suc n) next f h =
    let e : suc n - 1 ≡ n = omega arith in
    rw (lt-ltb n (2 ^ 63) (omega arith), e, minus-one-less n)

pub not_below-nothing : not_below None ≡ None
unfolding not_below
not_below-nothing = refl

pub not_below-too-far : (n next : ℕ) → 2 ^ 63 ≤ n → not_below (Some (n, next)) ≡ None
unfolding not_below
not_below-too-far n next h = rw (le-ltb n (2 ^ 63) h)

pub not_below-number : (n next : ℕ) → n < 2 ^ 63 → not_below (Some (n, next)) ≡ Some (pos n, next)
unfolding not_below
not_below-number n next h = rw (lt-ltb n (2 ^ 63) h)

-- ---- a sign, or none, at a place

pub past_the_end : (s : List ℕ) (at : ℕ) → length s ≤ at → signed_at s at ≡ None
unfolding signed_at not_below
past_the_end s at h = rw (get_or-eq_default s 0 h, nothing_left s at h)

module _ (s : List ℕ) (at : ℕ) where
  pub with-minus : get_or s at 0 ≡ 45 → signed_at s at ≡ below (decimal_at s (at + 1))
  unfolding signed_at
  with-minus e = rw e

  pub without-minus : (get_or s at 0 ≡ 45 → ⊥) → signed_at s at ≡ not_below (decimal_at s at)
  unfolding signed_at
  without-minus f = rw (ne_eqb (get_or s at 0) 45 f)
