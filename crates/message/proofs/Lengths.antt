-- Laws of how long a number's text is, and a value's.
use mathlib.Core.Path.{◌≡◌, refl, sym, ◌∙◌, ap}
use mathlib.Core.Bool.{true, false}
use mathlib.Core.List.{List}
use Prim.Native.Nat.{ℕ, suc, ◌+◌, ◌/◌, ◌^◌, ◌≤◌, ◌<◌}
use native.Mathlib.Omega.{arith}
use lib.IntN.{ℤ, pos, negsuc, nat_abs}
use lib.ListN.{length}
use lib.Signed.{lt_z}
use mir.Syntax.{w64}
use mir.Val.{SFits}
use borrow.Author.Tests.{ltb-true, lt-ltb, le-ltb}
use Rattle.integers.specs.Parts.{integers, nat_abs-parts}
use Rattle.exact.specs.declared.Exact.{Exact}
use Rattle.text.specs.Numbers.{ascii, decimal}
use Rattle.decimal.specs.Text.{fixed_text, few_digits, position_text, velocity_text}
use Rattle.decimal.proofs.Digits.{length-fixed, few-digits, length-text}
use Rattle.message.specs.Request.{value_at, place}
use Rattle.message.specs.Message.{value_text, field}
use Rattle.message.specs.Refusals.{exact_at, position_holds, velocity_holds, holds_as, value_holds}
use Rattle.message.specs.Measures.{length_if}
use Rattle.message.proofs.Values.{held, unheld, also, nor, fails-at, holds_at, value-some, length-field}

-- ---- numbers

fits-size : (n : ℤ) → SFits w64 n → nat_abs n < 2 ^ 64
fits-size n f = omega (integers, nat_abs-parts n)

pub few-alike : (places : ℕ) (n : ℤ) → places ≤ 15 → SFits w64 n → few_digits 6 n ≡ few_digits places n
few-alike places n h f = few-digits 6 n (omega arith) (fits-size n f) ∙ sym (few-digits places n h (fits-size n f))

pub text-short : (places : ℕ) (n : ℤ) → places ≤ 15 → SFits w64 n → few_digits places n ≡ true → length (fixed_text places n) ≤ 18
text-short places n h f t =
    length-text places n h (ltb-true (nat_abs n) (10 ^ 16) (sym (few-digits places n h (fits-size n f)) ∙ t))

pub long-positive : (places : ℕ) (n : ℤ) → lt_z n (pos 0) ≡ false → length (fixed_text places n) ≡ length (decimal (nat_abs n / 10 ^ places)) + 1 + places
unfolding fixed_text
long-positive places (pos m) t = length-fixed places m
long-positive places (negsuc m) t = absurd (omega integers)

pub long-negative : (places : ℕ) (n : ℤ) → lt_z n (pos 0) ≡ true
    → length (fixed_text places n) ≡ length (decimal (nat_abs n / 10 ^ places)) + 1 + places + 1
unfolding fixed_text ascii
long-negative places (pos m) t = absurd (omega integers)
long-negative places (negsuc m) t = omega (arith, length-fixed places (suc m))

-- a length that is a text's, where the number has few digits
pub number-long : (places : ℕ) (n : ℤ) → places ≤ 15 → SFits w64 n → few_digits 6 n ≡ true → {m : ℕ} → m ≡ length (fixed_text places n)
    → (m ≡ length_if (few_digits places n) (fixed_text places n)) × (m ≤ 18)
number-long places n h f t e =
    let u : few_digits places n ≡ true = sym (few-alike places n h f) ∙ t in
    (e ∙ held (few_digits places n) (fixed_text places n) u, omega (arith, e, text-short places n h f u))

pub number-none : (places : ℕ) (n : ℤ) → places ≤ 15 → SFits w64 n → few_digits 6 n ≡ false → 0 ≡ length_if (few_digits places n) (fixed_text places n)
number-none places n h f t = unheld (few_digits places n) (fixed_text places n) (sym (few-alike places n h f) ∙ t)

-- ---- values

module _ (tick step k : ℕ) (e : Exact) where
  pub length-position : k < 3 → length_if (position_holds tick e) (position_text tick e) ≡ length_if (holds_as tick step k e) (value_text tick step k e)
  unfolding holds_as value_text
  length-position l = rw (lt-ltb k 3 l) refl

  pub length-velocity : 3 ≤ k → length_if (velocity_holds tick step e) (velocity_text tick step e) ≡ length_if (holds_as tick step k e) (value_text tick step k e)
  unfolding holds_as value_text
  length-velocity l = rw (le-ltb k 3 l) refl

module _ (tick step : ℕ) (points : List ℤ) (i k : ℕ) where
  abbrev value : Exact
  value = value_at points (place i k)

  pub value_none : exact_at points (place i k) ≡ false → 0 ≡ length_if (value_holds tick step points i k) (field tick step points i k)
  unfolding value_holds
  value_none t = nor (holds_as tick step k value) (field tick step points i k) (exact_at points (place i k)) t

  module _ (x : exact_at points (place i k) ≡ true) {n : ℕ} (m : n ≡ length_if (holds_as tick step k value) (value_text tick step k value)) where
    pub value-zero : n ≡ 0 → 0 ≡ length_if (value_holds tick step points i k) (field tick step points i k)
    unfolding value_holds
    value-zero z =
        let f = fails-at (holds_as tick step k value) (value_text tick step k value) m (value-some tick step k value) z in
        also (holds_as tick step k value) (field tick step points i k) (exact_at points (place i k)) x
        (unheld (holds_as tick step k value) (field tick step points i k) f)

    pub value-more : (n ≡ 0 → ⊥) → n + 1 ≡ length_if (value_holds tick step points i k) (field tick step points i k)
    unfolding value_holds
    value-more z =
        let (t, l) = holds_at (holds_as tick step k value) (value_text tick step k value) m z in
        also (holds_as tick step k value) (field tick step points i k) (exact_at points (place i k)) x
        (ap (λ j. j + 1) l ∙ sym (length-field tick step points i k) ∙ held (holds_as tick step k value) (field tick step points i k) t)
