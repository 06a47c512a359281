-- Digits without the zeros at the end, one digit at a time.
use mathlib.Core.Path.{◌≡◌, refl, sym, ◌∙◌, ap}
use mathlib.Core.Bool.{Bool, true, false}
use mathlib.Core.List.{List}
use Prim.Native.Nat.{ℕ, zero, suc, ◌-◌, ◌/◌, ◌%◌, ◌<◌, ◌≤◌}
use native.Mathlib.Omega.{arith}
use lib.Dec.{eqb}
use borrow.Author.Tests.{eq-eqb, ne_eqb}
use lib.ListN.{length}
use Rattle.text.specs.Numbers.{last_digits}
use Rattle.decimal.proofs.Digits.{length-last_digits}
use Rattle.sentences.specs.Decimals.{shortened}

-- none are left
pub all-zeros : (k n : ℕ) → k ≡ 0 → last_digits k n ≡ shortened k n
unfolding shortened last_digits
all-zeros k n h = rw h

-- by the last digit
unfoldable by_last : ℕ → ℕ → Bool → List ℕ
by_last k n zero-there = elim zero-there as (λ _. List ℕ) [ true ↦ shortened k (n / 10) | false ↦ last_digits (suc k) n ]

by_last_lem : (k n : ℕ) → shortened (suc k) n ≡ by_last k n (eqb (n % 10) 0)
unfolding shortened by_last
by_last_lem k n = refl

-- it is no zero
pub kept : (k n : ℕ) → (n % 10 ≡ 0 → ⊥) → last_digits k n ≡ shortened k n
unfolding shortened last_digits by_last
kept zero n h = refl
kept (suc k) n h = sym (by_last_lem k n ∙ ap (by_last k n) (ne_eqb (n % 10) 0 h))

-- it is one
pub dropped : (k n : ℕ) → 0 < k → n % 10 ≡ 0 → shortened (k - 1) (n / 10) ≡ shortened k n
unfolding by_last
dropped k n l h =
    let e : suc (k - 1) ≡ k = omega (arith, l) in
    sym (by_last_lem (k - 1) n ∙ ap (by_last (k - 1) n) (eq-eqb (n % 10) 0 h)) ∙ ap (λ j. shortened j n) e

-- how many there are

few : (k n : ℕ) (t : Bool) → length (shortened k (n / 10)) ≤ k → length (by_last k n t) ≤ suc k
unfolding by_last
few k n true h = omega (arith, h)
few k n false h = omega (arith, length-last_digits (suc k) n)

pub shortened-short : (k n : ℕ) → length (shortened k n) ≤ k
unfolding shortened by_last
shortened-short zero n = omega arith
shortened-short (suc k) n = few k n (eqb (n % 10) 0) (shortened-short k (n / 10))
