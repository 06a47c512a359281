-- The first of a list for which a test is true: by its place, as the first that is some, and where there is none.
use mathlib.Core.Path.{◌≡◌, refl, sym, ap, ◌∙◌}
use mathlib.Core.Bool.{Bool, true, false, not, cond}
use mathlib.Core.List.{List, [], ◌∷◌, map}
use Prim.Native.Nat.{ℕ, suc, ◌+◌}
use native.Mathlib.Nat.{suc-ne-zero, add-zero}
use native.Mathlib.Omega.{arith}
use borrow.Author.Tests.{lt-ltb, le-ltb, ltb-true, ltb-false}
use lib.Dec.{ltb}
use lib.ListN.{length}
use Rattle.std.specs.Prelude.{Option, Some, None}
use Rattle.std.specs.Option.{unwrap_or, option_or}
use Rattle.std.specs.List.{position, position_or_len}
use Rattle.integers.specs.Tests.{◌and◌, clash}
use Rattle.session.specs.Values.{Value, every}
use Rattle.reasons.specs.declared.Reason.{Reason}
use Rattle.reasons.specs.Reasons.{placed, no_reason, named, first, first_from}

-- ---- by its place: of tests that were made, and of their list

abbrev pub placed_at : ℕ → Option ℕ → Reason
placed_at n None = no_reason
placed_at n (Some i) = placed (n + i)

-- one place on
next : (m k n : ℕ) → placed_at (suc m) (cond (ltb k n) (Some k) None) ≡ placed_at m (cond (ltb (1 + k) (suc n)) (Some (1 + k)) None)
next m k n = by (ltb k n) refl
  where
    by : (t : Bool) → ltb k n ≡ t → placed_at (suc m) (cond t (Some k) None) ≡ placed_at m (cond (ltb (1 + k) (suc n)) (Some (1 + k)) None)
    by true e = rw (lt-ltb (1 + k) (suc n) (omega (arith, ltb-true k n e))) (ap placed (omega arith))
    by false e = rw (le-ltb (1 + k) (suc n) (omega (arith, ltb-false k n e))) refl

first-at : (n : ℕ) (tests : List Bool) → first_from n (λ t. t) named tests ≡ placed_at n (position (λ t. t) tests)
unfolding first_from
first-at n [] = refl
first-at n (true ∷ tests) = rw (lt-ltb 0 (suc (length tests)) (omega arith)) (ap placed (sym (add-zero n)))
first-at n (false ∷ tests) = first-at (suc n) tests ∙ next n (position_or_len (λ t. t) tests) (length tests)

pub first-position : (tests : List Bool) → placed_at 1 (position (λ t. t) tests) ≡ first (λ t. t) named tests
first-position tests = sym (first-at 1 tests)

pub first-made : {A : Type 0} (test : A → Bool) (n : ℕ) (xs : List A) → first_from n (λ t. t) named (map test xs) ≡ first_from n test named xs
unfolding first_from
first-made test n [] = refl
first-made test n (x ∷ xs) = ap (cond (test x) (placed n)) (first-made test (suc n) xs)

-- ---- as the first that is some

module _ {A : Type 0} (test : A → Bool) (said : ℕ → A → Reason) where
  abbrev pub at_fault : ℕ → A → Option Reason
  at_fault n x = cond (test x) (Some (said n x)) None

  pub first-of-six : (u v w x y z : A) →
      unwrap_or (option_or (option_or (option_or (option_or (option_or (at_fault 1 u) (at_fault 2 v)) (at_fault 3 w)) (at_fault 4 x)) (at_fault 5 y)) (at_fault 6 z)) no_reason
      ≡ first test said (u ∷ v ∷ w ∷ x ∷ y ∷ z ∷ [])
  unfolding first_from
  first-of-six u v w x y z = by (test u) (test v) (test w) (test x) (test y) (test z)
    where
      by : (a b c d e f : Bool) →
          unwrap_or
          (option_or
          (option_or (option_or (option_or (option_or (cond a (Some (said 1 u)) None) (cond b (Some (said 2 v)) None)) (cond c (Some (said 3 w)) None)) (cond d (Some (said 4 x)) None)) (cond e (Some (said 5 y)) None))
          (cond f (Some (said 6 z)) None))
          no_reason
          ≡ cond a (said 1 u) (cond b (said 2 v) (cond c (said 3 w) (cond d (said 4 x) (cond e (said 5 y) (cond f (said 6 z) no_reason)))))
      by true b c d e f = refl
      by false true c d e f = refl
      by false false true d e f = refl
      by false false false true e f = refl
      by false false false false true f = refl
      by false false false false false true = refl
      by false false false false false false = refl

-- ---- whether there is one: where every value passes a test, none fails it

module _ (test : Value → Bool) (said : ℕ → Value → Reason) (place : (n : ℕ) (v : Value) → (said n v).value ≡ n) where
  pub every-passes : (n : ℕ) (vs : List Value) → (first_from (suc n) (λ v. not (test v)) said vs).value ≡ 0 → every test vs ≡ true
  unfolding first_from
  every-passes n [] e = refl
  every-passes n (v ∷ vs) e = by (test v) (every-passes (suc n) vs) e
    where
      later : Reason
      later = first_from (suc (suc n)) (λ v. not (test v)) said vs

      by : (t : Bool) → (later.value ≡ 0 → every test vs ≡ true) → (cond (not t) (said (suc n) v) later).value ≡ 0 → (t and every test vs) ≡ true
      by true f e = f e
      by false f e = absurd (suc-ne-zero n (sym (place (suc n) v) ∙ e))

  pub none-fails : (n : ℕ) (vs : List Value) → every test vs ≡ true → first_from n (λ v. not (test v)) said vs ≡ no_reason
  unfolding first_from
  none-fails n [] e = refl
  none-fails n (v ∷ vs) e = by (test v) (none-fails (suc n) vs) e
    where
      later : Reason
      later = first_from (suc n) (λ v. not (test v)) said vs

      by : (t : Bool) → (every test vs ≡ true → later ≡ no_reason) → (t and every test vs) ≡ true → cond (not t) (said n v) later ≡ no_reason
      by true f e = f e
      by false f e = clash e refl
