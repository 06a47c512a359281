-- No call on a record is refused by 14: no rule of it has that number.
use Prim.Native.Nat.{ℕ}
use mathlib.Core.Path.{◌≡◌, refl, sym}
use mathlib.Core.Bool.{Bool, true, false, not}
use mathlib.Core.List.{List, [], ◌∷◌}
use native.Mathlib.Nat.{suc-ne-zero}
use lib.Dec.{eqb}
use borrow.Author.Tests.{eqb-false}
use Rattle.integers.specs.Tests.{◌and◌, joined}
use Rattle.rules.specs.Rules.{NotZero, first_of}
use Rattle.ticks.specs.declared.Sample.{Sample}
use Rattle.session.specs.declared.Session.{Session}
use Rattle.session.specs.Requests.{Request}
use Rattle.steps.specs.Refusals.{open_rules, open_refusal, predict_rules, predict_refusal, correct_rules, correct_refusal, withdraw_rules, withdraw_refusal}

-- no test stands beside n
abbrev without : ℕ → List (Bool × ℕ) → Bool
without n [] = true
without n ((t, m) ∷ rest) = not (eqb m n) and without n rest

-- then they do not give n, unless it is 0
not-given : (n : ℕ) (xs : List (Bool × ℕ)) → NotZero n → without n xs ≡ true → ¬ (first_of xs ≡ n)
unfolding first_of
not-given n [] z l e = z (sym e)
not-given n ((true, m) ∷ rest) z l e = let (f, _) = simp joined at l in eqb-false m n f e
not-given n ((false, m) ∷ rest) z l e = let (_, g) = simp joined at l in not-given n rest z g e

not-fourteen : (xs : List (Bool × ℕ)) → without 14 xs ≡ true → ¬ (first_of xs ≡ 14)
not-fourteen xs = not-given 14 xs (suc-ne-zero 13)

pub open-not-14 : (r : Request) → ¬ (open_refusal r ≡ 14)
unfolding open_refusal
open-not-14 r = not-fourteen (open_rules r) refl

pub predict-not-14 : (s : Session) → ¬ (predict_refusal s ≡ 14)
unfolding predict_refusal
predict-not-14 s = not-fourteen (predict_rules s) refl

pub correct-not-14 : (s : Session) (a : Sample) → ¬ (correct_refusal s a ≡ 14)
unfolding correct_refusal
correct-not-14 s a = not-fourteen (correct_rules s a) refl

pub withdraw-not-14 : (s : Session) → ¬ (withdraw_refusal s ≡ 14)
unfolding withdraw_refusal
withdraw-not-14 s = not-fourteen (withdraw_rules s) refl
