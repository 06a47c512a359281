-- What each call gives, the record and the answer, by the number that its rules give.
use mathlib.Core.Path.{◌≡◌, refl, sym, ap, ◌∙◌}
use mathlib.Core.Bool.{Bool, cond}
use mathlib.Core.List.{List}
use Prim.Native.Nat.{ℕ, zero, suc}
use borrow.Author.Tests.{ne_eqb}
use native.Mathlib.Nat.{suc-ne-zero}
use native.Mathlib.Omega.{arith}
use Rattle.rules.specs.Rules.{NotZero, first_of, Gives}
use Rattle.ticks.specs.declared.Sample.{Sample}
use Rattle.ticks.specs.Samples.{whole_of}
use Rattle.session.specs.declared.Session.{Session}
use Rattle.session.specs.Moves.{settled_again, closed_session}
use Rattle.session.specs.Requests.{Request}
use Rattle.steps.specs.declared.Correction.TheVariants as C
use Rattle.steps.specs.Refusals.{open_rules, open_refusal, predict_rules, predict_refusal, correct_rules, correct_refusal, withdraw_rules, withdraw_refusal}
use Rattle.steps.specs.Steps.{open_by, open_of, predict_by, predict_of, correct_by, correct_of, withdraw_by, withdraw_of}
use Rattle.std.specs.Prelude.{Ok, Err}
use Rattle.steps.specs.Answers.{unrefused}

module _ (r : Request) where
  pub open_gives : {n : ℕ} → Gives (open_rules r) n → open_by n r ≡ open_of r
  unfolding open_of open_refusal
  open_gives g = ap (λ n. open_by n r) (sym g.first)

  -- a refusal closes the record
  pub open-refuses : (n : ℕ) → NotZero n → open_by n r ≡ record { session = closed_session; answer = Err n }
  open-refuses zero f = absurd (f refl)
  open-refuses (suc n) f = refl

module _ (s : Session) where
  pub predict-gives : {n : ℕ} → Gives (predict_rules s) n → predict_by n s ≡ predict_of s
  unfolding predict_of predict_refusal
  predict-gives g = ap (λ n. predict_by n s) (sym g.first)

  -- a refusal leaves the record as it was
  pub predict-refuses : (n : ℕ) → NotZero n → predict_by n s ≡ record { session = s; answer = Err n }
  predict-refuses zero f = absurd (f refl)
  predict-refuses (suc n) f = refl

  pub withdraw-gives : {n : ℕ} → Gives (withdraw_rules s) n → withdraw_by n s ≡ withdraw_of s
  unfolding withdraw_of withdraw_refusal
  withdraw-gives g = ap (λ n. withdraw_by n s) (sym g.first)

  pub withdraw-refuses : (n : ℕ) → NotZero n → withdraw_by n s ≡ record { session = s; answer = Err n }
  withdraw-refuses zero f = absurd (f refl)
  withdraw-refuses (suc n) f = refl

module _ (s : Session) (a : Sample) where
  pub correct-gives : {n : ℕ} → Gives (correct_rules s a) n → correct_by n s (whole_of a) ≡ correct_of s a
  unfolding correct_of correct_refusal
  correct-gives g = ap (λ n. correct_by n s (whole_of a)) (sym g.first)

  -- 8 ends the wait, and every other refusal leaves the record as it was
  pub correct-refuses : (n : ℕ) → NotZero n → (n ≡ 8 → ⊥) → correct_by n s (whole_of a) ≡ record { session = s; answer = C.Refused n }
  correct-refuses zero f g = absurd (f refl)
  correct-refuses (suc n) f g = ap (λ t. record { session = cond t (settled_again s) s; answer = C.Refused (suc n) }) (ne_eqb (suc n) 8 g)

-- ---- a value, unless a number refuses it

clash-of : ◌≡◌ {A = ℕ} 0 1 → ⊥
clash-of h = omega arith

module _ {A : Type 0} {tests : List (Bool × ℕ)} (v : A) where
  -- the rules refuse it
  pub refuses : {n m : ℕ} → m ≡ n → NotZero n → Gives tests n → Err m ≡ unrefused (first_of tests) v
  refuses {n} e f g = ap Err e ∙ go n f ∙ ap (λ k. unrefused k v) (sym g.first)
    where
      go : (n : ℕ) → NotZero n → Err n ≡ unrefused n v
      go zero f = absurd (f refl)
      go (suc n) f = refl

  -- no rule applies
  pub passes : {w : A} → w ≡ v → Gives tests 0 → Ok w ≡ unrefused (first_of tests) v
  passes e g = ap Ok e ∙ ap (λ k. unrefused k v) (sym g.first)

module _ {A : Type 0} (v : A) where
  -- what the code found, by what it gives
  pub passed-value : (n : ℕ) {w : A} → Ok w ≡ unrefused n v → (n ≡ 0) × (w ≡ v)
  passed-value zero e = (refl, cc)
  passed-value (suc n) e = absurd (clash-of (cc))

  pub refused-number : (n : ℕ) {m : ℕ} → Err m ≡ unrefused n v → (n ≡ m) × NotZero m
  refused-number zero e = absurd (clash-of (cc))
  refused-number (suc n) e = let h : suc n ≡ _ = cc in (h, λ z. suc-ne-zero n (h ∙ z))
