-- Every record that a call leaves is closed and zero, untouched, or one that holds; and which of these, by the number. Open looks at no earlier record.
use mathlib.Core.Path.{◌≡◌, refl, sym, ap, ◌∙◌}
use mathlib.Core.Logic.{◌⊎◌, inl, inr, ⊎_elim}
use mathlib.Core.Bool.{Bool, true, false, not}
use Prim.Native.Nat.{ℕ, zero, suc, ◌+◌, ◌<◌}
use native.Mathlib.Nat.{suc-ne-zero}
use borrow.Author.Tests.{leb-false, eqb-true, eqb-false}
use lib.Dec.{eqb}
use Rattle.integers.specs.Tests.{◌and◌}
use Rattle.ticks.specs.declared.Sample.{Sample}
use Rattle.ticks.specs.Samples.{whole_of}
use Rattle.ticks.proofs.Faults.{whole-within}
use Rattle.session.specs.declared.Point.{Point}
use Rattle.session.specs.declared.Session.{Session}
use Rattle.session.specs.Numbers.{most_points}
use Rattle.session.specs.Moves.{corrected_point, settled_again, closed_session}
use Rattle.session.specs.Holding.{holds, settled, awaiting}
use Rattle.session.proofs.Rules.{settled-holds, awaiting-holds}
use Rattle.session.proofs.Kept.{predicted-holds, corrected-point-placed, again-holds, accepted-holds, settled-again, opened-session-holds}
use Rattle.rules.specs.Rules.{NotZero}
use Rattle.session.specs.Requests.{Request, exact_point}
use Rattle.steps.specs.Opening.{axis_samples, opened_with}
use Rattle.steps.specs.Refusals.{open_refusal, full, predict_refusal, agrees, is_last, correct_refusal, withdraw_refusal}
use Rattle.steps.specs.Steps.{open_by, open_of, predict_by, predict_of, judged, correct_by, correct_of, withdraw_by, withdraw_of}
use Rattle.steps.proofs.Given.{exact-point-placed, samples-small}
use Rattle.steps.proofs.Refusals.{opened-points, opened-settings, opened-range, predicted-settled, predicted-room, predicted-range, corrected-awaiting, corrected-range, corrected-more, ended-awaiting, withdrawn-awaiting}
use Rattle.steps.proofs.Results.{open-refuses, predict-refuses, correct-refuses, withdraw-refuses}

-- ---- by the number

module _ (r : Request) where
  pub open-closes : NotZero (open_refusal r) → (open_of r).session ≡ closed_session
  unfolding open_of
  open-closes f = ap (λ a. a.session) (open-refuses r (open_refusal r) f)

  pub open-settles : open_refusal r ≡ 0 → settled (open_of r).session ≡ true
  unfolding open_of opened_with
  open-settles e =
      let p = r.points in
      let xs = r.floats in
      ap (λ n. settled (open_by n r).session) e
      ∙ opened-session-holds p r.tolerances r.limit (exact_point r.point) (axis_samples p 0 xs) (axis_samples p 1 xs) (axis_samples p 2 xs)
      (opened-points r e) (opened-settings r e) (exact-point-placed r.point (opened-range r e)) (samples-small p 0 xs) (samples-small p 1 xs) (samples-small p 2 xs)

module _ (s : Session) where
  pub predict-untouched : NotZero (predict_refusal s) → (predict_of s).session ≡ s
  unfolding predict_of
  predict-untouched f = ap (λ a. a.session) (predict-refuses s (predict_refusal s) f)

  pub predict-awaits : predict_refusal s ≡ 0 → awaiting (predict_of s).session ≡ true
  unfolding predict_of full
  predict-awaits e =
      ap (λ n. awaiting (predict_by n s).session) e
      ∙ predicted-holds s (predicted-settled s e) (leb-false most_points s.accepted (predicted-room s e)) (predicted-range s e)

  pub withdraw-untouched : NotZero (withdraw_refusal s) → (withdraw_of s).session ≡ s
  unfolding withdraw_of
  withdraw-untouched f = ap (λ a. a.session) (withdraw-refuses s (withdraw_refusal s) f)

  pub withdraw-settles : withdraw_refusal s ≡ 0 → settled (withdraw_of s).session ≡ true
  unfolding withdraw_of
  withdraw-settles e = ap (λ n. settled (withdraw_by n s).session) e ∙ settled-again s (awaiting-holds s (withdrawn-awaiting s e))

module _ (s : Session) (a : Sample) where
  abbrev corrected : Point
  corrected = corrected_point s (whole_of a)

  pub correct-untouched : NotZero (correct_refusal s a) → (correct_refusal s a ≡ 8 → ⊥) → (correct_of s a).session ≡ s
  unfolding correct_of
  correct-untouched f g = ap (λ r. r.session) (correct-refuses s a (correct_refusal s a) f g)

  pub correct-ends : correct_refusal s a ≡ 8 → (correct_of s a).session ≡ settled_again s
  unfolding correct_of
  correct-ends e = ap (λ n. (correct_by n s (whole_of a)).session) e

  not_last : is_last s ≡ false → s.corrections + 1 < s.limit
  unfolding is_last
  not_last = leb-false s.limit (s.corrections + 1)

  pub correct-moves : correct_refusal s a ≡ 0 → (settled (correct_of s a).session ≡ true) ⊎ (awaiting (correct_of s a).session ≡ true)
  unfolding correct_of
  correct-moves e = rw e (by (agrees s corrected) refl)
    where
      by : (t : Bool) → agrees s corrected ≡ t → (settled (judged t s (whole_of a) corrected).session ≡ true) ⊎ (awaiting (judged t s (whole_of a) corrected).session ≡ true)
      by true f = inl (accepted-holds s (whole_of a) (corrected-awaiting s a e) (whole-within a) (corrected-range s a e))
      by false f =
          let more : is_last s ≡ false = ap (λ t. not t and is_last s) (sym f) ∙ corrected-more s a e in
          inr (again-holds s corrected (corrected-awaiting s a e) (not_last more) (corrected-point-placed s (whole_of a) (corrected-range s a e)))

-- ---- whatever the number

pub zero_or_not : (n : ℕ) → (n ≡ 0) ⊎ NotZero n
zero_or_not zero = inl refl
zero_or_not (suc n) = inr (suc-ne-zero n)

pub open-leaves : (r : Request) → ((open_of r).session ≡ closed_session) ⊎ (holds (open_of r).session ≡ true)
open-leaves r = ⊎_elim (λ e. inr (settled-holds (open_of r).session (open-settles r e))) (λ f. inl (open-closes r f)) (zero_or_not (open_refusal r))

pub predict-leaves : (s : Session) → ((predict_of s).session ≡ s) ⊎ (holds (predict_of s).session ≡ true)
predict-leaves s =
    ⊎_elim (λ e. inr (awaiting-holds (predict_of s).session (predict-awaits s e))) (λ f. inl (predict-untouched s f)) (zero_or_not (predict_refusal s))

pub withdraw-leaves : (s : Session) → ((withdraw_of s).session ≡ s) ⊎ (holds (withdraw_of s).session ≡ true)
withdraw-leaves s =
    ⊎_elim (λ e. inr (settled-holds (withdraw_of s).session (withdraw-settles s e))) (λ f. inl (withdraw-untouched s f)) (zero_or_not (withdraw_refusal s))

pub correct-leaves : (s : Session) (a : Sample) → ((correct_of s a).session ≡ s) ⊎ (holds (correct_of s a).session ≡ true)
correct-leaves s a = ⊎_elim (λ e. inr (⊎_elim (settled-holds after) (awaiting-holds after) (correct-moves s a e))) refused (zero_or_not (correct_refusal s a))
  where
    after : Session
    after = (correct_of s a).session

    ended : correct_refusal s a ≡ 8 → holds after ≡ true
    ended e = ap holds (correct-ends s a e) ∙ settled-holds (settled_again s) (settled-again s (awaiting-holds s (ended-awaiting s a e)))

    by : (t : Bool) → eqb (correct_refusal s a) 8 ≡ t → NotZero (correct_refusal s a) → (after ≡ s) ⊎ (holds after ≡ true)
    by true e f = inr (ended (eqb-true (correct_refusal s a) 8 e))
    by false e f = inl (correct-untouched s a f (eqb-false (correct_refusal s a) 8 e))

    refused : NotZero (correct_refusal s a) → (after ≡ s) ⊎ (holds after ≡ true)
    refused = by (eqb (correct_refusal s a) 8) refl
