-- What is known of a call that nothing refuses: by the number of each rule, that it did not apply.
use mathlib.Core.Path.{◌≡◌, refl}
use mathlib.Core.Bool.{true, false, not}
use native.Mathlib.Omega.{arith}
use borrow.Author.Tests.{not-false}
use Rattle.integers.specs.Tests.{◌and◌}
use Rattle.rules.proofs.Tests.{not_first, clear}
use Rattle.ticks.specs.declared.Sample.{Sample}
use Rattle.ticks.specs.Samples.{whole_of}
use Rattle.session.specs.declared.Session.{Session}
use Rattle.session.specs.Numbers.{points_hold, settings_hold}
use Rattle.session.specs.Moves.{predicted_point, corrected_point, point_in_range}
use Rattle.session.specs.Holding.{settled, awaiting}
use Rattle.session.specs.Requests.{Request, exact_point}
use Rattle.steps.specs.Refusals.{open_rules, open_refusal, full, predict_rules, predict_refusal, agrees, is_last, correct_rules, correct_refusal, withdraw_rules, withdraw_refusal}

module _ (r : Request) (e : open_refusal r ≡ 0) where
  pub opened-points : points_hold r.points ≡ true
  unfolding open_refusal
  opened-points = not-false (points_hold r.points) (clear 1 (open_rules r) refl e).0

  pub opened-settings : settings_hold r.tolerances r.limit ≡ true
  unfolding open_refusal
  opened-settings = not-false (settings_hold r.tolerances r.limit) (clear 3 (open_rules r) refl e).0

  pub opened-range : point_in_range (exact_point r.point) ≡ true
  unfolding open_refusal
  opened-range = not-false (point_in_range (exact_point r.point)) (clear 6 (open_rules r) refl e).0

module _ (s : Session) (e : predict_refusal s ≡ 0) where
  pub predicted-settled : settled s ≡ true
  unfolding predict_refusal
  predicted-settled = not-false (settled s) (clear 7 (predict_rules s) refl e).0

  pub predicted-room : full s ≡ false
  unfolding predict_refusal
  predicted-room = (clear 9 (predict_rules s) refl e).0

  pub predicted-range : point_in_range (predicted_point s) ≡ true
  unfolding predict_refusal
  predicted-range = not-false (point_in_range (predicted_point s)) (clear 6 (predict_rules s) refl e).0

module _ (s : Session) (a : Sample) (e : correct_refusal s a ≡ 0) where
  pub corrected-awaiting : awaiting s ≡ true
  unfolding correct_refusal
  corrected-awaiting = not-false (awaiting s) (clear 7 (correct_rules s a) refl e).0

  pub corrected-range : point_in_range (corrected_point s (whole_of a)) ≡ true
  unfolding correct_refusal
  corrected-range = not-false (point_in_range (corrected_point s (whole_of a))) (clear 6 (correct_rules s a) refl e).0

  -- it agrees, or is not the last
  pub corrected-more : (not (agrees s (corrected_point s (whole_of a))) and is_last s) ≡ false
  unfolding correct_refusal
  corrected-more = (clear 8 (correct_rules s a) refl e).0

-- where 8 is given a correction was awaited
pub ended-awaiting : (s : Session) (a : Sample) → correct_refusal s a ≡ 8 → awaiting s ≡ true
unfolding correct_refusal
ended-awaiting s a e = not-false (awaiting s) (not_first (not (awaiting s)) 7 8 _ e (λ h. omega arith))

pub withdrawn-awaiting : (s : Session) → withdraw_refusal s ≡ 0 → awaiting s ≡ true
unfolding withdraw_refusal
withdrawn-awaiting s e = not-false (awaiting s) (clear 7 (withdraw_rules s) refl e).0
