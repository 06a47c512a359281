-- Every answer that a call gives is faithful, and a change of an *again* is reported above zero.
use mathlib.Core.Path.{◌≡◌, refl, sym, subst}
use mathlib.Core.Bool.{Bool, true, false, cond}
use Prim.Native.Nat.{ℕ, zero, suc, ◌*◌, ◌^◌, ◌≤◌, ◌<◌}
use lib.Dec.{T}
use lib.Ieee.Positive.{positive}
use lib.IntN.{pos, nat_abs}
use lib.Signed.{◌<ℤ◌}
use Rattle.integers.specs.Parts.{integers}
use Rattle.exact.specs.declared.Exact.{Exact}
use Rattle.exact.specs.Numerator.{D, exact_of, numerator, Bounded}
use Rattle.exact.specs.Report.{reported_of}
use Rattle.exact.proofs.Laws.{part-below}
use Rattle.exact.proofs.Bounds.{widen}
use Rattle.exact.proofs.Casts.{whole_back, part-back, position-reports}
use Rattle.exact.proofs.Ordinary.{report-ordinary, report-positive}
use Rattle.ticks.specs.declared.Sample.{Sample}
use Rattle.ticks.specs.Samples.{whole_of}
use Rattle.axis.specs.declared.Motion.{Motion}
use Rattle.axis.specs.declared.Tolerances.{Tolerances}
use Rattle.axis.specs.Formulas.{motion_of, still}
use Rattle.axis.specs.Agreement.{sizes}
use Rattle.axis.specs.Kinds.{Kind, of_position, of_velocity, tolerance_of}
use Rattle.axis.specs.Ready.{Placed}
use Rattle.axis.proofs.Kept.{still_placed}
use Rattle.axis.proofs.Agreement.{size-reports}
use Rattle.session.specs.declared.Point.{Point}
use Rattle.session.specs.declared.Session.{Session}
use Rattle.session.specs.Moves.{nowhere, predicted_point, corrected_point}
use Rattle.session.specs.Ready.{PlacedPoint}
use Rattle.session.proofs.Rules.{waiting}
use Rattle.session.proofs.Apart.{Over}
use Rattle.session.proofs.Kept.{predicted-point-placed, corrected-point-placed}
use Rattle.session.specs.Requests.{Request}
use Rattle.steps.specs.declared.ReportedMotion.{ReportedMotion}
use Rattle.steps.specs.declared.ReportedPoint.{ReportedPoint}
use Rattle.steps.specs.declared.Correction.TheVariants as C
use Rattle.steps.specs.Answers.{answer, reported_motion, reported_point, reported_change, no_point, no_change, opening_answer, prediction_answer, correction_answer, withdrawal_answer}
use Rattle.steps.specs.Faithful.{Faithful, FaithfulMotion, FaithfulPoint, FaithfulAnswer}
use Rattle.steps.specs.Refusals.{open_refusal, predict_refusal, agrees, largest_change, correct_refusal, withdraw_refusal}
use Rattle.steps.specs.Steps.{open_of, predict_of, predict_answer_by, correct_of, correct_answer_by, withdraw_of}
use Rattle.steps.proofs.Refusals.{predicted-range, corrected-awaiting, corrected-range}
use Rattle.steps.proofs.Answers.{open-answers, predict-answers, correct-answers, withdraw-answers}
use Rattle.steps.proofs.Changes.{reported_in, size_in, again-over, largest-within}

-- ---- values

faithful : (e : Exact) → e.part < D → nat_abs e.whole ≤ 2 ^ 53 → Faithful (reported_of e)
faithful e p w = record { report = refl; part = p; whole = w; part-back = part-back e p; whole_back = whole_back e.whole w; ordinary = report-ordinary e p w }

bounded : {e : Exact} → Bounded (2 ^ 52) e → Faithful (reported_of e)
bounded {e} b = faithful e b.small (position-reports e b)

motion : (m : Motion) → Placed m → FaithfulMotion (reported_motion m)
unfolding reported_motion
motion m p = record { position = bounded p.position; velocity = bounded (widen (2 ^ 52) p.velocity tt) }

pub point : (q : Point) → PlacedPoint q → FaithfulPoint (reported_point q)
unfolding reported_point
point q p = record { on-x = motion q.x p.on-x; on-y = motion q.y p.on-y; on-z = motion q.z p.on-z }

pub no-point : FaithfulPoint no_point
unfolding no_point nowhere
no-point = point nowhere (record { on-x = still_placed; on-y = still_placed; on-z = still_placed })

size-faithful : (n : ℕ) → n ≤ 2 ^ 53 * D → Faithful (reported_of (exact_of (pos n)))
size-faithful n h = faithful (exact_of (pos n)) (part-below (pos n)) (size-reports n h)

pub change : (size : Kind → ℕ) → ((kind : Kind) → size kind ≤ 2 ^ 53 * D) → FaithfulMotion (reported_change size)
unfolding reported_change reported_motion sizes motion_of
change size h = record { position = size-faithful (size of_position) (h of_position); velocity = size-faithful (size of_velocity) (h of_velocity) }

pub no_change_lem : FaithfulMotion no_change
unfolding no_change
no_change_lem = motion still still_placed

-- one kind of a motion
pub faithful-in : (m : ReportedMotion) → FaithfulMotion m → (kind : Kind) → Faithful (reported_in kind m)
faithful-in m f of_position = f.position
faithful-in m f of_velocity = f.velocity

-- a change that is over its tolerance is reported above zero
pub record ReportedOver (t : Tolerances) (c : ReportedMotion) : Type 0 where
  pub kind : Kind
  pub over : pos (tolerance_of kind t * D) <ℤ numerator (reported_in kind c).exact
  pub positive : T (positive (reported_in kind c).report)

pub reported-over : (t : Tolerances) (c : ReportedMotion) (size : Kind → ℕ) → c ≡ reported_change size → Over t size → FaithfulMotion c → ReportedOver t c
reported-over t c size f (kind, h) r =
    let g = size_in size kind f in
    let v = faithful-in c r kind in
    record {
      kind = kind;
      over = omega integers;
      positive = subst (λ x. T (positive x)) (sym v.report) (report-positive (reported_in kind c).exact v.part v.whole (omega integers));
    }

-- ---- answers

nothing : (n : ℕ) → FaithfulAnswer (answer n 0 no_point no_change)
nothing n = record { point = no-point; change = no_change_lem }

pub open-faithful : (r : Request) → FaithfulAnswer (opening_answer (open_of r).answer)
open-faithful r = subst FaithfulAnswer (sym (open-answers r)) (nothing (open_refusal r))

pub withdraw-faithful : (s : Session) → FaithfulAnswer (withdrawal_answer (withdraw_of s).answer)
withdraw-faithful s = subst FaithfulAnswer (sym (withdraw-answers s)) (nothing (withdraw_refusal s))

pub predict-faithful : (s : Session) → FaithfulAnswer (prediction_answer (predict_of s).answer)
predict-faithful s = subst FaithfulAnswer (sym (predict-answers s)) (go (predict_refusal s) refl)
  where
    go : (n : ℕ) → predict_refusal s ≡ n → FaithfulAnswer (predict_answer_by n s)
    go zero e = record { point = point (predicted_point s) (predicted-point-placed s (predicted-range s e)); change = no_change_lem }
    go (suc n) e = nothing (suc n)

module _ (s : Session) (a : Sample) where
  abbrev corrected : Point
  corrected = corrected_point s (whole_of a)

  pub correct-faithful : FaithfulAnswer (correction_answer (correct_of s a).answer)
  correct-faithful = subst FaithfulAnswer (sym (correct-answers s a)) (go (correct_refusal s a) refl)
    where
      by : (t : Bool) → PlacedPoint corrected → FaithfulMotion (reported_change (largest_change s corrected)) → FaithfulAnswer (answer 0 (cond t 1 2) (reported_point corrected) (cond t no_change (reported_change (largest_change s corrected))))
      by true p c = record { point = point corrected p; change = no_change_lem }
      by false p c = record { point = point corrected p; change = c }

      go : (n : ℕ) → correct_refusal s a ≡ n → FaithfulAnswer (correct_answer_by n s corrected)
      go zero e =
          let p = corrected-point-placed s (whole_of a) (corrected-range s a e) in
          by (agrees s corrected) p (change (largest_change s corrected) (largest-within s corrected (waiting s (corrected-awaiting s a e)) p))
      go (suc n) e = record { point = no-point; change = no_change_lem }

  -- a change that *again* carries is over its tolerance, and reported above zero
  pub again-reported-over : (q : ReportedPoint) (c : ReportedMotion) → (correct_of s a).answer ≡ C.Again q c → ReportedOver s.tolerances c
  again-reported-over q c e =
      let (size, (f, h)) = again-over s a q c e in
      reported-over s.tolerances c size f h (subst (λ t. FaithfulAnswer (correction_answer t)) e correct-faithful).change
