-- A version that is to be turned down: where an accepted position on x is 2000 ticks or more, its answer is off by one remainder. Definitions only.
use Rattle.std.specs.Prelude.{◌+◌, cond, pos}
use Rattle.std.specs.Int.Signed.{le_z}
use Rattle.exact.specs.declared.Exact.{Exact}
use Rattle.steps.specs.declared.ReportedPoint.{ReportedPoint}
use Rattle.steps.specs.declared.Correction.{Correction}
use Rattle.steps.specs.declared.Correction.TheVariants as C
use Rattle.steps.specs.Steps.{predict_of, correct_of, withdraw_of}
use Rattle.demands.specs.Histories.{Implementation, ours}

abbrev slipped : Exact → Exact
slipped e = cond (le_z (pos 2000) e.whole) (record { whole = e.whole; part = e.part + 1 }) e

abbrev slipped_point : ReportedPoint → ReportedPoint
slipped_point q =
    record {
      x = record { position = record { exact = slipped q.x.position.exact; report = q.x.position.report }; velocity = q.x.velocity };
      y = q.y;
      z = q.z;
    }

abbrev slipped_answer : Correction → Correction
slipped_answer (C.Accepted q) = C.Accepted (slipped_point q)
slipped_answer (C.Again q c) = C.Again q c
slipped_answer (C.Refused n) = C.Refused n

abbrev pub slipping : Implementation
slipping =
    record {
      opens = ours.opens;
      predicts = predict_of;
      corrects = λ s a. record { session = (correct_of s a).session; answer = slipped_answer (correct_of s a).answer };
      withdraws = withdraw_of;
      starts = ours.starts;
      refines = ours.refines;
    }
