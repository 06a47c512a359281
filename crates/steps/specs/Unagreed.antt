-- What a correction comes to whose point does not agree, by whether it is the last that the limit allows: the code finds it in a function of its own.
-- Definitions only.
use Rattle.std.specs.Prelude.{◌+◌, Bool, true, false}
use Rattle.session.specs.declared.Point.{Point}
use Rattle.session.specs.declared.Session.{Session}
use Rattle.session.specs.Moves.{settled_again, awaiting_at}
use Rattle.steps.specs.declared.ReportedPoint.{ReportedPoint}
use Rattle.steps.specs.declared.Correction.TheVariants as C
use Rattle.steps.specs.Answers.{AfterCorrect, reported_change}
use Rattle.steps.specs.Refusals.{largest_change}

abbrev pub unagreed : Bool → Session → Point → ReportedPoint → AfterCorrect
unagreed true s q point = record { session = settled_again s; answer = C.Refused 8 }
unagreed false s q point = record { session = awaiting_at s (s.corrections + 1) q; answer = C.Again point (reported_change (largest_change s q)) }
