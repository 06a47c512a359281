-- For the way a sample is taken: a session that awaits a correction, which predicts first where it does not; or the number that refuses its prediction.
-- Definitions only.
use Rattle.std.specs.Prelude.{ℕ, Bool, true, false, Result, Ok, Err}
use Rattle.session.specs.declared.Session.{Session}
use Rattle.session.specs.Holding.{is_awaiting}
use Rattle.steps.specs.Answers.{Prediction}
use Rattle.steps.specs.Steps.{predict_of}

abbrev pub readied_to : Session → Prediction → Result Session ℕ
readied_to s (Ok q) = Ok s
readied_to s (Err n) = Err n

abbrev pub readied_by : Bool → Session → Result Session ℕ
readied_by true s = Ok s
readied_by false s = readied_to (predict_of s).session (predict_of s).answer

unfoldable pub readied : Session → Result Session ℕ
readied s = readied_by (is_awaiting s.state) s
