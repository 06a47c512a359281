-- What the call of a line gives: an opening, a first round, a later one or a run by its floats, and a loading by its bytes.
use Rattle.std.specs.Prelude.{cond, List, Float, ◌==◌}
use Rattle.image.specs.declared.Loaded.{Loaded}
use Rattle.script.specs.declared.calls.OpenCall.{OpenCall}
use Rattle.script.specs.declared.run_lines.RunCall.{RunCall}
use Rattle.session.specs.declared.Session.{Session}
use Rattle.session.specs.Requests.{Request, request}
use Rattle.steps.specs.Steps.{open_of}
use Rattle.epoch_steps.specs.Steps.{start_of, refine_of}
use Rattle.running.specs.Runs.{run_of, AfterRun}
use Rattle.steps.specs.Answers.{AfterOpen}
use Rattle.epoch_steps.specs.Answers.{AfterRound}

-- the line's settings, its point and its floats
abbrev pub asked_by : OpenCall → Request
asked_by call =
    let set = call.settings in
    request set.points set.tolerances set.limit call.point call.floats

abbrev pub opened_by : OpenCall → AfterOpen
opened_by call = open_of (asked_by call)

-- the same of a first round, and of a later one, which has floats alone
abbrev pub started_by : OpenCall → AfterRound
started_by call = start_of (asked_by call)

abbrev pub refined_by : Session → List Float → AfterRound
refined_by s floats = refine_of s floats

abbrev pub ran_by : Session → RunCall → AfterRun
ran_by s call = run_of s call.floats call.wanted

-- the session that is loaded, and with 14 the one that was there
unfoldable pub loaded_by : Session → Loaded → Session
loaded_by s read = cond (read.number == 0) read.session s
