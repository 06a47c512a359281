-- What is proved of runs: `proofs/Theorems.antt` has a proof of each.
use Rattle.std.specs.Prelude.{◌≡◌, List, ℕ, ◌+◌, ◌*◌, ◌/◌, ◌≤◌, Float, length, take}
use Rattle.integers.specs.Lines.{All}
use Rattle.rules.specs.Rules.{NotZero, Exactly, Unrefused}
use Rattle.session.specs.declared.Session.{Session}
use Rattle.running.specs.Samples.{samples_in}
use Rattle.running.specs.Runs.{come, run_refusal, run_of}
use Rattle.demands.specs.Histories.{ours, after, history, entries, samples_of}
use Rattle.demands.specs.Records.{OpenRecord}
use Rattle.demands.specs.ClosedForm.{Origin, Begins}
use Rattle.promised.specs.Theorems.{Keeping, Counting, Together}
use Rattle.allowance.specs.Calls.{run_calls, handed, told, Turn, left_by, calls_in}
use Rattle.allowance.specs.Endings.{run_table, Ending}
use Rattle.allowance.specs.Figures.{figures}

-- ---- one run, on any session, with any floats and any number of points wanted

pub record EachRun : Type 0 where
  -- it leaves the session that its single calls leave, and where it makes calls its answer is what their answers tell
  pub left : (s : Session) (floats : List Float) (wanted : ℕ) → (run_of s floats wanted).session ≡ after ours s (run_calls s floats wanted)
  pub answer : (s : Session) (floats : List Float) (wanted : ℕ) → Unrefused (run_table s floats) →
      (run_of s floats wanted).answer ≡ told (history ours s (run_calls s floats wanted))
  -- the samples used are the first of the slice, each once and in order
  pub reads : (s : Session) (floats : List Float) (wanted : ℕ) → handed (run_calls s floats wanted) ≡ take (run_of s floats wanted).answer.used (samples_in floats)
  -- the allowance: the samples used are at most the limit times one more than the points settled
  pub allowance : (s : Session) (floats : List Float) (wanted : ℕ) →
      (run_of s floats wanted).answer.used ≤ s.limit * ((run_of s floats wanted).answer.points + 1)
  -- no more points than were wanted, and no more samples than there are
  pub points : (s : Session) (floats : List Float) (wanted : ℕ) → (run_of s floats wanted).answer.points ≤ wanted
  pub samples : (s : Session) (floats : List Float) (wanted : ℕ) → (run_of s floats wanted).answer.used ≤ length floats / 3
  -- 7 and 2 are given exactly where the table says so; nothing is called then, and both counts are 0
  pub refused : (s : Session) (floats : List Float) → Exactly (run_table s floats) (run_refusal s floats)
  pub unchanged : (s : Session) (floats : List Float) (wanted : ℕ) → NotZero (run_refusal s floats) → run_of s floats wanted ≡ come s (run_refusal s floats) 0 0
  -- else it ends in one of five ways
  pub ends : (s : Session) (floats : List Float) (wanted : ℕ) → Unrefused (run_table s floats) → Ending wanted (length floats / 3) (run_of s floats wanted)
  -- examples of each
  pub computed : All figures

-- ---- runs among single calls

pub record AnyTurns : Type 0 where
  -- a history with runs in it is the history of their single calls
  pub left : (s : Session) (turns : List Turn) → left_by s turns ≡ after ours s (calls_in s turns)
  -- so demands 2 and 3 hold of it, and the counts are those of the answers
  pub keeps : (o : Origin) (s : Session) → Begins o s → (turns : List Turn) → Keeping o (left_by s turns) (history ours s (calls_in s turns))
  pub counts : (s : Session) → OpenRecord s → (turns : List Turn) → Counting s (left_by s turns) (history ours s (calls_in s turns))
  -- two sessions that began alike and accepted the same samples, by runs or not, stand at one point
  pub alike : (o : Origin) (s t : Session) → Begins o s → Begins o t → (turns others : List Turn) →
      samples_of (entries (history ours s (calls_in s turns))) ≡ samples_of (entries (history ours t (calls_in t others))) →
      Together (left_by s turns) (left_by t others)
