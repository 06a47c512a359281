-- How a run ends, with its number and its counts. Definitions only.
use Rattle.std.specs.Prelude.{◌≡◌, ◌⊎◌, List, [], ◌∷◌, ℕ, ◌%◌, ◌≤◌, ◌<◌, Float, length}
use Rattle.rules.specs.Rules.{Rule, rule}
use Rattle.session.specs.declared.Session.{Session}
use Rattle.demands.specs.Records.{SettledRecord, AwaitingRecord}
use Rattle.running.specs.Runs.{AfterRun}

-- a run that makes no call: 7 unless the session is settled, then 2 unless the floats are three for each sample
abbrev pub run_table : Session → List Float → List Rule
run_table s floats =
    rule 7 (¬ SettledRecord s)
    ∷ rule 2 (¬ (length floats % 3 ≡ 0))
    ∷ []

-- a number is one of a list
abbrev pub OneOf : List ℕ → ℕ → Type 0
OneOf [] n = ⊥
OneOf (m ∷ ms) n = (n ≡ m) ⊎ OneOf ms n

-- one that makes calls, with `all` samples to take
pub data Ending (wanted all : ℕ) (r : AfterRun) : Type 0 where
  -- it has the points
  enough : r.answer.number ≡ 0 → r.answer.points ≡ wanted → r.answer.used ≤ all → Ending wanted all r
  -- no sample is left; the session is settled or awaits a correction
  no_sample_left : r.answer.number ≡ 0 → r.answer.points < wanted → r.answer.used ≡ all → Ending wanted all r
  -- a prediction is refused: the session is settled, and the next sample is not used
  unpredicted : OneOf (9 ∷ 6 ∷ []) r.answer.number → r.answer.points < wanted → r.answer.used < all → SettledRecord r.session → Ending wanted all r
  -- a sample is refused: it is used, and the session awaits a correction still
  refused : OneOf (4 ∷ 13 ∷ 5 ∷ 6 ∷ []) r.answer.number → r.answer.points < wanted → r.answer.used ≤ all → AwaitingRecord r.session → Ending wanted all r
  -- the last correction that the limit allows did not agree: the session is settled at the point before
  limited : r.answer.number ≡ 8 → r.answer.points < wanted → r.answer.used ≤ all → SettledRecord r.session → Ending wanted all r
