-- The table: every worked row.
use Rattle.std.specs.Prelude.{List, ◌++◌}
use Rattle.integers.specs.Lines.{Line}
use Rattle.worked.specs.Filled.{numbers, values, older_sums, states}
use Rattle.worked.specs.Starting.{settings, axes}
use Rattle.worked.specs.Refused.{openings, predictions, corrections, first_rounds, later_rounds}
use Rattle.worked.specs.Steps3 as Steps3
use Rattle.worked.specs.Steps9 as Steps9
use Rattle.worked.specs.Rounds3 as Rounds3
use Rattle.worked.specs.Rounds9 as Rounds9

-- records that a host filled
abbrev pub filled_records : List Line
filled_records = numbers ++ values ++ older_sums ++ states ++ settings ++ axes

-- calls that are refused
abbrev pub refusals : List Line
refusals = openings ++ predictions ++ corrections ++ first_rounds ++ later_rounds

-- sessions and starts with all their numbers
abbrev pub steps : List Line
steps = Steps3.rows ++ Steps9.rows

abbrev pub rounds : List Line
rounds = Rounds3.rows ++ Rounds9.rows

abbrev pub worked : List Line
worked = filled_records ++ refusals ++ steps ++ rounds
