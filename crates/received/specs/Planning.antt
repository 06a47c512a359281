-- For the way a text is mended: a data line at a place, what is known of all of them, and the plan of what is written. Definitions only.
use Rattle.std.specs.Prelude.{ℕ, ◌+◌, ◌-◌, ◌≤◌, ◌<◌, ◌≡◌, Bool, true, cond, leb, length, take, drop}
use mathlib.Core.List.{List, [], ◌∷◌, ◌++◌, flatten, map}
use Rattle.integers.specs.Tests.{◌and◌}
use Rattle.calendar.specs.Calendar.{most_seconds}
use Rattle.message.specs.declared.Edition.{Edition}
use Rattle.message.specs.Message.{says, time_after}
use Rattle.received.specs.declared.surveying.Step.{Step}
use Rattle.received.specs.declared.surveying.Surveyed.{Surveyed}
use Rattle.received.specs.declared.planning.Plan.{Plan}
use Rattle.received.specs.Lines.{lines_in, past_line}
use Rattle.received.specs.Data.{datum_in, point_in, accepts, kept_of, first_seconds, last_seconds}
use Rattle.received.specs.Mending.{Change, change, drops_from, Mends, mend_of, words}
use Rattle.received.specs.Finding.{bytes_of}

-- ---- data lines

-- the line at a place
abbrev pub line_from : List ℕ → ℕ → List ℕ
line_from text at = take (past_line text at - at) (drop at text)

pub record Looked (text : List ℕ) (at earliest : ℕ) (r : Step) : Type 0 where
  pub past : r.end ≡ past_line text at
  pub more : at < r.end
  pub within : r.end ≤ length text
  pub taken : r.good ≡ accepts earliest (datum_in (line_from text at))
  pub time : r.good ≡ true → r.seconds ≡ (datum_in (line_from text at)).seconds
  pub early : r.seconds ≤ most_seconds

unfoldable pub surveyed_by : List (List ℕ) → List Change → Surveyed
surveyed_by kept drops =
    record {
      kept = length kept;
      bytes = bytes_of kept;
      dropped = length drops;
      first = first_seconds (map point_in kept);
      last = last_seconds (map point_in kept);
    }

abbrev pub survey_of : List (List ℕ) → Surveyed
survey_of lines = surveyed_by (kept_of 0 lines) (drops_from 0 0 lines)

-- ---- what is written

-- a change of a time that is not the one it has to be
unfoldable pub change_unless : Bool → ℕ → ℕ → List Change
change_unless same line what = cond same [] (change line what ∷ [])

module _ (text : List ℕ) (p : Plan) where
  abbrev pub data_lines : List (List ℕ)
  data_lines = lines_in (drop p.from text)

  -- what stands before the data, with two times
  unfoldable pub head_of : List (List ℕ)
  head_of =
      take p.start text
      ∷ says "START_TIME" (time_after p.first)
      ∷ says "STOP_TIME" (time_after p.last)
      ∷ take (p.from - p.stop) (drop p.stop text)
      ∷ []

  unfoldable pub planned_text : List ℕ
  planned_text = flatten head_of ++ flatten (kept_of 0 data_lines)

  unfoldable pub planned_list : List Change
  planned_list = change_unless p.starts p.line 2 ++ (change_unless p.stops (p.line + 1) 3 ++ drops_from p.number 0 data_lines)

  unfoldable pub room_in : ℕ → ℕ → Bool
  room_in out changes = leb (length planned_text) out and leb (length (words planned_list)) changes

  -- its places are in order, and its sizes are those of what is written
  pub record Planned : Type 0 where
    pub kept : p.bytes ≡ bytes_of (kept_of 0 data_lines)
    pub dropped : p.dropped ≡ length (drops_from p.number 0 data_lines)
    pub starts-early : p.first ≤ most_seconds
    pub ends-early : p.last ≤ most_seconds
    pub in_order : p.start + 26 ≤ p.stop
    pub head-ends : p.stop ≤ p.from
    pub within : p.from + p.bytes + p.dropped ≤ length text
    pub few : p.number ≤ p.from + 1
    pub early : p.line ≤ p.start + 1

-- the plan is what mending gives
pub record PlanOf (e : Edition) (text : List ℕ) (p : Plan) : Type 0 where
  pub lines : List (List ℕ)
  pub gives : mend_of e text ≡ Mends lines (planned_list text p)
  pub text-is : flatten lines ≡ planned_text text p
  pub planned : Planned text p
