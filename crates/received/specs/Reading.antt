-- What the reader finds in a text: a message, or the line at which it stops. Definitions only.
use Rattle.std.specs.Prelude.{ℕ, ◌+◌, Bool, cond, ltb, eqb, length, take, get_or}
use mathlib.Core.List.{List, [], flatten, map}
use Rattle.integers.specs.Tests.{◌and◌}
use Rattle.calendar.specs.Text.{same_text}
use Rattle.message.specs.declared.Edition.{Edition}
use Rattle.message.specs.declared.Edition.TheVariants.{Two}
use Rattle.message.specs.Message.{time_after}
use Rattle.received.specs.Lines.{lines_in}
use Rattle.received.specs.Slots.{Slot, any, form_of, rest_in, Walked, Through, Stopped, walk}
use Rattle.received.specs.Profile.{comment_form, slots}
use Rattle.received.specs.Data.{Point, points_in, first_seconds, last_seconds}
use Rattle.received.specs.Messages.{Message}

-- the groups of lines before the data, and the points; or the number of a line, the first being 1
pub data Read : Type 0 where
  Reads : List (List (List ℕ)) → List Point → Read
  Stops : ℕ → Read

-- ---- the groups by their slots, which are counted from 0

abbrev pub slot_at : Edition → ℕ → Slot
slot_at e k = get_or (slots e) k (any comment_form)

-- the same in both editions
abbrev pub front_at : ℕ → List ℕ
front_at k = (form_of (slot_at Two k)).front

-- the line of a slot for one line, and what stands behind its front
unfoldable pub line_at : List (List (List ℕ)) → ℕ → List ℕ
line_at groups k = get_or (get_or groups k []) 0 []

unfoldable pub rest_at : List (List (List ℕ)) → ℕ → List ℕ
rest_at groups k = rest_in (front_at k) (line_at groups k)

-- the number of the first line from a slot on: one more than the lines before it
unfoldable pub number_at : List (List (List ℕ)) → ℕ → ℕ
number_at groups k = 1 + length (flatten (take k groups))

abbrev pub start_slot : ℕ
start_slot = 13

abbrev pub stop_slot : ℕ
stop_slot = 14

abbrev pub data_slot : ℕ
data_slot = 17

-- ---- reading

unfoldable pub unless : Bool → ℕ → Read → Read
unless passes line r = cond passes r (Stops line)

-- some line, and every line, is read
unfoldable pub all_read : List Point → List (List ℕ) → Bool
all_read points lines = ltb 0 (length points) and eqb (length points) (length lines)

-- START_TIME and STOP_TIME are compared at the very end, in this order
unfoldable pub read_behind : List (List (List ℕ)) → List (List ℕ) → List Point → Read
read_behind groups rest points =
    unless (all_read points rest) (number_at groups data_slot + length points)
    (unless (same_text (rest_at groups start_slot) (time_after (first_seconds points))) (number_at groups start_slot)
    (unless (same_text (rest_at groups stop_slot) (time_after (last_seconds points))) (number_at groups stop_slot)
    (Reads groups points)))

unfoldable pub read_by : Walked → Read
read_by (Stopped lines) = Stops (length lines + 1)
read_by (Through groups rest) = read_behind groups rest (points_in 0 rest)

unfoldable pub read_lines : Edition → List (List ℕ) → Read
read_lines e lines = read_by (walk (slots e) lines)

unfoldable pub read_of : Edition → List ℕ → Read
read_of e text = read_lines e (lines_in text)

-- the message that was read
unfoldable pub message_in : List (List (List ℕ)) → List Point → Message
message_in groups points =
    record {
      on_message = map (rest_in comment_form.front) (get_or groups 1 []);
      classification = map (rest_in (front_at 2)) (get_or groups 2 []);
      created = rest_at groups 3;
      originator = rest_at groups 4;
      identifier = map (rest_in (front_at 5)) (get_or groups 5 []);
      on_object = map (rest_in comment_form.front) (get_or groups 7 []);
      object = rest_at groups 8;
      id = rest_at groups 9;
      center = rest_at groups 10;
      frame = rest_at groups 11;
      on_data = map (rest_in comment_form.front) (get_or groups 16 []);
      points = points;
    }
