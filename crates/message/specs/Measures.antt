-- For the way the room is checked before anything is written: the length of a text that may be written, and 0 for one that may not. Definitions only.
use Rattle.std.specs.Prelude.{ℕ, Bool, cond, List, ℤ, length}
use Rattle.message.specs.Request.{count_of}
use Rattle.message.specs.Message.{texts, line_from}
use Rattle.message.specs.Refusals.{all_of, point_holds}

unfoldable pub length_if : Bool → List ℕ → ℕ
length_if holds text = cond holds (length text) 0

-- the data lines: what point 0's time is does not matter
unfoldable pub data_length : ℕ → ℕ → List ℤ → ℕ
data_length tick step points =
    length_if (all_of (point_holds tick step points) (count_of points)) (texts (line_from tick step points 0) (count_of points))
