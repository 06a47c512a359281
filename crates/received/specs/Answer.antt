-- What the reader answers, and what the lent rooms hold then. Definitions only.
use Rattle.std.specs.Prelude.{ℕ, ◌+◌, ◌*◌, Bool, cond, leb, ℤ, length, take, drop}
use mathlib.Core.List.{List, ◌++◌, flatten, map}
use Rattle.integers.specs.Tests.{◌and◌}
use Rattle.message.specs.declared.Edition.{Edition}
use Rattle.received.specs.declared.Place.{Place}
use Rattle.received.specs.declared.Received.{Received}
use Rattle.received.specs.Versions.{is_other}
use Rattle.received.specs.Data.{Point}
use Rattle.received.specs.Reading.{front_at, rest_at, Read, Reads, Stops, read_of}

-- ---- what is found

-- where the value of a slot's line stands in the text
unfoldable pub place_at : List (List (List ℕ)) → ℕ → Place
place_at groups k =
    record { start = length (flatten (flatten (take k groups))) + length (front_at k); length = length (rest_at groups k) }

abbrev pub nowhere : Place
nowhere = record { start = 0; length = 0 }

-- a refusal: 15 with the number of a line, or 17 or 12 with 0
abbrev pub refused_by : ℕ → ℕ → Received
refused_by number line =
    record {
      number = number;
      line = line;
      count = 0;
      created = nowhere;
      originator = nowhere;
      object = nowhere;
      id = nowhere;
      center = nowhere;
      frame = nowhere;
    }

unfoldable pub received : List (List (List ℕ)) → ℕ → Received
received groups count =
    record {
      number = 0;
      line = 0;
      count = count;
      created = place_at groups 3;
      originator = place_at groups 4;
      object = place_at groups 8;
      id = place_at groups 9;
      center = place_at groups 10;
      frame = place_at groups 11;
    }

-- ---- the rooms: one number for each point, and six

-- so many points, in rooms of so many numbers
unfoldable pub has_room : ℕ → ℕ → ℕ → Bool
has_room count epochs values = leb count epochs and leb (6 * count) values

abbrev pub seconds_of : List Point → List ℕ
seconds_of points = map (λ p. p.seconds) points

abbrev pub values_of : List Point → List ℤ
values_of points = flatten (map (λ p. p.values) points)

-- ---- by what was read: 15, then 12; a refusal writes nothing, and what stands behind the numbers written stays

abbrev pub answer_by : Read → List ℕ → List ℤ → Received
answer_by (Stops line) epochs values = refused_by 15 line
answer_by (Reads groups points) epochs values =
    cond (has_room (length points) (length epochs) (length values)) (received groups (length points)) (refused_by 12 0)

abbrev pub epochs_by : Read → List ℕ → List ℤ → List ℕ
epochs_by (Stops line) epochs values = epochs
epochs_by (Reads groups points) epochs values =
    cond (has_room (length points) (length epochs) (length values)) (seconds_of points ++ drop (length points) epochs) epochs

abbrev pub values_by : Read → List ℕ → List ℤ → List ℤ
values_by (Stops line) epochs values = values
values_by (Reads groups points) epochs values =
    cond (has_room (length points) (length epochs) (length values)) (values_of points ++ drop (6 * length points) values) values

-- ---- by the reader of an edition: 17 first

unfoldable pub answer_to : Edition → List ℕ → List ℕ → List ℤ → Received
answer_to e text epochs values = cond (is_other e text) (refused_by 17 0) (answer_by (read_of e text) epochs values)

unfoldable pub epochs_after : Edition → List ℕ → List ℕ → List ℤ → List ℕ
epochs_after e text epochs values = cond (is_other e text) epochs (epochs_by (read_of e text) epochs values)

unfoldable pub values_after : Edition → List ℕ → List ℕ → List ℤ → List ℤ
values_after e text epochs values = cond (is_other e text) values (values_by (read_of e text) epochs values)
