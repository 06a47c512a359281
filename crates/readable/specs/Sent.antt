-- What the text that C-14 writes says. Definitions only.
use Rattle.std.specs.Prelude.{List, [], ◌∷◌, ℕ, zero, suc, ℤ}
use Rattle.decimal.specs.Units.{position_units, velocity_units}
use Rattle.message.specs.Request.{Request, count_of, place, value_at, seconds_at}
use Rattle.received.specs.Data.{Point}
use Rattle.received.specs.Messages.{Message}

-- f i, f (i + 1), .., so many
abbrev pub points_from : (ℕ → Point) → ℕ → ℕ → List Point
points_from f i zero = []
points_from f i (suc n) = f i ∷ points_from f (suc i) n

module _ (r : Request) where
  abbrev pub position_at : ℕ → ℕ → ℤ
  position_at i k = position_units r.tick (value_at r.points (place i k))

  abbrev pub velocity_at : ℕ → ℕ → ℤ
  velocity_at i k = velocity_units r.tick r.step (value_at r.points (place i k))

  -- point i
  abbrev pub point_at : ℕ → Point
  point_at i =
      record {
        seconds = seconds_at r i;
        values = position_at i 0 ∷ position_at i 1 ∷ position_at i 2 ∷ velocity_at i 3 ∷ velocity_at i 4 ∷ velocity_at i 5 ∷ [];
      }

  abbrev pub sent : Message
  sent =
      record {
        on_message = [];
        classification = [];
        created = r.created;
        originator = r.originator;
        identifier = [];
        on_object = [];
        object = r.object;
        id = r.id;
        center = r.center;
        frame = r.frame;
        on_data = [];
        points = points_from point_at 0 (count_of r.points);
      }
