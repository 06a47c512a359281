-- What the reader answers to a text that says a message, and where the values stand. Definitions only.
use Rattle.std.specs.Prelude.{◌≡◌, false, List, ◌++◌, ℕ, ◌*◌, ℤ, length, take, drop}
use Rattle.message.specs.declared.Edition.{Edition}
use Rattle.message.specs.Message.{time_after}
use Rattle.received.specs.declared.Place.{Place}
use Rattle.received.specs.declared.Received.{Received}
use Rattle.received.specs.Data.{first_seconds, last_seconds}
use Rattle.received.specs.Messages.{Message, head_of, Says}
use Rattle.received.specs.Answer.{received, has_room, seconds_of, values_of, answer_to, epochs_after, values_after}

-- the lines of a message before its data, with the times of its first and last point
abbrev pub head_in : Edition → Message → List (List (List ℕ))
head_in e m = head_of e m (time_after (first_seconds m.points)) (time_after (last_seconds m.points))

-- the characters at a place of a text
abbrev pub held : List ℕ → Place → List ℕ
held text place = take place.length (drop place.start text)

-- an answer's places hold what a message says
pub record Named (text : List ℕ) (a : Received) (m : Message) : Type 0 where
  pub created : held text a.created ≡ m.created
  pub originator : held text a.originator ≡ m.originator
  pub object : held text a.object ≡ m.object
  pub id : held text a.id ≡ m.id
  pub center : held text a.center ≡ m.center
  pub frame : held text a.frame ≡ m.frame

-- a readable text has more points than the rooms hold
abbrev pub NoRoom : Edition → List ℕ → List ℕ → List ℤ → Type 0
NoRoom e text epochs values = (m : Message) × (Says e text m × (has_room (length m.points) (length epochs) (length values) ≡ false))

-- the answer to a text that says a message, and what the rooms hold then
pub record Answered (e : Edition) (text epochs : List ℕ) (values : List ℤ) (m : Message) : Type 0 where
  pub answer : answer_to e text epochs values ≡ received (head_in e m) (length m.points)
  pub seconds : epochs_after e text epochs values ≡ seconds_of m.points ++ drop (length m.points) epochs
  pub numbers : values_after e text epochs values ≡ values_of m.points ++ drop (6 * length m.points) values
