-- What a writer writes, and the room that it has. Definitions only.
use Rattle.std.specs.Prelude.{ℕ, ◌+◌, ◌≤◌, ◌≡◌, List, length}
use Rattle.std.specs.Borrow.{MutBor}
use Rattle.text.specs.Places.{Wrote, Room}
use Rattle.text.specs.declared.writing.Writer.{Writer}

-- a writer at a place of a buffer
pub record Begins (buffer : MutBor (List ℕ)) (at : ℕ) (w : Writer) : Type 0 where
  pub same : w.out.ghost_name ≡ buffer.ghost_name
  pub holds : w.out.now ≡ buffer.now
  pub long : length w.out.now ≡ length buffer.now
  pub starts : w.at ≡ at

-- there is room for so many bytes
abbrev pub RoomFor : Writer → ℕ → Type 0
RoomFor w n = w.at + n ≤ length w.out.now

-- there is room for a text
abbrev pub Fits : Writer → List ℕ → Type 0
Fits w text = RoomFor w (length text)

-- there is room for pieces
abbrev pub HasRoom : Writer → List (List ℕ) → Type 0
HasRoom w pieces = Room w.out.now w.at pieces

-- a text was written where the writer stood, which stands past it now
pub record Writes (before : Writer) (text : List ℕ) (after : Writer) : Type 0 where
  pub same : after.out.ghost_name ≡ before.out.ghost_name
  pub wrote : Wrote before.out.now before.at text after.out.now after.at
