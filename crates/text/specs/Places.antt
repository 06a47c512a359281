-- A text at a place of a buffer: one that was written there, in pieces or whole, and one that stands there. Definitions only.
use Rattle.std.specs.Prelude.{ℕ, ◌+◌, ◌≤◌, ◌≡◌, List, [], ◌∷◌, ◌++◌, length, take, drop}

-- a buffer with `text` written at `start`: what stands before the text and past it is as it was
unfoldable pub written : List ℕ → ℕ → List ℕ → List ℕ
written before start text = take start before ++ text ++ drop (start + length text) before

-- `text` was written at `start`, where it had room, and `end` is the place past it
pub record Wrote (before : List ℕ) (start : ℕ) (text after : List ℕ) (end : ℕ) : Type 0 where
  pub ends : end ≡ start + length text
  pub holds : after ≡ written before start text
  pub long : length after ≡ length before

-- `text` stands at `start`, and `end` is the place past it
pub record Stands (s : List ℕ) (start : ℕ) (text : List ℕ) (end : ℕ) : Type 0 where
  pub ends : end ≡ start + length text
  pub holds : drop start s ≡ text ++ drop end s

-- ---- pieces: `flatten pieces` is their text

-- how many bytes the pieces take
abbrev pub total : List (List ℕ) → ℕ
total [] = 0
total (piece ∷ pieces) = length piece + total pieces

-- the buffer has room for the pieces from `start` on
pub record Room (buffer : List ℕ) (start : ℕ) (pieces : List (List ℕ)) : Type 0 where
  pub fits : start + total pieces ≤ length buffer

-- a buffer with the pieces written from `start` on, one after the other
abbrev pub in_turn : List ℕ → ℕ → List (List ℕ) → List ℕ
in_turn before start [] = before
in_turn before start (piece ∷ pieces) = in_turn (written before start piece) (start + length piece) pieces
