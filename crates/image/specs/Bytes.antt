-- A word of 64 bits and its eight bytes, the lowest first; words one after the other; bytes put at a place. Definitions only.
use Rattle.std.specs.Prelude.{ℕ, zero, suc, ◌+◌, ◌*◌, ◌/◌, ◌%◌, ◌≡◌, Bool, true, false, List, [], ◌∷◌, ◌++◌, eqb, length, take, drop}
use Rattle.integers.specs.Tests.{◌and◌}
use Rattle.text.specs.Places.{written}

-- the k lowest bytes of n, the lowest first
unfoldable pub bytes_of : ℕ → ℕ → List ℕ
bytes_of zero n = []
bytes_of (suc k) n = n % 256 ∷ bytes_of k (n / 256)

-- what bytes come to, the lowest first
unfoldable pub from_bytes : List ℕ → ℕ
from_bytes [] = 0
from_bytes (b ∷ bytes) = b + 256 * from_bytes bytes

-- words one after the other
unfoldable pub in_bytes : List ℕ → List ℕ
in_bytes [] = []
in_bytes (w ∷ words) = bytes_of 8 w ++ in_bytes words

-- the word whose lowest byte stands at a place
unfoldable pub word_at : ℕ → List ℕ → ℕ
word_at at bytes = from_bytes (take 8 (drop at bytes))

-- words were put at a place, where they had room; all other bytes are as they were
pub record Put (before : List ℕ) (at : ℕ) (words after : List ℕ) : Type 0 where
  pub holds : after ≡ written before at (in_bytes words)
  pub long : length after ≡ length before

-- the same bytes
unfoldable pub same_bytes : List ℕ → List ℕ → Bool
same_bytes [] [] = true
same_bytes [] (y ∷ ys) = false
same_bytes (x ∷ xs) [] = false
same_bytes (x ∷ xs) (y ∷ ys) = eqb x y and same_bytes xs ys
