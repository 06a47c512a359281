-- Bytes as digits, two to a byte, the high one first: written, and read from a line. Definitions only.
use Rattle.std.specs.Prelude.{ℕ, ◌+◌, ◌-◌, ◌*◌, cond, ltb, leb, get_or, length, Option, Some, None, option_map}
use mathlib.Core.List.{List, flatten, map}
use Rattle.integers.specs.Tests.{◌and◌}
use Rattle.text.specs.Numbers.{hex_digits}
use Rattle.script.specs.Words.{Reader, ◌>>=◌, is_there, from}

-- ---- written

abbrev pub byte_digits : ℕ → List ℕ
byte_digits b = hex_digits 2 b

unfoldable pub digits_of : List ℕ → List ℕ
digits_of bytes = flatten (map byte_digits bytes)

-- ---- read

-- the digit that a byte is
unfoldable pub digit_of : ℕ → Option ℕ
digit_of b =
    cond (leb 48 b and leb b 57) (Some (b - 48))
    (cond (leb 97 b and leb b 102) (Some (b - 87))
    None)

-- the digit at a place of a line, and the place past it
abbrev pub digit_at : List ℕ → ℕ → Option (ℕ × ℕ)
digit_at line at = cond (ltb at (length line)) (option_map (λ d. (d, at + 1)) (digit_of (get_or line at 0))) None

unfoldable pub digit : Reader ℕ
digit = from 0 digit_at

-- two digits; a byte that lacks one is missing
unfoldable pub byte : Reader ℕ
byte = do
  high ← digit
  low ← digit
  λ p. cond (is_there p) (high * 16 + low, p) (0, p)
