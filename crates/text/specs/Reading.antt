-- The number that stands at a place of a text, and the place past it. Definitions only.
use Rattle.std.specs.Prelude.{Option, Some, None, ℕ, ℤ, zero, suc, ◌+◌, ◌-◌, ◌*◌, ◌^◌, Bool, cond, List, [], ◌∷◌, ltb, leb, eqb, pos, negsuc, drop, get_or}
use Rattle.integers.specs.Tests.{◌and◌}
use Rattle.text.specs.Numbers.{digit}

-- ---- decimal: 0, or digits of which the first is not 0, below 2^64

abbrev pub is_digit : ℕ → Bool
is_digit b = leb (digit 0) b and leb b (digit 9)

-- a number so far, which ends at a place, and the text from there on
unfoldable pub going_on : List ℕ → ℕ → ℕ → Option (ℕ × ℕ)
going_on [] n at = Some (n, at)
going_on (b ∷ text) n at =
    cond (is_digit b)
    (cond (ltb (n * 10 + (b - digit 0)) (2 ^ 64)) (going_on text (n * 10 + (b - digit 0)) (at + 1)) None)
    (Some (n, at))

-- the text from a place on
unfoldable pub decimal_in : List ℕ → ℕ → Option (ℕ × ℕ)
decimal_in [] at = None
decimal_in (b ∷ text) at =
    cond (is_digit b)
    (cond (eqb b (digit 0)) (Some (0, at + 1)) (going_on text (b - digit 0) (at + 1)))
    None

unfoldable pub decimal_at : List ℕ → ℕ → Option (ℕ × ℕ)
decimal_at s at = decimal_in (drop at s) at

-- ---- signed: a number below 0 has a sign, and 0 has none

unfoldable pub not_below : Option (ℕ × ℕ) → Option (ℤ × ℕ)
not_below None = None
not_below (Some (n, next)) = cond (ltb n (2 ^ 63)) (Some (pos n, next)) None

unfoldable pub below : Option (ℕ × ℕ) → Option (ℤ × ℕ)
below None = None
below (Some (zero, next)) = None
below (Some (suc n, next)) = cond (ltb n (2 ^ 63)) (Some (negsuc n, next)) None

abbrev minus : ℕ
minus = 45

unfoldable pub signed_at : List ℕ → ℕ → Option (ℤ × ℕ)
signed_at s at = cond (eqb (get_or s at 0) minus) (below (decimal_at s (at + 1))) (not_below (decimal_at s at))

-- ---- hexadecimal: 16 digits

-- the digit that a byte is, and 16 for a byte that is none
unfoldable pub hex_digit_of : ℕ → ℕ
hex_digit_of b =
    cond (leb 48 b and leb b 57) (b - 48)
    (cond (leb 97 b and leb b 102) (b - 87)
    16)

-- a number so far, which ends at a place, and so many digits more
unfoldable pub hex_going_on : ℕ → List ℕ → ℕ → ℕ → Option (ℕ × ℕ)
hex_going_on zero text n at = Some (n, at)
hex_going_on (suc k) [] n at = None
hex_going_on (suc k) (b ∷ text) n at =
    cond (ltb (hex_digit_of b) 16) (hex_going_on k text (n * 16 + hex_digit_of b) (at + 1)) None

unfoldable pub hex_at : List ℕ → ℕ → Option (ℕ × ℕ)
hex_at s at = hex_going_on 16 (drop at s) 0 at
