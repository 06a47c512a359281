-- Numbers as text in ASCII. Definitions only.
use Rattle.std.specs.Prelude.{ℕ, zero, suc, ◌+◌, ◌/◌, ◌%◌, true, false, cond, List, [], ◌∷◌, ◌++◌, ltb, ℤ, pos, negsuc}
use Prim.Native.Char.{code}
use Prim.Native.String as S
use Prim.Native.String.{String}

unfoldable pub ascii : String → List ℕ
ascii S.[] = []
ascii (S.◌∷◌ c s) = code c ∷ ascii s

-- ---- decimal

-- the character of a digit
abbrev pub digit : ℕ → ℕ
digit n = 48 + n

-- the decimal digits of a number that has at most so many
unfoldable pub digits : ℕ → ℕ → List ℕ
digits zero n = []
digits (suc most) n = elim (ltb n 10) as (λ _. List ℕ) [ true ↦ [] | false ↦ digits most (n / 10) ] ++ (digit (n % 10) ∷ [])

unfoldable pub decimal : ℕ → List ℕ
decimal = digits 20

-- the last so many digits, zeros in front included
unfoldable pub last_digits : ℕ → ℕ → List ℕ
last_digits zero n = []
last_digits (suc k) n = last_digits k (n / 10) ++ (digit (n % 10) ∷ [])

unfoldable pub signed : ℤ → List ℕ
signed (pos n) = decimal n
signed (negsuc n) = ascii "-" ++ decimal (suc n)

-- each number after a space
unfoldable pub numbers : List ℤ → List ℕ
numbers [] = []
numbers (z ∷ zs) = ascii " " ++ signed z ++ numbers zs

-- ---- hexadecimal

-- 0 to 9, then a to f
unfoldable pub hex_digit : ℕ → ℕ
hex_digit n = cond (ltb n 10) (48 + n) (87 + n)

-- the last so many digits
unfoldable pub hex_digits : ℕ → ℕ → List ℕ
hex_digits zero n = []
hex_digits (suc k) n = hex_digits k (n / 16) ++ (hex_digit (n % 16) ∷ [])

unfoldable pub hex : ℕ → List ℕ
hex = hex_digits 16
