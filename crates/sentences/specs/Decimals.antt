-- An exact value as a decimal: its size, the whole part and ten decimals, without the zeros at the end. Definitions only.
use Rattle.std.specs.Prelude.{ℕ, zero, suc, ◌*◌, ◌/◌, ◌%◌, ◌^◌, true, false, cond, List, [], ◌∷◌, ◌++◌, eqb, ℤ, pos, nat_abs}
use Rattle.std.specs.Int.Signed.{lt_z}
use Rattle.integers.specs.Nearest.{nearest_of}
use Rattle.exact.specs.declared.Exact.{Exact}
use Rattle.exact.specs.Numerator.{D, numerator}
use Rattle.text.specs.Numbers.{ascii, decimal, last_digits}
use Rattle.sentences.specs.declared.decimals.Size.{Size}

-- how far a value is from 0, in whole ticks and what is left over D
unfoldable pub size_of : Exact → Size
size_of e = record { whole = nat_abs (numerator e) / D; rest = nat_abs (numerator e) % D }

-- the rest r / D in units of the tenth decimal, rounded to the nearest: a tie, which goes to the even one, there never is
unfoldable pub ten_decimals : ℕ → ℕ
ten_decimals r = nat_abs (nearest_of (pos (r * 10 ^ 10)) D)

-- the last so many digits, without the zeros at the end
unfoldable pub shortened : ℕ → ℕ → List ℕ
shortened zero n = []
shortened (suc k) n = elim (eqb (n % 10) 0) as (λ _. List ℕ) [ true ↦ shortened k (n / 10) | false ↦ last_digits (suc k) n ]

-- only a value below 0 shows a sign; its whole part, which is rounded down, is below 0 just where it is
unfoldable pub sign_text : ℤ → List ℕ
sign_text whole = cond (lt_z whole (pos 0)) (ascii "-") []

-- a point and the decimals, where there is a rest
unfoldable pub rest_text : ℕ → List ℕ
rest_text r = cond (eqb r 0) [] (ascii "." ++ shortened 10 (ten_decimals r))

unfoldable pub change_text : Exact → List (List ℕ)
change_text e = sign_text e.whole ∷ decimal (size_of e).whole ∷ rest_text (size_of e).rest ∷ []
