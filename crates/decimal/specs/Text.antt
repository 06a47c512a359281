-- A whole number as text with a point before its last digits, and so positions and velocities. Definitions only.
use Rattle.std.specs.Prelude.{ℕ, suc, ◌+◌, ◌/◌, ◌^◌, Bool, List, ◌++◌, leb, ℤ, pos, negsuc, nat_abs, length}
use Rattle.exact.specs.declared.Exact.{Exact}
use Rattle.text.specs.Numbers.{ascii, decimal, last_digits}
use Rattle.decimal.specs.Units.{position_units, velocity_units}

-- n / 10^places: the digits of the whole part, without a spare zero, a point, and just `places` digits
unfoldable pub fixed : ℕ → ℕ → List ℕ
fixed places n = decimal (n / 10 ^ places) ++ ascii "." ++ last_digits places n

-- the same of a number with a sign: only a number below 0 shows one
unfoldable pub fixed_text : ℕ → ℤ → List ℕ
fixed_text places (pos n) = fixed places n
fixed_text places (negsuc n) = ascii "-" ++ fixed places (suc n)

-- ---- kilometres and kilometres per second

abbrev pub position_text : ℕ → Exact → List ℕ
position_text k e = fixed_text 6 (position_units k e)

abbrev pub velocity_text : ℕ → ℕ → Exact → List ℕ
velocity_text k step e = fixed_text 9 (velocity_units k step e)

-- ---- how many digits: at most 16, those before the point and those after it

unfoldable pub digits_before : ℕ → ℤ → ℕ
digits_before places n = length (decimal (nat_abs n / 10 ^ places))

unfoldable pub few_digits : ℕ → ℤ → Bool
few_digits places n = leb (digits_before places n + places) 16

abbrev pub position_fits : ℤ → Bool
position_fits = few_digits 6

abbrev pub velocity_fits : ℤ → Bool
velocity_fits = few_digits 9
