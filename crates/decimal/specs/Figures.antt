-- Worked examples, as one table.
use Rattle.std.specs.Prelude.{Bool, true, false, refl, List, [], ◌∷◌, ℕ, ℤ, pos, negsuc}
use Rattle.integers.specs.Lines.{Line, line, All}
use Rattle.integers.specs.Nearest.{nearest_of}
use Rattle.exact.specs.declared.Exact.{Exact}
use Rattle.exact.specs.Numerator.{numerator}
use Rattle.text.specs.Numbers.{ascii, decimal, digits, last_digits}
use Rattle.decimal.specs.Units.{position_units, velocity_units}
use Rattle.decimal.specs.Text.{fixed, fixed_text, position_text, digits_before, few_digits, position_fits, velocity_fits}

-- whole ticks, and a part over D
abbrev ticks : ℤ → ℕ → Exact
ticks n m = record { whole = n; part = m }

abbrev figures : List Line
figures =
    -- a tick of 1/16 metre is 62.5 millimetres, three are 187.5, and a little more is above the half
    line ℤ (position_units 4 (ticks (pos 1) 0)) (pos 62)
    ∷ line ℤ (position_units 4 (ticks (pos 3) 0)) (pos 188)
    ∷ line ℤ (position_units 4 (ticks (pos 1) 1)) (pos 63)
    ∷ line ℤ (position_units 4 (ticks (negsuc 0) 0)) (negsuc 61)
    ∷ line ℤ (position_units 4 (ticks (negsuc 1) 159667199)) (negsuc 62)
    -- 399168 / D metres are 2.5 millimetres
    ∷ line ℤ (position_units 0 (ticks (pos 0) 399168)) (pos 2)
    -- a tick of a metre in a minute is 16666.67 micrometres per second
    ∷ line ℤ (velocity_units 0 60 (ticks (pos 1) 0)) (pos 16667)
    -- 1/128 metre in a second is 7812.5
    ∷ line ℤ (velocity_units 7 1 (ticks (negsuc 0) 0)) (negsuc 7811)
    -- a number as kilometres, one below a kilometre, and what is below 0 and rounds to 0
    ∷ line (List ℕ) (fixed_text 6 (pos 12345678)) (ascii "12.345678")
    ∷ line (List ℕ) (fixed_text 9 (negsuc 7499999)) (ascii "-0.007500000")
    ∷ line (List ℕ) (position_text 0 (ticks (negsuc 0) 159667199)) (ascii "0.000000")
    -- the largest number of 16 digits, and one more
    ∷ line Bool (position_fits (pos 9999999999999999)) true
    ∷ line Bool (velocity_fits (negsuc 9999999999999999)) false
    ∷ []

pub as-worked : All figures
unfolding position_units velocity_units nearest_of numerator fixed_text fixed last_digits decimal digits ascii digits_before few_digits
as-worked = (refl, (refl, (refl, (refl, (refl, (refl, (refl, (refl, (refl, (refl, (refl, (refl, (refl, tt)))))))))))))
