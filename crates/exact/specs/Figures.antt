-- Worked examples, as one table.
use Rattle.std.specs.Prelude.{true, false, refl, List, [], ◌∷◌, ℤ, pos, negsuc, Float}
use Rattle.std.specs.Float.{fin}
use Rattle.std.specs.Float.Ieee.{add, div, of_int}
use Rattle.integers.specs.Lines.{Line, line, All}
use Rattle.exact.specs.declared.Exact.{Exact}
use Rattle.exact.specs.Numerator.{exact_of, numerator, wholly}
use Rattle.exact.specs.Report.{report_of}

abbrev figures : List Line
figures =
    -- -3.5 is -4 and a half, and -1 / D is -1 and D - 1 parts
    line Exact (exact_of (negsuc 558835199)) (record { whole = negsuc 3; part = 79833600 })
    ∷ line Exact (exact_of (negsuc 0)) (record { whole = negsuc 0; part = 159667199 })
    ∷ line ℤ (numerator (record { whole = negsuc 3; part = 79833600 })) (negsuc 558835199)
    -- 3.5 and -3.5 are reported as 7 / 2 and -7 / 2, and zero as +0
    ∷ line Float (report_of (record { whole = pos 3; part = 79833600 })) (fin false 7 (negsuc 0))
    ∷ line Float (report_of (record { whole = negsuc 3; part = 79833600 })) (fin true 7 (negsuc 0))
    ∷ line Float (report_of (wholly (pos 0))) (fin false 0 (pos 0))
    ∷ []

pub as-worked : All figures
unfolding exact_of numerator add div of_int
as-worked = (refl, (refl, (refl, (refl, (refl, (refl, tt))))))
