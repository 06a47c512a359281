-- What an ordinary float is: finite and not minus zero. Where rounding gives one is in `proofs/Rounding`.
use Rattle.std.specs.Prelude.{Bool, true, false, ltb, Float}
use Rattle.std.specs.Float.{nan, inf, fin}

-- neither a NaN, an infinity nor minus zero
abbrev pub ordinary : Float → Bool
ordinary nan = false
ordinary (inf s) = false
ordinary (fin true m e) = ltb 0 m
ordinary (fin false m e) = true
