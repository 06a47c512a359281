-- Faults one by one: the worst of them is what is wrong with all.
use Rattle.std.specs.Prelude.{ℕ, ℤ, cond, ltb, Option, Some, None, Result}
use Rattle.std.specs.Result.{result_err}
use Rattle.ticks.specs.declared.WholeSample.{WholeSample}
use Rattle.ticks.specs.declared.Fault.{Fault}
use Rattle.ticks.specs.declared.FaultySample.{FaultySample}
use Rattle.ticks.specs.declared.Fault.TheVariants.{TooLarge, Infinite, NotANumber}
use Rattle.ticks.specs.Round.{ticks_in}
use Rattle.ticks.specs.Samples.{sample_with}

abbrev pub fault_of : Result ℤ Fault → Option Fault
fault_of r = result_err r

abbrev pub rank : Option Fault → ℕ
rank None = 0
rank (Some TooLarge) = 1
rank (Some Infinite) = 2
rank (Some NotANumber) = 3

-- the one of higher rank
abbrev pub worse : Option Fault → Option Fault → Option Fault
worse a b = cond (ltb (rank a) (rank b)) b a

abbrev pub gathered : Result ℤ Fault → Result ℤ Fault → Result ℤ Fault → Result WholeSample FaultySample
gathered x y z =
    sample_with (worse (fault_of x) (worse (fault_of y) (fault_of z))) (record { x = ticks_in x; y = ticks_in y; z = ticks_in z })
