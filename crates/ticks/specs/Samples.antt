-- What is wrong with some floats, and what a sample rounds to.
use Rattle.std.specs.Prelude.{◌≡◌, Bool, true, false, cond, ◌||◌, List, [], ◌∷◌, ◌≤◌, nat_abs, ℤ, Option, Some, None, Result, Ok, Err, Float}
use Rattle.ticks.specs.declared.Sample.{Sample}
use Rattle.ticks.specs.declared.WholeSample.{WholeSample}
use Rattle.ticks.specs.declared.Fault.{Fault}
use Rattle.ticks.specs.declared.FaultySample.{FaultySample}
use Rattle.ticks.specs.declared.Fault.TheVariants.{TooLarge, Infinite, NotANumber}
use Rattle.ticks.specs.Round.{limit, rounded_of, is_not_a_number, is_infinite, is_too_large, ticks_in}

-- some float rounds to what the test asks
unfoldable pub any : (Result ℤ Fault → Bool) → List Float → Bool
any test [] = false
any test (x ∷ xs) = test (rounded_of x) || any test xs

-- every float is looked at for one fault before any is for the next
unfoldable pub fault_in : List Float → Option Fault
fault_in xs =
    cond (any is_not_a_number xs) (Some NotANumber)
    (cond (any is_infinite xs) (Some Infinite)
    (cond (any is_too_large xs) (Some TooLarge)
    None))

-- ---- a sample

abbrev pub axes_of : Sample → List Float
axes_of s = s.x ∷ s.y ∷ s.z ∷ []

abbrev pub whole_of : Sample → WholeSample
whole_of s = record { x = ticks_in (rounded_of s.x); y = ticks_in (rounded_of s.y); z = ticks_in (rounded_of s.z) }

-- the ticks, beside a fault where there is one
abbrev pub sample_with : Option Fault → WholeSample → Result WholeSample FaultySample
sample_with None w = Ok w
sample_with (Some f) w = Err (record { fault = f; ticks = w })

abbrev pub sample_of : Sample → Result WholeSample FaultySample
sample_of s = sample_with (fault_in (axes_of s)) (whole_of s)

-- ---- what the laws of `proofs/Faults.antt` say in these words

-- what each fault says of the three tests
abbrev pub FaultMeans : List Float → Option Fault → Type 0
FaultMeans xs (Some NotANumber) = any is_not_a_number xs ≡ true
FaultMeans xs (Some Infinite) = (any is_not_a_number xs ≡ false) × (any is_infinite xs ≡ true)
FaultMeans xs (Some TooLarge) = (any is_not_a_number xs ≡ false) × (any is_infinite xs ≡ false) × (any is_too_large xs ≡ true)
FaultMeans xs None = (any is_not_a_number xs ≡ false) × (any is_infinite xs ≡ false) × (any is_too_large xs ≡ false)

-- every float rounds to ticks
unfoldable pub AllTicks : List Float → Type 0
AllTicks [] = Unit {0}
AllTicks (x ∷ xs) = (rounded_of x ≡ Ok (ticks_in (rounded_of x))) × AllTicks xs

-- every axis is within the limit
pub record WithinLimit (w : WholeSample) : Type 0 where
  pub on-x : nat_abs w.x ≤ limit
  pub on-y : nat_abs w.y ≤ limit
  pub on-z : nat_abs w.z ≤ limit
