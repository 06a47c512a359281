-- The rules of samples: their number is that of the worst fault, and none applies where there is none.
use mathlib.Core.Path.{◌≡◌}
use mathlib.Core.List.{List, ◌++◌}
use mathlib.Core.Bool.{Bool}
use Prim.Native.Nat.{ℕ}
use native.Mathlib.Omega.{arith}
use lib.Ieee.{Float}
use Rattle.std.specs.Prelude.{refl, Some, None}
use Rattle.rules.specs.Rules.{NotZero, first_of, Gives}
use Rattle.rules.proofs.Tests.{first-before, first-after}
use Rattle.ticks.specs.declared.Fault.{Fault}
use Rattle.ticks.specs.declared.Fault.TheVariants.{NotANumber, Infinite, TooLarge}
use Rattle.ticks.specs.Samples.{fault_in, FaultMeans}
use Rattle.ticks.proofs.Faults.{fault-means}
use Rattle.steps.specs.Refusals.{sample_rules, fault_number}

-- each fault has a number
pub fault-numbered : (f : Fault) → NotZero (fault_number (Some f))
fault-numbered NotANumber e = omega arith
fault-numbered Infinite e = omega arith
fault-numbered TooLarge e = omega arith

number_of : (xs : List Float) (f : Fault) → FaultMeans xs (Some f) → first_of (sample_rules xs) ≡ fault_number (Some f)
unfolding first_of
number_of xs NotANumber h = simp h
number_of xs Infinite h = simp (h.0, h.1)
number_of xs TooLarge h = simp (h.0, h.1, h.2)

none_of : (xs : List Float) → FaultMeans xs None → first_of (sample_rules xs) ≡ 0
unfolding first_of
none_of xs h = simp (h.0, h.1, h.2)

-- the worst fault of some floats
module _ (xs : List Float) (f : Fault) (e : fault_in xs ≡ Some f) where
  pub sample-number : Gives (sample_rules xs) (fault_number (Some f))
  sample-number = record { first = number_of xs f ((fault-means xs (Some f)).0 e) }

  -- with other rules after them
  pub samples-refuse : (rest : List (Bool × ℕ)) → Gives (sample_rules xs ++ rest) (fault_number (Some f))
  samples-refuse rest = first-before (sample_rules xs) rest (fault_number (Some f)) (fault-numbered f) sample-number.first

-- or none
module _ (xs : List Float) (e : fault_in xs ≡ None) where
  pub no-number : Gives (sample_rules xs) 0
  no-number = record { first = none_of xs ((fault-means xs None).0 e) }

  pub samples-pass : (rest : List (Bool × ℕ)) {n : ℕ} → Gives rest n → Gives (sample_rules xs ++ rest) n
  samples-pass rest g = first-after (sample_rules xs) rest refl no-number.first g
