-- The derived order of faults is by rank: the greater of two is the worse, of faults and of faults that may be none.
use mathlib.Core.Path.{◌≡◌, refl, sym}
use Rattle.std.specs.Prelude.{Option, Some, None}
use Rattle.std.specs.Ordering.{max_by_ordering, ord_max}
use Rattle.std.specs.Option.{option_cmp}
use Rattle.ticks.specs.contracts.FaultOrd.TheImpl.{ghosts}
use Rattle.ticks.specs.declared.Fault.{Fault}
use Rattle.ticks.specs.declared.Fault.TheVariants.{TooLarge, Infinite, NotANumber}
use Rattle.ticks.specs.Faults.{worse}
use Rattle.ticks.proofs.Faults.{worse-nothing, nothing-worse}

pub greater-worse : (a b : Fault) → Some (max_by_ordering (ghosts.cmp a b) a b) ≡ worse (Some a) (Some b)
greater-worse TooLarge TooLarge = refl
greater-worse TooLarge Infinite = refl
greater-worse TooLarge NotANumber = refl
greater-worse Infinite TooLarge = refl
greater-worse Infinite Infinite = refl
greater-worse Infinite NotANumber = refl
greater-worse NotANumber TooLarge = refl
greater-worse NotANumber Infinite = refl
greater-worse NotANumber NotANumber = refl

pub max-worse : (a b : Option Fault) → ord_max (option_cmp ghosts.cmp) a b ≡ worse a b
max-worse None None = refl
max-worse None (Some b) = sym (nothing-worse (Some b))
max-worse (Some a) None = sym (worse-nothing (Some a))
max-worse (Some TooLarge) (Some TooLarge) = refl
max-worse (Some TooLarge) (Some Infinite) = refl
max-worse (Some TooLarge) (Some NotANumber) = refl
max-worse (Some Infinite) (Some TooLarge) = refl
max-worse (Some Infinite) (Some Infinite) = refl
max-worse (Some Infinite) (Some NotANumber) = refl
max-worse (Some NotANumber) (Some TooLarge) = refl
max-worse (Some NotANumber) (Some Infinite) = refl
max-worse (Some NotANumber) (Some NotANumber) = refl
