-- `Exact::subtract` meets its contract: the parts are subtracted, and where the first is the smaller one is borrowed.
use mathlib.Core.Path.{◌≡◌}
use Prim.Native.Nat.{ℕ, ◌+◌, ◌-◌, ◌≤◌, ◌<◌, ◌^◌}
use lib.IntN.{pos, ◌-ℤ◌}
use mir.Syntax.{w64}
use mir.Val.{SFits}
use borrow.Author.Rules.{rules}
use Rattle.exact.specs.declared.Exact.{Exact}
use Rattle.integers.specs.Parts.{integers, difference-parts}
use Rattle.exact.specs.Numerator.{D, exact_of, numerator, Bounded}
use Rattle.exact.proofs.Laws.{numerator-parts, is-exact_of}
use Rattle.exact.proofs.Bounds.{bounded-fits}
use Rattle.exact.proofs.Exact.subtract.Goals as goal

module _ (a b : Exact) (ha : Bounded (2 ^ 62) a) (hb : Bounded (2 ^ 62) b) where
  whole-fits : SFits w64 (a.whole -ℤ b.whole)
  whole-fits = omega (integers, difference-parts a.whole b.whole)

  lower-fits : (k : ℕ) → k ≤ 1 → SFits w64 (a.whole -ℤ b.whole -ℤ pos k)
  lower-fits k l = omega (integers, difference-parts a.whole b.whole, difference-parts (a.whole -ℤ b.whole) (pos k))

  plain : b.part ≤ a.part → record { whole = a.whole -ℤ b.whole; part = a.part - b.part } ≡ exact_of (numerator a -ℤ numerator b)
  plain h =
      is-exact_of (record { whole = a.whole -ℤ b.whole; part = a.part - b.part }) (numerator a -ℤ numerator b) (omega integers)
      (omega (integers, difference-parts a.whole b.whole, difference-parts (numerator a) (numerator b), numerator-parts a, numerator-parts b))

  lower : a.part < b.part → record { whole = a.whole -ℤ b.whole -ℤ pos 1; part = a.part + (D - b.part) } ≡ exact_of (numerator a -ℤ numerator b)
  lower h =
      is-exact_of (record { whole = a.whole -ℤ b.whole -ℤ pos 1; part = a.part + (D - b.part) }) (numerator a -ℤ numerator b) (omega integers)
      (omega (integers, difference-parts a.whole b.whole, difference-parts (a.whole -ℤ b.whole) (pos 1), difference-parts (numerator a) (numerator b), numerator-parts a, numerator-parts b))

ruleset fitting = (rules, bounded-fits, whole-fits, lower-fits)

pub returns-then-self-other : goal.returns-then-self-other
returns-then-self-other c = search (fitting, lower)

pub returns-else-self-other : goal.returns-else-self-other
returns-else-self-other c = search (fitting, plain)
