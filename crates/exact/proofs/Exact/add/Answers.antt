-- `Exact::add` meets its contract: the parts are added, and a sum from D up carries one.
use mathlib.Core.Path.{◌≡◌}
use Prim.Native.Nat.{ℕ, ◌+◌, ◌-◌, ◌≤◌, ◌<◌, ◌^◌}
use lib.IntN.{pos, ◌+ℤ◌}
use mir.Syntax.{w64}
use mir.Val.{SFits}
use borrow.Author.Rules.{rules}
use Rattle.exact.specs.declared.Exact.{Exact}
use Rattle.integers.specs.Parts.{integers, +-parts}
use Rattle.exact.specs.Numerator.{D, exact_of, numerator, Bounded}
use Rattle.exact.proofs.Laws.{numerator-parts, is-exact_of}
use Rattle.exact.proofs.Bounds.{bounded-fits}
use Rattle.exact.proofs.Exact.add.Goals as goal

module _ (a b : Exact) (ha : Bounded (2 ^ 62) a) (hb : Bounded (2 ^ 62) b) where
  whole-fits : SFits w64 (a.whole +ℤ b.whole)
  whole-fits = omega (integers, +-parts a.whole b.whole)

  carried-fits : (k : ℕ) → k ≤ 1 → SFits w64 (a.whole +ℤ b.whole +ℤ pos k)
  carried-fits k l = omega (integers, +-parts a.whole b.whole, +-parts (a.whole +ℤ b.whole) (pos k))

  plain : a.part + b.part < D → record { whole = a.whole +ℤ b.whole; part = a.part + b.part } ≡ exact_of (numerator a +ℤ numerator b)
  plain h =
      is-exact_of (record { whole = a.whole +ℤ b.whole; part = a.part + b.part }) (numerator a +ℤ numerator b) h
      (omega (integers, +-parts a.whole b.whole, +-parts (numerator a) (numerator b), numerator-parts a, numerator-parts b))

  carried : D ≤ a.part + b.part → record { whole = a.whole +ℤ b.whole +ℤ pos 1; part = a.part + b.part - D } ≡ exact_of (numerator a +ℤ numerator b)
  carried h =
      is-exact_of (record { whole = a.whole +ℤ b.whole +ℤ pos 1; part = a.part + b.part - D }) (numerator a +ℤ numerator b) (omega integers)
      (omega (integers, +-parts a.whole b.whole, +-parts (a.whole +ℤ b.whole) (pos 1), +-parts (numerator a) (numerator b), numerator-parts a, numerator-parts b))

ruleset fitting = (rules, bounded-fits, whole-fits, carried-fits)

pub returns-then-part-lt-D : goal.returns-then-part-lt-D
returns-then-part-lt-D c = search (fitting, plain)

pub returns-else-part-lt-D : goal.returns-else-part-lt-D
returns-else-part-lt-D c = search (fitting, carried)
