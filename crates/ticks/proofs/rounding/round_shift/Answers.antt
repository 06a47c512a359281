-- `ticks::rounding::round_shift` meets its contract: twice the remainder compares with the unit as the remainder with the half.
use mathlib.Core.Path.{sym, ap, ◌∙◌}
use Prim.Native.Nat.{Ordering}
use Prim.Native.Nat.{ℕ, ◌+◌, ◌/◌, ◌^◌}
use native.Mathlib.Numerals.{add-one}
use native.Mathlib.Omega.{arith}
use lib.Bits.{and_mask}
use Rattle.integers.specs.Closest.{closest-by}
use Rattle.ticks.proofs.Fields.{shifted}
use Rattle.ticks.proofs.rounding.round_shift.Goals as goal

pub returns-then-rem-half : goal.returns-then-rem-half
returns-then-rem-half c =
    let a = c.args in
    let h = shifted a.m a.k c.requires.1 c.requires.2 in
    sym (closest-by a.m (2 ^ a.k) Ordering.lt (omega arith))

pub returns-then-half-rem : goal.returns-then-half-rem
returns-then-half-rem c =
    let a = c.args in
    let h = shifted a.m a.k c.requires.1 c.requires.2 in
    add-one (a.m / 2 ^ a.k) ∙ sym (closest-by a.m (2 ^ a.k) Ordering.gt (omega arith))

pub returns-else-half-rem : goal.returns-else-half-rem
returns-else-half-rem c =
    let a = c.args in
    let h = shifted a.m a.k c.requires.1 c.requires.2 in
    ap (λ (x : ℕ). a.m / 2 ^ a.k + x) (and_mask (a.m / 2 ^ a.k) 1) ∙ sym (closest-by a.m (2 ^ a.k) Ordering.eq (omega arith))
