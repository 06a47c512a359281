-- `calendar::reader::two_at` meets its contract.
use mathlib.Core.Path.{◌≡◌}
use Prim.Native.Nat.{◌+◌}
use native.Mathlib.Omega.{arith}
use Rattle.calendar.specs.Text.{value_at}
use Rattle.calendar.proofs.reader.two_at.Goals as goal

pub returns : goal.returns
unfolding value_at
returns c =
    let at = c.args.at in
    let z : at + 0 ≡ at = omega arith in
    rw z (omega (arith, c.value.ensures, c.value-2.ensures), omega (arith, c.value.ensures, c.value-2.ensures, c.type_inv.s at, c.type_inv.s (at + 1)))
