-- `text::reading::negative` meets its contract.
use mathlib.Core.Path.{sym}
use Prim.Native.Nat.{◌-◌}
use native.Mathlib.Omega.{arith}
use mir.Syntax.{w64}
use mir.Facts.{to_z-of_z, to_z_pos}
use Rattle.text.proofs.Signs.{below-zero, below-too-far, below-number, below-fits}
use Rattle.text.proofs.reading.negative.Goals as goal
use Rattle.text.proofs.reading.negative.Goals.{then-n-eq0-via-then-n-eq0, then-n-eq0-via-else-n-eq0+then-n-gt9223372036854775808}

pub returns-then-n-eq0 : goal.returns-then-n-eq0
returns-then-n-eq0 c =
    elim c.then-n-eq0.branch [
      | then-n-eq0-via-then-n-eq0 w ↦ sym (below-zero _ _ w.if-n-eq0.true)
      | then-n-eq0-via-else-n-eq0+then-n-gt9223372036854775808 w ↦ sym (below-too-far _ _ w.if-n-gt9223372036854775808.true)
    ]

pub returns : goal.returns
returns c =
    let f = c.if-n-eq0.false in
    let h = c.if-n-gt9223372036854775808.false in
    rw (to_z_pos w64 {n = c.args.n - 1} (omega arith), to_z-of_z (below-fits _ f h)) (sym (below-number _ _ f h))
