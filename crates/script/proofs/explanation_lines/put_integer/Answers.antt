-- `script::explanation_lines::put_integer` meets its contract: a space and the number.
use native.Mathlib.Omega.{arith}
use mir.Facts.{to_z-of_z}
use Rattle.text.specs.Numbers.{ascii}
use Rattle.text.proofs.Written.{piece, last}
use Rattle.script.specs.Lines.{integer}
use mir.Syntax.{w64}
use Rattle.script.proofs.explanation_lines.put_integer.Goals as goal

pub put_signed-requires : goal.put_signed-requires
unfolding integer ascii
put_signed-requires c =
    let w = c.put.ensures.wrote in
    rw (to_z-of_z {w = w64} c.ranges.z) (omega (arith, c.requires.fits, w.ends, w.long))

pub returns : goal.returns
unfolding integer ascii
returns c =
    let w = rw (to_z-of_z {w = w64} c.ranges.z) at c.put_signed.ensures in
    piece _ c.put.ensures (last w)

pub put-requires : goal.put-requires
unfolding integer ascii
put-requires c = omega arith
