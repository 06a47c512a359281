-- `script::lines::put_exact` meets its contract: the whole and the part.
use native.Mathlib.Omega.{arith}
use borrow.Author.Rules.{rules}
use mir.Syntax.{w64}
use mir.Val.{SFits}
use mir.Facts.{to_z-of_z}
use Rattle.text.specs.Numbers.{ascii}
use Rattle.text.proofs.Written.{piece, last}
use Rattle.text.proofs.Pieces.{has_room}
use Rattle.script.specs.Lines.{exactly}
use Rattle.script.proofs.lines.put_exact.Goals as goal

pub put_signed-requires : goal.put_signed-requires
unfolding exactly ascii
put_signed-requires c =
    let fits : SFits w64 c.args.e.whole = search rules in
    let w = c.put.ensures.wrote in
    rw (to_z-of_z {w = w64} fits) (omega (arith, c.requires.fits, w.ends, w.long))

pub put_natural-requires : goal.put_natural-requires
unfolding exactly ascii
put_natural-requires c =
    let fits : SFits w64 c.args.e.whole = search rules in
    let v = c.put.ensures.wrote in
    let w = rw (to_z-of_z {w = w64} fits) at c.put_signed.ensures in
    has_room (omega (arith, c.requires.fits, v.ends, v.long, w.wrote.ends, w.wrote.long))

pub returns : goal.returns
unfolding exactly ascii
returns c =
    let fits : SFits w64 c.args.e.whole = search rules in
    let w = rw (to_z-of_z {w = w64} fits) at c.put_signed.ensures in
    piece _ c.put.ensures (piece _ w (last c.put_natural.ensures))

pub put-requires : goal.put-requires
unfolding exactly ascii
put-requires c = omega arith

pub overflow_cast-e : goal.overflow_cast-e
unfolding exactly ascii
overflow_cast-e c = search rules
