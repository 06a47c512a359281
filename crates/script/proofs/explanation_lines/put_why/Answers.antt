-- `script::explanation_lines::put_why` meets its contract: its pieces, one after the other.
use native.Mathlib.Omega.{arith}
use borrow.Author.Rules.{rules}
use Rattle.text.specs.Numbers.{ascii}
use Rattle.text.proofs.Written.{piece, last}
use Rattle.text.proofs.Pieces.{has_room}
use Rattle.script.specs.Lines.{why_line}
use Rattle.script.proofs.explanation_lines.put_why.Goals as goal

pub put-requires : goal.put-requires
unfolding why_line ascii
put-requires c =
    let x = c.put_word.ensures.wrote in
    let y = c.put_two.ensures.wrote in
    let z = c.put_reason.ensures.wrote in
    let w = c.put_differences.ensures.wrote in
    omega (arith, c.requires.fits, x.ends, x.long, y.ends, y.long, z.ends, z.long, w.ends, w.long)

pub returns : goal.returns
unfolding why_line ascii
returns c =
    let end = piece _ c.put_differences.ensures (last c.put.ensures) in
    piece _ c.put_word.ensures (piece _ c.put_two.ensures (piece _ c.put_reason.ensures end))

pub put_word-requires : goal.put_word-requires
unfolding why_line ascii
put_word-requires c = omega arith

pub overflow_cast-e : goal.overflow_cast-e
unfolding why_line ascii
overflow_cast-e c = search rules

pub overflow_cast-e-2 : goal.overflow_cast-e-2
unfolding why_line ascii
overflow_cast-e-2 c = search rules

pub put_two-requires : goal.put_two-requires
unfolding why_line ascii
put_two-requires c = has_room (omega arith)

pub put_reason-requires : goal.put_reason-requires
unfolding why_line ascii
put_reason-requires c = has_room (omega arith)

pub put_differences-requires : goal.put_differences-requires
unfolding why_line ascii
put_differences-requires c = has_room (omega arith)
