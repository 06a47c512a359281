-- `oem::answers::put_line` meets its contract: a word, a number, a word.
use native.Mathlib.Omega.{arith}
use borrow.Author.Rules.{rules}
use Rattle.text.proofs.Pieces.{length-flatten}
use Rattle.text.proofs.Written.{piece, last, from_start}
use Rattle.oem.specs.Answers.{line_with}
use Rattle.oem.proofs.Said.{decimal-short, said}
use Rattle.oem.proofs.answers.put_line.Goals as goal

pub put_word-requires : goal.put_word-requires
put_word-requires c =
    let w = c.new-w.ensures in
    omega (arith, c.requires, w.long, w.starts)

pub put_decimal-requires : goal.put_decimal-requires
put_decimal-requires c =
    let w = c.new-w.ensures in
    let a = c.put_word.ensures.wrote in
    omega (arith, c.requires, w.long, w.starts, a.ends, a.long, decimal-short c.args.n c.ranges.n.fits)

pub put_word-requires-2 : goal.put_word-requires-2
put_word-requires-2 c =
    let w = c.new-w.ensures in
    let a = c.put_word.ensures.wrote in
    let b = c.put_decimal.ensures.wrote in
    omega (arith, c.requires, w.long, w.starts, a.ends, a.long, b.ends, b.long, decimal-short c.args.n c.ranges.n.fits)

pub returns : goal.returns
unfolding line_with
returns c =
    let short = decimal-short c.args.n c.ranges.n.fits in
    let l = length-flatten (line_with c.args.before.now c.args.n c.args.after.now) in
    let line = from_start c.new-w.ensures (piece _ c.put_word.ensures (piece _ c.put_decimal.ensures (last c.put_word-2.ensures))) in
    let says = said line (omega (arith, c.requires, short, l)) in
    rw c.place.ensures (search (rules, says))
