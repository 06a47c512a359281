-- `script::run_lines::put_run` meets its contract: its pieces, one after the other.
use native.Mathlib.Omega.{arith}
use borrow.Author.Rules.{rules}
use Rattle.text.specs.Numbers.{ascii}
use Rattle.text.proofs.Written.{piece, last}
use Rattle.text.proofs.Pieces.{has_room}
use Rattle.script.specs.Lines.{run_line}
use Rattle.script.proofs.run_lines.put_run.Goals as goal

pub put_word-requires : goal.put_word-requires
unfolding run_line ascii
put_word-requires c = omega arith

pub put_natural-requires : goal.put_natural-requires
unfolding run_line ascii
put_natural-requires c = has_room (omega arith)

pub put_two-requires : goal.put_two-requires
unfolding run_line ascii
put_two-requires c = has_room (omega arith)

pub put-requires : goal.put-requires
unfolding run_line ascii
put-requires c = omega arith

pub returns : goal.returns
unfolding run_line ascii
returns c = piece _ c.put_word.ensures (piece _ c.put_natural.ensures (piece _ c.put_two.ensures (last c.put.ensures)))
