-- `script::round_lines::put_round` meets its contract: its pieces, one after the other.
use native.Mathlib.Omega.{arith}
use borrow.Author.Rules.{rules}
use Rattle.text.specs.Numbers.{ascii}
use Rattle.text.proofs.Written.{piece, last}
use Rattle.text.proofs.Pieces.{has_room}
use Rattle.script.specs.Lines.{round_line}
use Rattle.script.proofs.round_lines.put_round.Goals as goal

pub put_word-requires : goal.put_word-requires
unfolding round_line ascii
put_word-requires c = omega arith

pub put_summary-requires : goal.put_summary-requires
unfolding round_line ascii
put_summary-requires c = has_room (omega arith)

pub put_nine-requires : goal.put_nine-requires
unfolding round_line ascii
put_nine-requires c = has_room (omega arith)

pub put-requires : goal.put-requires
unfolding round_line ascii
put-requires c = omega arith

pub returns : goal.returns
unfolding round_line ascii
returns c = piece _ c.put_word.ensures (piece _ c.put_summary.ensures (piece _ c.put_nine.ensures (last c.put.ensures)))
