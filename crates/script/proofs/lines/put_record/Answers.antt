-- `script::lines::put_record` meets its contract: its pieces, one after the other.
use native.Mathlib.Omega.{arith}
use borrow.Author.Rules.{rules}
use Rattle.text.specs.Numbers.{ascii}
use Rattle.text.proofs.Written.{piece, last}
use Rattle.text.proofs.Pieces.{has_room}
use Rattle.script.specs.Lines.{record_line}
use Rattle.script.proofs.lines.put_record.Goals as goal

pub put_word-requires : goal.put_word-requires
unfolding record_line ascii
put_word-requires c = omega arith

pub put_settings-requires : goal.put_settings-requires
unfolding record_line ascii
put_settings-requires c = has_room (omega arith)

pub put_two-requires : goal.put_two-requires
unfolding record_line ascii
put_two-requires c = has_room (omega arith)

pub put_axes-requires : goal.put_axes-requires
unfolding record_line ascii
put_axes-requires c = has_room (omega arith)

pub put-requires : goal.put-requires
unfolding record_line ascii
put-requires c = omega arith

pub returns : goal.returns
unfolding record_line ascii
returns c = piece _ c.put_word.ensures (piece _ c.put_settings.ensures (piece _ c.put_two.ensures (piece _ c.put_axes.ensures (last c.put.ensures))))
