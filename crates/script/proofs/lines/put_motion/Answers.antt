-- `script::lines::put_motion` meets its contract: its two pieces, one after the other.
use native.Mathlib.Omega.{arith}
use borrow.Author.Rules.{rules}
use Rattle.text.proofs.Written.{piece, last}
use Rattle.text.proofs.Pieces.{has_room}
use Rattle.script.specs.Lines.{motion_words}
use Rattle.script.proofs.lines.put_motion.Goals as goal

pub put_exact-requires : goal.put_exact-requires
unfolding motion_words
put_exact-requires c = has_room (omega arith)

pub put_exact-requires-2 : goal.put_exact-requires-2
unfolding motion_words
put_exact-requires-2 c = has_room (omega arith)

pub returns : goal.returns
unfolding motion_words
returns c = piece _ c.put_exact.ensures (last c.put_exact-2.ensures)
