-- `sentences::sentences::put_moved` meets its contract: its pieces, one after the other.
use native.Mathlib.Omega.{arith}
use borrow.Author.Rules.{rules}
use Rattle.text.specs.Numbers.{ascii}
use Rattle.text.proofs.Written.{piece, last}
use Rattle.text.proofs.Pieces.{has_room}
use Rattle.sentences.specs.Sentences.{moved}
use Rattle.sentences.proofs.sentences.put_moved.Goals as goal

pub put_name-requires : goal.put_name-requires
unfolding moved ascii
put_name-requires c = omega arith

pub put_word-requires : goal.put_word-requires
unfolding moved ascii
put_word-requires c = omega arith

pub put_change-requires : goal.put_change-requires
unfolding moved ascii
put_change-requires c = record { part_bound = search rules; room = has_room (omega arith) }

pub put_unit-requires : goal.put_unit-requires
unfolding moved ascii
put_unit-requires c = omega arith

pub returns : goal.returns
unfolding moved ascii
returns c = piece _ c.put_name.ensures (piece _ c.put_word.ensures (piece _ c.put_change.ensures (last c.put_unit.ensures)))
