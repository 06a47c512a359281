-- `sentences::sentences::put_over` meets its contract: its pieces, one after the other.
use native.Mathlib.Omega.{arith}
use borrow.Author.Rules.{rules}
use Rattle.text.proofs.Written.{piece, last}
use Rattle.text.proofs.Pieces.{has_room}
use Rattle.sentences.specs.Sentences.{over_tolerance}
use Rattle.sentences.proofs.sentences.put_over.Goals as goal

pub put_moved-requires : goal.put_moved-requires
unfolding over_tolerance
put_moved-requires c = record { part_bound = search rules; room = has_room (omega arith) }

pub put_against-requires : goal.put_against-requires
unfolding over_tolerance
put_against-requires c = has_room (omega arith)

pub put_counted-requires : goal.put_counted-requires
unfolding over_tolerance
put_counted-requires c = has_room (omega arith)

pub put_word-requires : goal.put_word-requires
unfolding over_tolerance
put_word-requires c = omega arith

pub returns : goal.returns
unfolding over_tolerance
returns c = piece _ c.put_moved.ensures (piece _ c.put_against.ensures (piece _ c.put_counted.ensures (last c.put_word.ensures)))
