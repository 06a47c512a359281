-- `sentences::sentences::put_told` meets its contract: its pieces, one after the other.
use native.Mathlib.Omega.{arith}
use borrow.Author.Rules.{rules}
use Rattle.text.specs.Numbers.{ascii}
use Rattle.text.proofs.Written.{piece, last}
use Rattle.text.proofs.Pieces.{has_room}
use Rattle.sentences.specs.Sentences.{told}
use Rattle.sentences.proofs.sentences.put_told.Goals as goal

pub returns : goal.returns
unfolding told ascii
returns c =
    let end = piece _ c.put_word-2.ensures (piece _ c.put_said.ensures (last c.put.ensures)) in
    piece _ c.put_word.ensures (piece _ c.put_decimal.ensures end)

pub put_word-requires : goal.put_word-requires
unfolding told ascii
put_word-requires c = omega arith

pub put_decimal-requires : goal.put_decimal-requires
unfolding told ascii
put_decimal-requires c = omega arith

pub put_word-requires-2 : goal.put_word-requires-2
unfolding told ascii
put_word-requires-2 c = omega arith

pub put_said-requires : goal.put_said-requires
unfolding told ascii
put_said-requires c = record { part_bound = search rules; room = has_room (omega arith) }

pub put-requires : goal.put-requires
unfolding told ascii
put-requires c = omega arith
