-- `sentences::sentences::put_named` meets its contract: its pieces, one after the other.
use native.Mathlib.Omega.{arith}
use borrow.Author.Rules.{rules}
use Rattle.text.proofs.Written.{piece, last}
use Rattle.sentences.specs.Sentences.{named}
use Rattle.sentences.proofs.sentences.put_named.Goals as goal

pub put_name-requires : goal.put_name-requires
unfolding named
put_name-requires c = omega arith

pub put_word-requires : goal.put_word-requires
unfolding named
put_word-requires c = omega arith

pub returns : goal.returns
unfolding named
returns c = piece _ c.put_name.ensures (last c.put_word.ensures)
