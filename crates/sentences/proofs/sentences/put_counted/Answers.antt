-- `sentences::sentences::put_counted` meets its contract: its pieces, one after the other.
use native.Mathlib.Omega.{arith}
use borrow.Author.Rules.{rules}
use Rattle.text.specs.Numbers.{ascii}
use Rattle.text.proofs.Written.{piece, last}
use Rattle.sentences.specs.Sentences.{counted}
use Rattle.sentences.proofs.sentences.put_counted.Goals as goal

pub put_ordinal-requires : goal.put_ordinal-requires
unfolding counted ascii
put_ordinal-requires c = omega arith

pub put_word-requires : goal.put_word-requires
unfolding counted ascii
put_word-requires c = omega arith

pub put_cardinal-requires : goal.put_cardinal-requires
unfolding counted ascii
put_cardinal-requires c = omega arith

pub returns : goal.returns
unfolding counted ascii
returns c = piece _ c.put_ordinal.ensures (piece _ c.put_word.ensures (last c.put_cardinal.ensures))
