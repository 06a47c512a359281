-- `sentences::words::put_ordinal` meets its contract: the word of each place.
use mathlib.Core.Path.{sym, ap}
use native.Mathlib.Omega.{arith}
use borrow.Author.Rules.{rules}
use lib.ListN.{length}
use Rattle.text.specs.Numbers.{ascii}
use Rattle.text.proofs.Written.{nothing, retold}
use Rattle.sentences.specs.Sentences.{ordinal}
use Rattle.sentences.proofs.NoWord.{no-ordinal}
use Rattle.sentences.proofs.words.put_ordinal.Goals as goal

pub put_word-requires : goal.put_word-requires
unfolding ordinal ascii
put_word-requires c = omega (arith, c.requires, ap (λ n. length (ordinal n)) c.in-0.is)

pub put_word-requires-in-1 : goal.put_word-requires-in-1
unfolding ordinal ascii
put_word-requires-in-1 c = omega (arith, c.requires, ap (λ n. length (ordinal n)) c.in-1.is)

pub put_word-requires-in-2 : goal.put_word-requires-in-2
unfolding ordinal ascii
put_word-requires-in-2 c = omega (arith, c.requires, ap (λ n. length (ordinal n)) c.in-2.is)

pub put_word-requires-in-3 : goal.put_word-requires-in-3
unfolding ordinal ascii
put_word-requires-in-3 c = omega (arith, c.requires, ap (λ n. length (ordinal n)) c.in-3.is)

pub put_word-requires-in-4 : goal.put_word-requires-in-4
unfolding ordinal ascii
put_word-requires-in-4 c = omega (arith, c.requires, ap (λ n. length (ordinal n)) c.in-4.is)

pub put_word-requires-in-5 : goal.put_word-requires-in-5
unfolding ordinal ascii
put_word-requires-in-5 c = omega (arith, c.requires, ap (λ n. length (ordinal n)) c.in-5.is)

pub put_word-requires-in-6 : goal.put_word-requires-in-6
unfolding ordinal ascii
put_word-requires-in-6 c = omega (arith, c.requires, ap (λ n. length (ordinal n)) c.in-6.is)

pub put_word-requires-in-7 : goal.put_word-requires-in-7
unfolding ordinal ascii
put_word-requires-in-7 c = omega (arith, c.requires, ap (λ n. length (ordinal n)) c.in-7.is)

pub returns-in-0 : goal.returns-in-0
unfolding ordinal ascii
returns-in-0 c = retold (sym (ap ordinal c.in-0.is)) c.put_word.ensures

pub returns-in-1 : goal.returns-in-1
unfolding ordinal ascii
returns-in-1 c = retold (sym (ap ordinal c.in-1.is)) c.put_word-in-1.ensures

pub returns-in-2 : goal.returns-in-2
unfolding ordinal ascii
returns-in-2 c = retold (sym (ap ordinal c.in-2.is)) c.put_word-in-2.ensures

pub returns-in-3 : goal.returns-in-3
unfolding ordinal ascii
returns-in-3 c = retold (sym (ap ordinal c.in-3.is)) c.put_word-in-3.ensures

pub returns-in-4 : goal.returns-in-4
unfolding ordinal ascii
returns-in-4 c = retold (sym (ap ordinal c.in-4.is)) c.put_word-in-4.ensures

pub returns-in-5 : goal.returns-in-5
unfolding ordinal ascii
returns-in-5 c = retold (sym (ap ordinal c.in-5.is)) c.put_word-in-5.ensures

pub returns-in-6 : goal.returns-in-6
unfolding ordinal ascii
returns-in-6 c = retold (sym (ap ordinal c.in-6.is)) c.put_word-in-6.ensures

pub returns-in-7 : goal.returns-in-7
unfolding ordinal ascii
returns-in-7 c = retold (sym (ap ordinal c.in-7.is)) c.put_word-in-7.ensures

pub returns-in_default : goal.returns-in_default
unfolding ordinal ascii
returns-in_default c = retold (sym (no-ordinal c.args.n (search rules))) (nothing c.args.w.now)
