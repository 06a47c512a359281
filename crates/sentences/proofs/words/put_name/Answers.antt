-- `sentences::words::put_name` meets its contract: the word of each place.
use mathlib.Core.Path.{sym, ap}
use native.Mathlib.Omega.{arith}
use borrow.Author.Rules.{rules}
use lib.ListN.{length}
use Rattle.text.specs.Numbers.{ascii}
use Rattle.text.proofs.Written.{nothing, retold}
use Rattle.sentences.specs.Sentences.{name_text}
use Rattle.sentences.proofs.NoWord.{no_name}
use Rattle.sentences.proofs.words.put_name.Goals as goal

pub put_word-requires : goal.put_word-requires
unfolding name_text ascii
put_word-requires c = omega (arith, c.requires, ap (λ n. length (name_text n)) c.in-1.is)

pub put_word-requires-in-2 : goal.put_word-requires-in-2
unfolding name_text ascii
put_word-requires-in-2 c = omega (arith, c.requires, ap (λ n. length (name_text n)) c.in-2.is)

pub put_word-requires-in-3 : goal.put_word-requires-in-3
unfolding name_text ascii
put_word-requires-in-3 c = omega (arith, c.requires, ap (λ n. length (name_text n)) c.in-3.is)

pub put_word-requires-in-4 : goal.put_word-requires-in-4
unfolding name_text ascii
put_word-requires-in-4 c = omega (arith, c.requires, ap (λ n. length (name_text n)) c.in-4.is)

pub put_word-requires-in-5 : goal.put_word-requires-in-5
unfolding name_text ascii
put_word-requires-in-5 c = omega (arith, c.requires, ap (λ n. length (name_text n)) c.in-5.is)

pub put_word-requires-in-6 : goal.put_word-requires-in-6
unfolding name_text ascii
put_word-requires-in-6 c = omega (arith, c.requires, ap (λ n. length (name_text n)) c.in-6.is)

pub returns-in-1 : goal.returns-in-1
unfolding name_text ascii
returns-in-1 c = retold (sym (ap name_text c.in-1.is)) c.put_word.ensures

pub returns-in-2 : goal.returns-in-2
unfolding name_text ascii
returns-in-2 c = retold (sym (ap name_text c.in-2.is)) c.put_word-in-2.ensures

pub returns-in-3 : goal.returns-in-3
unfolding name_text ascii
returns-in-3 c = retold (sym (ap name_text c.in-3.is)) c.put_word-in-3.ensures

pub returns-in-4 : goal.returns-in-4
unfolding name_text ascii
returns-in-4 c = retold (sym (ap name_text c.in-4.is)) c.put_word-in-4.ensures

pub returns-in-5 : goal.returns-in-5
unfolding name_text ascii
returns-in-5 c = retold (sym (ap name_text c.in-5.is)) c.put_word-in-5.ensures

pub returns-in-6 : goal.returns-in-6
unfolding name_text ascii
returns-in-6 c = retold (sym (ap name_text c.in-6.is)) c.put_word-in-6.ensures

pub returns-in_default : goal.returns-in_default
unfolding name_text ascii
returns-in_default c = retold (sym (no_name c.args.value (search rules))) (nothing c.args.w.now)
