-- `reports::changes::put_what` meets its contract: one of three words.
use mathlib.Core.Path.{sym, ap}
use native.Mathlib.Omega.{arith}
use lib.ListN.{length}
use Rattle.text.specs.Numbers.{ascii}
use Rattle.text.proofs.Written.{retold}
use Rattle.reports.proofs.Cases.{what-dropped, what-start, what-stop}
use Rattle.reports.proofs.changes.put_what.Goals as goal

pub put_word-requires : goal.put_word-requires
unfolding ascii
put_word-requires c = omega (arith, c.requires, ap length (what-dropped c.args.what c.if-what-eq1.true))

pub returns-then-what-eq1 : goal.returns-then-what-eq1
unfolding ascii
returns-then-what-eq1 c = retold (sym (what-dropped c.args.what c.if-what-eq1.true)) c.put_word.ensures

pub put_word-requires-then-what-eq2 : goal.put_word-requires-then-what-eq2
unfolding ascii
put_word-requires-then-what-eq2 c = omega (arith, c.requires, ap length (what-start c.args.what c.if-what-eq1.false c.if-what-eq2.true))

pub returns-then-what-eq2 : goal.returns-then-what-eq2
unfolding ascii
returns-then-what-eq2 c = retold (sym (what-start c.args.what c.if-what-eq1.false c.if-what-eq2.true)) c.put_word-then-what-eq2.ensures

pub put_word-requires-else-what-eq2 : goal.put_word-requires-else-what-eq2
unfolding ascii
put_word-requires-else-what-eq2 c = omega (arith, c.requires, ap length (what-stop c.args.what c.if-what-eq1.false c.if-what-eq2.false))

pub returns-else-what-eq2 : goal.returns-else-what-eq2
unfolding ascii
returns-else-what-eq2 c = retold (sym (what-stop c.args.what c.if-what-eq1.false c.if-what-eq2.false)) c.put_word-else-what-eq2.ensures
