-- `sentences::words::put_unit` meets its contract: positions and velocities.
use mathlib.Core.Path.{sym, ap}
use native.Mathlib.Omega.{arith}
use lib.ListN.{length}
use Rattle.text.specs.Numbers.{ascii}
use Rattle.text.proofs.Written.{retold}
use Rattle.sentences.proofs.Texts.{of-velocity, of-position}
use Rattle.sentences.proofs.words.put_unit.Goals as goal

pub returns-then-value-gt3 : goal.returns-then-value-gt3
unfolding ascii
returns-then-value-gt3 c =
    retold (sym (of-velocity c.args.value c.if-value-gt3.true)) c.put_word.ensures

pub returns : goal.returns
unfolding ascii
returns c =
    retold (sym (of-position c.args.value c.if-value-gt3.false)) c.put_word-2.ensures

pub put_word-requires : goal.put_word-requires
unfolding ascii
put_word-requires c = omega (arith, c.requires, ap length (of-velocity c.args.value c.if-value-gt3.true))

pub put_word-requires-2 : goal.put_word-requires-2
unfolding ascii
put_word-requires-2 c = omega (arith, c.requires, ap length (of-position c.args.value c.if-value-gt3.false))
