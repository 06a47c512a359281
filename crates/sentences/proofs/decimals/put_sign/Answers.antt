-- `sentences::decimals::put_sign` meets its contract: a sign where the number is below 0.
use mathlib.Core.Path.{sym, ap}
use native.Mathlib.Omega.{arith}
use lib.ListN.{length}
use mir.Facts.{to_z-of_z}
use Rattle.text.proofs.Written.{nothing, retold}
use Rattle.sentences.proofs.Texts.{minus, no_sign}
use mir.Syntax.{w64}
use Rattle.sentences.proofs.decimals.put_sign.Goals as goal

pub put-requires : goal.put-requires
put-requires c =
    omega (arith, c.requires, ap length (minus c.args.whole (rw (to_z-of_z {w = w64} c.ranges.whole) at c.if-whole-lt0.true)))

pub returns-then-whole-lt0 : goal.returns-then-whole-lt0
returns-then-whole-lt0 c =
    retold (sym (minus c.args.whole (rw (to_z-of_z {w = w64} c.ranges.whole) at c.if-whole-lt0.true))) c.put.ensures

pub returns : goal.returns
returns c =
    retold (sym (no_sign c.args.whole (rw (to_z-of_z {w = w64} c.ranges.whole) at c.if-whole-lt0.false))) (nothing c.args.w.now)
