-- `message::measures::digits` meets its contract. The loop's invariant: what is left has as many digits as were not counted, but one.
use mathlib.Core.Path.{◌≡◌, ap}
use native.Mathlib.Omega.{arith}
use lib.ListN.{length}
use Rattle.text.specs.Numbers.{decimal}
use Rattle.text.proofs.Digits.{decimal-small, length_more, length-decimal}
use Rattle.message.proofs.measures.digits.Goals as goal

pub loop-left-init : goal.loop-left-init
loop-left-init c = (omega arith, omega (arith, c.ranges))

pub overflow_add-count : goal.overflow_add-count
overflow_add-count c = omega (arith, c.loop-left.invariant.0, length-decimal 19 c.args.n (omega (arith, c.ranges)))

pub loop-left-preserved : goal.loop-left-preserved
loop-left-preserved c = (omega (arith, c.loop-left.invariant.0, length_more c.loop-left.left (omega (arith, c.loop-left-test.true)) c.loop-left.invariant.1), omega (arith, c.loop-left.invariant.1))

pub returns : goal.returns
returns c =
    let e : c.loop-left.count ≡ length (decimal c.args.n) = omega (arith, c.loop-left.invariant.0, ap length (decimal-small c.loop-left.left (omega (arith, c.loop-left-test.false)))) in
    (e, omega (arith, e, length-decimal 19 c.args.n (omega (arith, c.ranges))))

pub loop-left-smaller : goal.loop-left-smaller
loop-left-smaller c = omega arith
