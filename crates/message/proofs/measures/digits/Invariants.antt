-- `message::measures::digits` meets its contract. The loop's invariant: what is left has as many digits as were not counted, but one.
use mathlib.Core.Path.{◌≡◌}
use Prim.Native.Nat.{◌+◌, ◌^◌, ◌<◌}
use lib.ListN.{length}
use Rattle.text.specs.Numbers.{decimal}
use Rattle.message.proofs.measures.digits.Given as goal

abbrev pub invariant-loop-left : goal.invariant-loop-left
invariant-loop-left l = (length (decimal l.n) + 1 ≡ length (decimal l.left) + l.count) × (l.left < 2 ^ 64)

abbrev pub decreases-loop-left : goal.decreases-loop-left
decreases-loop-left l = l.left
