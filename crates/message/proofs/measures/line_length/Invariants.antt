-- `message::measures::line_length` meets its contract. The loop's invariant: the first k values hold, and their texts are so long.
use mathlib.Core.Path.{◌≡◌}
use mathlib.Core.Bool.{true}
use Prim.Native.Nat.{◌+◌, ◌*◌, ◌≤◌}
use lib.ListN.{length}
use Rattle.message.specs.Message.{texts, field}
use Rattle.message.specs.Refusals.{all_of, value_holds}
use Rattle.message.proofs.measures.line_length.Given as goal

abbrev pub invariant-loop-k : goal.invariant-loop-k
invariant-loop-k l = (l.length ≤ 20 + 19 * l.k) × ((all_of (value_holds l.tick l.step l.points l.i) l.k ≡ true) × (l.length ≡ 20 + length (texts (field l.tick l.step l.points l.i) l.k)))
