-- `message::measures::lines_length` meets its contract. The loop's invariant: the first i points hold, and their lines are so long.
use mathlib.Core.Path.{◌≡◌}
use mathlib.Core.Bool.{true}
use Prim.Native.Nat.{◌*◌, ◌≤◌}
use lib.ListN.{length}
use Rattle.message.specs.Message.{texts, line_from}
use Rattle.message.specs.Refusals.{all_of, point_holds}
use Rattle.message.proofs.measures.lines_length.Given as goal

abbrev pub invariant-loop-i : goal.invariant-loop-i
invariant-loop-i l = (l.length ≤ 134 * l.i) × ((all_of (point_holds l.tick l.step l.points) l.i ≡ true) × (l.length ≡ length (texts (line_from l.tick l.step l.points 0) l.i)))
