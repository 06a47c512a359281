-- Each line lies within the input, and each answer within the output, which keeps its length.
use Rattle.std.proofs.Common.{◌≡◌, ◌-◌, ◌≤◌, length}
use Rattle.player.proofs.lines.answer_lines.Given as goal

abbrev pub invariant-loop-stop : goal.invariant-loop-stop
invariant-loop-stop l = (l.p.used ≤ l.end) × (l.p.written ≤ length l.out) × (length l.out ≡ length l.fn.out)

abbrev pub decreases-loop-stop : goal.decreases-loop-stop
decreases-loop-stop l = l.end - l.p.used
