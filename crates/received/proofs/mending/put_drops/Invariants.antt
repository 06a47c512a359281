-- `received::mending::put_drops` meets its contract. The loop's invariant: the lines dropped up to a place were listed.
use Prim.Native.Nat.{◌+◌, ◌-◌, ◌≤◌}
use lib.ListN.{length, drop}
use Rattle.received.specs.Lines.{lines_in}
use Rattle.received.specs.Mending.{drops_from, words}
use Rattle.received.proofs.Turns.{Putting}
use Rattle.received.proofs.mending.put_drops.Given as goal

abbrev pub invariant-loop-i : goal.invariant-loop-i
invariant-loop-i l = ((l.i ≤ length l.text) × (l.number ≤ l.i + 1))
    × Putting (words (drops_from l.first 0 (lines_in (drop l.from l.text)))) l.initial.changes l.at (words (drops_from l.number l.earliest (lines_in (drop l.i l.text)))) l.changes l.end

abbrev pub decreases-loop-i : goal.decreases-loop-i
decreases-loop-i l = length l.text - l.i
