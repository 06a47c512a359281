-- `received::mending::put_kept` meets its contract. The loop's invariant: the lines kept up to a place were written.
use mathlib.Core.Path.{◌≡◌}
use mathlib.Core.List.{flatten}
use Prim.Native.Nat.{◌-◌, ◌≤◌}
use lib.ListN.{length, drop}
use Rattle.received.specs.Lines.{lines_in}
use Rattle.received.specs.Data.{kept_of}
use Rattle.received.proofs.Turns.{Putting}
use Rattle.received.proofs.mending.put_kept.Given as goal

abbrev pub invariant-loop-i : goal.invariant-loop-i
invariant-loop-i l =
    record {
      within : l.i ≤ length l.text;
      same : l.w.out.ghost_name ≡ l.initial.w.out.ghost_name;
      kept : Putting (flatten (kept_of 0 (lines_in (drop l.from l.text)))) l.initial.w.out.now l.initial.w.at (flatten (kept_of l.earliest (lines_in (drop l.i l.text)))) l.w.out.now l.w.at;
    }

abbrev pub decreases-loop-i : goal.decreases-loop-i
decreases-loop-i l = length l.text - l.i
