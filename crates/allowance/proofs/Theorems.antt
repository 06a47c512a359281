-- All that is said of runs, shown.
use Rattle.running.proofs.Bound.{within-allowance}
use Rattle.allowance.specs.Theorems.{EachRun, AnyTurns}
use Rattle.allowance.proofs.Calls.{run-left, run-answer, turns-left, turns-keep, turns-count, turns-alike}
use Rattle.allowance.proofs.InOrder.{run-reads}
use Rattle.allowance.proofs.Endings.{run-exactly, run-unrefused, run-unchanged, run_ends, run-counts}
use Rattle.allowance.proofs.Figures.{as-worked}

pub each-run : EachRun
each-run =
    record {
      left = run-left;
      answer = λ s floats wanted u. run-answer s floats wanted (run-unrefused s floats u);
      reads = run-reads;
      allowance = within-allowance;
      points = λ s floats wanted. (run-counts s floats wanted).0;
      samples = λ s floats wanted. (run-counts s floats wanted).1;
      refused = run-exactly;
      unchanged = run-unchanged;
      ends = λ s floats wanted u. run_ends s floats wanted (run-unrefused s floats u);
      computed = as-worked;
    }

pub any-turns : AnyTurns
any-turns = record { left = turns-left; keeps = turns-keep; counts = turns-count; alike = turns-alike }
