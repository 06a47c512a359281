-- `script::series::read_series` meets its contract. The loop's invariant: so many pieces were read, and what is left gives the rest.
use mathlib.Core.Path.{◌≡◌}
use Prim.Native.Nat.{◌-◌}
use lib.ListN.{length}
use Rattle.script.specs.Series.{series}
use Rattle.script.proofs.ToTheEnd.{after}
use Rattle.script.proofs.series.read_series.Given as goal

abbrev pub invariant-loop : goal.invariant-loop
invariant-loop g l = record {
  count : length l.series ≡ l.counter;
  so_far : series g.T.Piece.reader g.row.N l.initial.words ≡ after l.series (series g.T.Piece.reader (g.row.N - l.counter) l.words);
}
