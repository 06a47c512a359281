-- `text::reading::read_more` meets its contract. The loop's invariant: the digits passed are in the number so far.
use mathlib.Core.Path.{◌≡◌}
use lib.ListN.{drop}
use Rattle.text.specs.Reading.{going_on}
use Rattle.text.proofs.reading.read_more.Given as goal

abbrev pub invariant-loop-i : goal.invariant-loop-i
invariant-loop-i l = going_on (drop l.i l.s) l.n l.i ≡ going_on (drop l.from l.s) l.first l.from
