-- `decimal::reading::read_digits` meets its contract. The loop's invariant: the digits passed are in the number so far.
use mathlib.Core.Path.{◌≡◌}
use Prim.Native.Nat.{◌+◌, ◌-◌}
use lib.ListN.{drop}
use Rattle.decimal.specs.Reading.{more_digits}
use Rattle.decimal.proofs.reading.read_digits.Given as goal

abbrev pub invariant-loop-b : goal.invariant-loop-b
invariant-loop-b l =
    more_digits (l.count - l.b-index) (drop l.b-index l.b-items) l.n (l.from + l.b-index) ≡ more_digits l.count (drop l.from l.s) l.first l.from
