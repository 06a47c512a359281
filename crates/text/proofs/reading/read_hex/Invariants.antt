-- `text::reading::read_hex` meets its contract. The loop's invariant: the digits passed are in the number so far.
use mathlib.Core.Path.{◌≡◌}
use Prim.Native.Nat.{◌<◌, ◌+◌, ◌-◌, ◌^◌}
use lib.ListN.{drop}
use Rattle.text.specs.Reading.{hex_going_on, hex_at}
use Rattle.text.proofs.reading.read_hex.Given as goal

abbrev pub invariant-loop-b : goal.invariant-loop-b
invariant-loop-b l =
    (l.n < 16 ^ l.b-index)
    × (hex_going_on (16 - l.b-index) (drop l.b-index l.b-items) l.n (l.at + l.b-index) ≡ hex_at l.s l.at)
