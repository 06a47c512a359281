-- `received::heads::reach` meets its contract. The loop's invariant: j slots were passed, and what is left of the walk gives the rest.
use mathlib.Core.Path.{◌≡◌}
use lib.ListN.{take, drop}
use Rattle.received.specs.Lines.{lines_in}
use Rattle.received.specs.Slots.{walk}
use Rattle.received.specs.Profile.{slots}
use Rattle.received.specs.Finding.{spot_from, Inside}
use Rattle.received.proofs.heads.reach.Given as goal

abbrev pub invariant-loop-j : goal.invariant-loop-j
invariant-loop-j l = Inside l.text l.spot
    × (spot_from l.spot.at l.spot.line (walk (drop l.j (take l.k (slots l.edition))) (lines_in (drop l.spot.at l.text))) ≡ spot_from 0 1 (walk (take l.k (slots l.edition)) (lines_in l.text)))
