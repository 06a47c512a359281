-- `received::heads::pass_any` meets its contract. The loop's invariant: every line so far is of the form.
use mathlib.Core.Path.{◌≡◌}
use Prim.Native.Nat.{◌-◌}
use lib.ListN.{length}
use Rattle.received.specs.Slots.{any, form_of}
use Rattle.received.specs.Reading.{slot_at}
use Rattle.received.specs.Finding.{Inside}
use Rattle.received.proofs.Walks.{ends}
use Rattle.received.proofs.heads.pass_any.Given as goal

abbrev pub invariant-loop-next : goal.invariant-loop-next
invariant-loop-next l = Inside l.text l.spot
    × (ends (form_of (slot_at l.edition l.k)) l.text l.spot.at l.spot.line (any (form_of (slot_at l.edition l.k))) ≡ ends (form_of (slot_at l.edition l.k)) l.text l.fn.from.at l.fn.from.line (any (form_of (slot_at l.edition l.k))))

abbrev pub decreases-loop-next : goal.decreases-loop-next
decreases-loop-next l = length l.text - l.spot.at
