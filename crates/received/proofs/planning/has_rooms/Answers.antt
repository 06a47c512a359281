-- `received::planning::has_rooms` meets its contract: both rooms are tested.
use mathlib.Core.Path.{◌≡◌, sym, ◌∙◌}
use mathlib.Core.Bool.{true, false}
use Prim.Native.Nat.{◌+◌, ◌/◌}
use native.Mathlib.Omega.{arith}
use borrow.Author.Tests.{lt-leb, le-leb, leb-true, leb-false}
use lib.Dec.{leb}
use lib.ListN.{length}
use Rattle.integers.specs.Tests.{agree, and_no, and_yes, clash}
use Rattle.received.specs.Mending.{words}
use Rattle.received.specs.Planning.{planned_text, planned_list, room_in}
use Rattle.received.proofs.Mends.{planned-long, list-long}
use Rattle.received.proofs.planning.has_rooms.Goals as goal
use Rattle.received.proofs.planning.has_rooms.Goals.{then-out-ge65, else-out-ge65}

pub returns-then-p-out : goal.returns-then-p-out
unfolding room_in
returns-then-p-out c =
    let a = c.args in
    let text = length (planned_text a.text.now a.p) in
    let list = length (words (planned_list a.text.now a.p)) in
    let count = a.p.dropped + c.one_unless.result + c.one_unless-2.result in
    let long = planned-long a.text.now a.p c.requires in
    let listed = list-long a.text.now a.p c.requires in
    let e1 = c.one_unless.ensures in
    let e2 = c.one_unless-2.ensures in
    let fits : leb text a.out ≡ true =
    elim c.if-out-ge65.branch [
      | then-out-ge65 w ↦ le-leb text a.out (omega (arith, w.if-out-ge65.true, leb-true _ _ (sym w.value-is ∙ c.if-p-out.true), long))
      | else-out-ge65 w ↦ clash (sym w.value-is ∙ c.if-p-out.true) (lt-leb 65 a.out w.if-out-ge65.false)
    ] in
    and_yes fits
    (agree (leb count (a.changes / 2)) (leb list a.changes)
    (λ e. le-leb list a.changes (omega (arith, leb-true count (a.changes / 2) e, listed, e1, e2)))
    (λ e. le-leb count (a.changes / 2) (omega (arith, leb-true list a.changes e, listed, e1, e2))))

pub returns-else-p-out : goal.returns-else-p-out
unfolding room_in
returns-else-p-out c =
    let a = c.args in
    let text = length (planned_text a.text.now a.p) in
    let long = planned-long a.text.now a.p c.requires in
    let none : leb text a.out ≡ false =
    elim c.if-out-ge65.branch [
      | then-out-ge65 w ↦ lt-leb text a.out (omega (arith, w.if-out-ge65.true, leb-false _ _ (sym w.value-is ∙ c.if-p-out.false), long))
      | else-out-ge65 w ↦ lt-leb text a.out (omega (arith, w.if-out-ge65.false, long))
    ] in
    c.if-p-out.false ∙ and_no _ none
