-- `received::mending::put_drops` meets its contract. The loop's invariant: the lines dropped up to a place were listed.
use mathlib.Core.Path.{ap}
use mathlib.Core.List.{[], ◌∷◌, flatten}
use Prim.Native.Nat.{◌+◌}
use native.Mathlib.Omega.{arith}
use lib.ListN.{drop}
use Rattle.received.specs.Lines.{lines_in}
use Rattle.received.specs.Mending.{drops_from, words}
use Rattle.received.proofs.Surveys.{none_dropped, drops-here, drops-gone}
use Rattle.received.proofs.Turns.{put-none, put_next, put-still, put_all, put-room}
use Rattle.received.proofs.mending.put_drops.Goals as goal

pub loop-i-init : goal.loop-i-init
loop-i-init c =
    let a = c.args in
    (c.requires.from_in_bounds, put-none (words (drops_from a.first 0 (lines_in (drop a.from a.text.now)))) a.changes.now a.at)

pub look-l-requires : goal.look-l-requires
look-l-requires c = c.loop-i-test.true

pub overflow_add-number : goal.overflow_add-number
overflow_add-number c = omega (arith, c.loop-i.invariant.0.1, c.loop-i-test.true)

pub overflow_add-earliest : goal.overflow_add-earliest
overflow_add-earliest c = omega (arith, c.look-l.ensures.early)

pub put_change-end-requires : goal.put_change-end-requires
unfolding flatten
put_change-end-requires c =
    let k = c.look-l in
    let l = c.loop-i in
    let text = c.args.text.now in
    put-room l.invariant.1 c.requires.text_in_bounds (l.number ∷ 1 ∷ []) (words (drops_from (l.number + 1) l.earliest (lines_in (drop k.result.end text))))
    (ap words (drops-gone text k.ensures l.number c.if-l.false))

pub loop-i-smaller-then-l : goal.loop-i-smaller-then-l
loop-i-smaller-then-l c = let k = c.look-l.ensures in omega (arith, k.more, k.within)

pub loop-i-preserved-then-l : goal.loop-i-preserved-then-l
loop-i-preserved-then-l c =
    let k = c.look-l.ensures in
    let l = c.loop-i in
    let text = c.args.text.now in
    ((k.within, omega (arith, k.more, l.invariant.0.1)), put-still l.invariant.1 (ap words (drops-here text k l.number c.if-l.true)))

pub loop-i-smaller : goal.loop-i-smaller
loop-i-smaller c = let k = c.look-l.ensures in omega (arith, k.more, k.within)

pub loop-i-preserved : goal.loop-i-preserved
unfolding flatten
loop-i-preserved c =
    let k = c.look-l.ensures in
    let l = c.loop-i in
    let text = c.args.text.now in (
      (k.within, omega (arith, k.more, l.invariant.0.1)),
      put_next l.invariant.1 (l.number ∷ 1 ∷ []) (ap words (drops-gone text k l.number c.if-l.false)) c.put_change-end.ensures,
    )

pub returns : goal.returns
unfolding flatten
returns c =
    let l = c.loop-i in
    let text = c.args.text.now in
    put_all l.invariant.1 (ap words (none_dropped text l.i l.earliest c.loop-i-test.false l.number))

pub shape_of-changes : goal.shape_of-changes
shape_of-changes c = c.loop-i.invariant.1.wrote.long
