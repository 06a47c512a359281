-- `message::measures::lines_length` meets its contract. The loop's invariant: the first i points hold, and their lines are so long.
use mathlib.Core.Path.{◌≡◌, ◌∙◌}
use Prim.Native.Nat.{◌/◌}
use native.Mathlib.Omega.{arith}
use lib.ListN.{length}
use Rattle.message.specs.Request.{count_of}
use Rattle.message.specs.Message.{texts, line_from}
use Rattle.message.specs.Refusals.{all_of, point_holds}
use Rattle.message.specs.Measures.{data_length}
use Rattle.message.proofs.Runs.{all_none, all_more, all-fails, length_none, length-next}
use Rattle.message.proofs.Values.{held, unheld, fails-at, holds_at, line-some}
use Rattle.message.proofs.measures.lines_length.Goals as goal

pub loop-i-init : goal.loop-i-init
loop-i-init c =
    let a = c.args in
    let f = line_from a.tick a.step a.points.now 0 in
    (omega arith, (all_none (point_holds a.tick a.step a.points.now), omega (arith, length_none f)))

pub line_length-more-requires : goal.line_length-more-requires
line_length-more-requires c = record { i_in_bounds = omega (arith, c.loop-i-test.true); step_value = c.requires.step_value }

pub returns-then-more-eq0 : goal.returns-then-more-eq0
unfolding data_length count_of
returns-then-more-eq0 c =
    let a = c.args in
    let p = a.points.now in
    let i = c.loop-i.i in
    let h = point_holds a.tick a.step p in
    let f = line_from a.tick a.step p 0 in
    let none = fails-at (h i) (f i) c.line_length-more.ensures.0 (line-some a.tick a.step p i 0) c.if-more-eq0.true in
    (unheld (all_of h (length p / 12)) (texts f (length p / 12)) (all-fails h (length p / 12) i none c.loop-i-test.true), omega arith)

pub overflow_add-length : goal.overflow_add-length
overflow_add-length c = omega (arith, c.loop-i.invariant.0, c.line_length-more.ensures.1, c.loop-i-test.true, c.requires.points_len_bound)

pub loop-i-preserved : goal.loop-i-preserved
loop-i-preserved c =
    let a = c.args in
    let i = c.loop-i.i in
    let h = point_holds a.tick a.step a.points.now in
    let f = line_from a.tick a.step a.points.now 0 in
    let (t, l) = holds_at (h i) (f i) c.line_length-more.ensures.0 c.if-more-eq0.false in (
      omega (arith, c.loop-i.invariant.0, c.line_length-more.ensures.1),
      (all_more h i c.loop-i.invariant.1.0 t, omega (arith, c.loop-i.invariant.1.1, l, length-next f i)),
    )

pub returns : goal.returns
unfolding data_length count_of
returns c =
    let a = c.args in
    let p = a.points.now in
    let h = point_holds a.tick a.step p in
    let f = line_from a.tick a.step p 0 in
    let all : c.loop-i.i ≡ length p / 12 = omega (arith, c.loop-i-test.false) in
    let t = rw all at c.loop-i.invariant.1.0 in
    let l = rw all at c.loop-i.invariant.1.1 in
    (l ∙ held (all_of h (length p / 12)) (texts f (length p / 12)) t, omega (arith, c.loop-i.invariant.0, c.requires.points_len_bound))
