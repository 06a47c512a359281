-- `message::measures::line_length` meets its contract. The loop's invariant: the first k values hold, and their texts are so long.
use mathlib.Core.Path.{◌≡◌, sym, ◌∙◌}
use native.Mathlib.Omega.{arith}
use Rattle.message.specs.Message.{field, line_from}
use Rattle.message.specs.Refusals.{all_of, value_holds, point_holds}
use Rattle.message.proofs.Runs.{all_none, all_more, all-fails, length_none, length-next}
use Rattle.message.proofs.Values.{held, unheld, fails-at, holds_at, field-some, length-line}
use Rattle.message.proofs.measures.line_length.Goals as goal

pub loop-k-init : goal.loop-k-init
loop-k-init c =
    let a = c.args in
    let f = field a.tick a.step a.points.now a.i in
    (omega arith, (all_none (value_holds a.tick a.step a.points.now a.i), omega (arith, length_none f)))

pub returns-then-more-eq0 : goal.returns-then-more-eq0
unfolding point_holds
returns-then-more-eq0 c =
    let a = c.args in
    let k = c.loop-k.k in
    let h = value_holds a.tick a.step a.points.now a.i in
    let f = field a.tick a.step a.points.now a.i in
    let none = fails-at (h k) (f k) c.value_length-more.ensures.0 (field-some a.tick a.step a.points.now a.i k) c.if-more-eq0.true in
    (unheld (all_of h 6) (line_from a.tick a.step a.points.now 0 a.i) (all-fails h 6 k none c.loop-k-test.true), omega arith)

pub loop-k-preserved : goal.loop-k-preserved
loop-k-preserved c =
    let a = c.args in
    let k = c.loop-k.k in
    let h = value_holds a.tick a.step a.points.now a.i in
    let f = field a.tick a.step a.points.now a.i in
    let (t, l) = holds_at (h k) (f k) c.value_length-more.ensures.0 c.if-more-eq0.false in (
      omega (arith, c.loop-k.invariant.0, c.value_length-more.ensures.1),
      (all_more h k c.loop-k.invariant.1.0 t, omega (arith, c.loop-k.invariant.1.1, l, length-next f k)),
    )

pub returns : goal.returns
unfolding point_holds
returns c =
    let a = c.args in
    let h = value_holds a.tick a.step a.points.now a.i in
    let all : c.loop-k.k ≡ 6 = omega (arith, c.loop-k-test.false) in
    let t = rw all at c.loop-k.invariant.1.0 in
    let l = rw all at c.loop-k.invariant.1.1 in (
      l ∙ sym (length-line a.tick a.step a.points.now a.i 0) ∙ held (all_of h 6) (line_from a.tick a.step a.points.now 0 a.i) t,
      omega (arith, c.loop-k.invariant.0),
    )

pub overflow_add-length : goal.overflow_add-length
overflow_add-length c = omega arith
