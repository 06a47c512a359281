-- `message_request::points::read_from` meets its contract. The loop's invariant: the points so far were kept.
use Rattle.std.proofs.Common.{arith, ◌≡◌, ◌+◌, ◌-◌, ◌/◌, ◌≤◌, length, sym, ◌∙◌, ap}
use Rattle.std.proofs.lemmas.Slice.{put_mid-paste}
use Rattle.message_request.specs.Points.{kept_from}
use Rattle.message_request.proofs.Kept.{over-there, no_point, no_room, filled, counted, size-of, one_more}
use Rattle.message_request.proofs.points.read_from.Goals as goal

pub returns-in_default : goal.returns-in_default
returns-in_default c =
    let a = c.args in
    let none = sym c.read_point.ensures ∙ c.in_default.is in
    let e = no_point a.text.now c.loop-at.at c.loop-at-test.true none ((length a.numbers.now - c.loop-at.count) / 12) in (
      rw (c.line_number.ensures) (counted a.text.now a.start c.loop-at.invariant e),
      filled a.text.now a.start c.loop-at.invariant e,
    )

pub returns-then-numbers-count-lt12 : goal.returns-then-numbers-count-lt12
returns-then-numbers-count-lt12 c =
    let a = c.args in
    let z : (length a.numbers.now - c.loop-at.count) / 12 ≡ 0 = omega (arith, c.loop-at.invariant.long, c.if-numbers-count-lt12.true) in
    let point = sym c.read_point.ensures ∙ c.in-Some.is in
    let e =
    ap (λ k. kept_from k a.text.now c.loop-at.at) z
    ∙ no_room a.text.now c.loop-at.at c.loop-at-test.true c.in-Some.point.0 c.in-Some.point.1 point in (
      counted a.text.now a.start c.loop-at.invariant e,
      filled a.text.now a.start c.loop-at.invariant e,
    )

pub loop-at-preserved : goal.loop-at-preserved
loop-at-preserved c =
    let a = c.args in
    let l = c.loop-at in
    let values = c.in-Some.point.0 in
    let room : l.count + 12 ≤ length a.numbers.now = omega (arith, l.invariant.long, l.invariant.within, c.if-numbers-count-lt12.false) in
    let point = sym c.read_point.ensures ∙ c.in-Some.is in
    let size = size-of a.text.now a.start l.invariant c.loop-at-test.true values c.in-Some.point.1 point room in
    one_more a.text.now a.start l.invariant c.loop-at-test.true values c.in-Some.point.1 point room
    (put_mid-paste l.count (l.count + 12 - l.count) l.numbers c.copy_from_slice.new.self values 12 c.copy_from_slice.ensures.after (omega arith) (sym size))

pub returns : goal.returns
returns c =
    let a = c.args in
    let e = over-there a.text.now c.loop-at.at c.loop-at-test.false _ in (
      counted a.text.now a.start c.loop-at.invariant e,
      filled a.text.now a.start c.loop-at.invariant e,
    )
