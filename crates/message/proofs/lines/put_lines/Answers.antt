-- `message::lines::put_lines` meets its contract. The loop's invariant: the first i lines were written.
use mathlib.Core.Path.{◌≡◌, ◌∙◌, ap}
use Prim.Native.Nat.{◌+◌, ◌/◌}
use native.Mathlib.Omega.{arith}
use borrow.Author.Rules.{rules}
use lib.ListN.{length}
use Rattle.text.proofs.Written.{nothing}
use Rattle.text.proofs.Pieces.{has_room}
use Rattle.message.specs.Request.{count_of}
use Rattle.message.specs.Message.{texts, line_from}
use Rattle.message.specs.Refusals.{point_holds}
use Rattle.message.proofs.Runs.{all-at, texts-room, next-text}
use Rattle.message.proofs.Formed.{settings}
use Rattle.message.proofs.Seconds.{in-time, next-seconds, from-seconds}
use Rattle.message.proofs.lines.put_lines.Goals as goal

pub loop-i-init : goal.loop-i-init
unfolding texts
loop-i-init c = record { time = omega arith; lines = nothing c.args.w.now }

pub put_line-requires : goal.put_line-requires
unfolding count_of
put_line-requires c =
    let a = c.args in
    let p = a.points.now in
    let i = c.loop-i.i in
    let w = c.loop-i.invariant.lines.wrote in
    let e = c.loop-i.invariant.time in
    let t = in-time a.first (length p / 12) a.step i c.requires.step_bound c.loop-i-test.true in
    let g = ap length (from-seconds a.tick a.step p a.first i e) in
    let l = texts-room (line_from a.tick a.step p a.first) i (length p / 12) c.loop-i-test.true in record { seconds_le_most_seconds = (omega (arith, e, t), omega (arith, c.loop-i-test.true)); step_value = (c.requires.step_value.0, all-at (point_holds a.tick a.step p) (length p / 12) i c.requires.step_value.1 c.loop-i-test.true); room = has_room (omega (arith, w.ends, w.long, g, l, c.requires.points_in_bounds)) }

pub overflow_add-seconds : goal.overflow_add-seconds
unfolding count_of
overflow_add-seconds c =
    let a = c.args in
    let t = in-time a.first (length a.points.now / 12) a.step c.loop-i.i c.requires.step_bound c.loop-i-test.true in
    let s = settings c.requires.step_value.0 in
    omega (arith, c.loop-i.invariant.time, t, s.2)

pub loop-i-preserved : goal.loop-i-preserved
loop-i-preserved c =
    let a = c.args in
    let p = a.points.now in
    let i = c.loop-i.i in
    let e = c.loop-i.invariant.time in
    let w = rw (from-seconds a.tick a.step p a.first i e) at c.put_line.ensures in
    record {
      time = ap (λ n. n + a.step) e ∙ next-seconds a.first i a.step;
      lines = next-text (line_from a.tick a.step p a.first) i c.loop-i.invariant.lines w;
    }

pub returns : goal.returns
unfolding count_of
returns c =
    let all : c.loop-i.i ≡ length c.args.points.now / 12 = search rules in
    rw all at c.loop-i.invariant.lines
