-- `message::lines::put_values` meets its contract.
use native.Mathlib.Omega.{arith}
use Rattle.text.proofs.Written.{nothing}
use Rattle.message.specs.Message.{texts, field}
use Rattle.message.proofs.Runs.{texts-room, next-text}
use Rattle.message.proofs.Values.{values-hold}
use Rattle.message.proofs.lines.put_values.Goals as goal

pub loop-k-init : goal.loop-k-init
unfolding texts
loop-k-init c = nothing c.args.w.now

pub put_value-requires : goal.put_value-requires
put_value-requires c =
    let a = c.args in
    let k = c.loop-k.k in
    let w = c.loop-k.invariant.wrote in
    record {
      i_in_bounds = (c.requires.i_in_bounds, c.loop-k-test.true);
      step_value = (c.requires.step_value.0, values-hold a.tick a.step a.points.now a.i k c.requires.step_value.1 c.loop-k-test.true);
      k_in_bounds = omega (arith, w.ends, w.long, c.requires.i_in_bounds_2, texts-room (field a.tick a.step a.points.now a.i) k 6 c.loop-k-test.true);
    }

pub loop-k-preserved : goal.loop-k-preserved
loop-k-preserved c =
    let a = c.args in
    next-text (field a.tick a.step a.points.now a.i) c.loop-k.k c.loop-k.invariant c.put_value.ensures
