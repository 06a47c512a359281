-- `host::answering::put_motion` meets its contract: position and velocity.
use Rattle.host.proofs.Lengths.{length-reported}
use native.Mathlib.Omega.{arith}
use Rattle.host.specs.Answers.{motion_reported}
use Rattle.image.proofs.Puts.{put_then}
use Rattle.host.proofs.answering.put_motion.Goals as goal

pub returns : goal.returns
unfolding motion_reported
returns c =
    let m = c.args.m in
    put_then c.put_reported.ensures (omega (arith, length-reported m.position)) c.put_reported-2.ensures
