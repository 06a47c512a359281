-- `host::answering::put_point` meets its contract: three axes.
use native.Mathlib.Omega.{arith}
use Rattle.host.specs.Answers.{point_reported}
use Rattle.host.proofs.Lengths.{length-motion}
use Rattle.image.proofs.Puts.{put_then}
use Rattle.host.proofs.answering.put_point.Goals as goal

pub returns : goal.returns
unfolding point_reported
returns c =
    let q = c.args.q in
    put_then c.put_motion.ensures (omega (arith, length-motion q.x))
    (put_then c.put_motion-2.ensures (omega (arith, length-motion q.y))
    c.put_motion-3.ensures)
