-- `image::writing::put_estimate` meets its contract: three axes.
use native.Mathlib.Omega.{arith}
use Rattle.image.specs.Layout.{estimate_words}
use Rattle.image.proofs.Lengths.{length-motion_words}
use Rattle.image.proofs.Puts.{put_then}
use Rattle.image.proofs.writing.put_estimate.Goals as goal

pub returns : goal.returns
unfolding estimate_words
returns c =
    let s = c.args.s in
    put_then c.put_motion.ensures (omega (arith, length-motion_words s.x.estimate))
    (put_then c.put_motion-2.ensures (omega (arith, length-motion_words s.y.estimate))
    c.put_motion-3.ensures)
