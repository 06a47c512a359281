-- `image::writing::put_motion` meets its contract: position and velocity.
use native.Mathlib.Omega.{arith}
use Rattle.image.specs.Layout.{motion_words}
use Rattle.image.proofs.Lengths.{length-exact_words}
use Rattle.image.proofs.Puts.{put_then}
use Rattle.image.proofs.writing.put_motion.Goals as goal

pub returns : goal.returns
unfolding motion_words
returns c =
    let m = c.args.m in
    put_then c.put_exact.ensures (omega (arith, length-exact_words m.position)) c.put_exact-2.ensures
