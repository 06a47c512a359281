-- `image::writing::put_sums_of` meets its contract: two sums and the held sum.
use native.Mathlib.Omega.{arith}
use Rattle.image.specs.Layout.{axis_sums}
use Rattle.image.proofs.Lengths.{length-exact_words}
use Rattle.image.proofs.Puts.{put_then}
use Rattle.image.proofs.writing.put_sums_of.Goals as goal

pub returns : goal.returns
unfolding axis_sums
returns c =
    let a = c.args.a in
    put_then c.put_exact.ensures (omega (arith, length-exact_words a.first))
    (put_then c.put_exact-2.ensures (omega (arith, length-exact_words a.second))
    c.put_motion.ensures)
