-- `image::writing::put_sums` meets its contract: three axes.
use native.Mathlib.Omega.{arith}
use Rattle.image.specs.Layout.{sums_words}
use Rattle.image.proofs.Lengths.{length-axis_sums}
use Rattle.image.proofs.Puts.{put_then}
use Rattle.image.proofs.writing.put_sums.Goals as goal

pub returns : goal.returns
unfolding sums_words
returns c =
    let s = c.args.s in
    put_then c.put_sums_of.ensures (omega (arith, length-axis_sums s.x))
    (put_then c.put_sums_of-2.ensures (omega (arith, length-axis_sums s.y))
    c.put_sums_of-3.ensures)
