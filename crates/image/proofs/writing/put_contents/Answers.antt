-- `image::writing::put_contents` meets its contract: four entries.
use native.Mathlib.Omega.{arith}
use Rattle.image.specs.Layout.{contents}
use Rattle.image.proofs.Puts.{put_then}
use Rattle.image.proofs.writing.put_contents.Goals as goal

pub returns : goal.returns
unfolding contents
returns c =
    put_then c.put_entry.ensures (omega arith)
    (put_then c.put_entry-2.ensures (omega arith)
    (put_then c.put_entry-3.ensures (omega arith)
    c.put_entry-4.ensures))
