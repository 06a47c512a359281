-- `image::writing::put_entry` meets its contract: three words.
use native.Mathlib.Omega.{arith}
use Rattle.image.proofs.Puts.{put_then}
use Rattle.image.proofs.writing.put_entry.Goals as goal

pub returns : goal.returns
returns c =
    put_then c.put_u64.ensures (omega arith) (put_then c.put_u64-2.ensures (omega arith) c.put_u64-3.ensures)
