-- `image::words::put_u64` meets its contract: the eight bytes.
use Rattle.image.proofs.Puts.{put-word}
use Rattle.image.proofs.words.put_u64.Goals as goal

pub returns : goal.returns
returns c = let a = c.args in put-word a.out.now a.at a.w c.to_le_bytes-bytes.ensures c.requires
