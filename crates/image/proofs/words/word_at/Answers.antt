-- `image::words::word_at` meets its contract: the eight bytes.
use Rattle.std.proofs.Common.{◌∙◌}
use Rattle.image.proofs.Eight.{eight}
use Rattle.image.proofs.words.word_at.Goals as goal

pub returns : goal.returns
returns c = c.from_le_bytes.ensures ∙ eight c.args.s.now c.args.at c.requires
