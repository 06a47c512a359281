-- `text::writing::Writer::put_hex` meets its contract.
use Rattle.text.specs.Numbers.{hex}
use Rattle.text.proofs.writing.Writer.put_hex.Goals as goal

pub put_hex_digits-requires : goal.put_hex_digits-requires
unfolding hex
put_hex_digits-requires c = c.requires

pub returns : goal.returns
unfolding hex
returns c = c.put_hex_digits.ensures
