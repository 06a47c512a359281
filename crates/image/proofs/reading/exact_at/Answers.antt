-- `image::reading::exact_at` meets its contract: the whole, and the remainder, which fits.
use Prim.Native.Nat.{◌%◌}
use borrow.Author.Rules.{sfits_of}
use Rattle.image.specs.Reading.{exact_at}
use Rattle.image.proofs.Signs.{held}
use Rattle.image.proofs.reading.exact_at.Goals as goal

pub returns : goal.returns
unfolding exact_at
returns c =
    λ i. record {
      whole = held (sfits_of c.signed_at-whole.type_inv) c.signed_at-whole.ensures i;
      part = c.word_at.ensures i % 4294967296;
    }
