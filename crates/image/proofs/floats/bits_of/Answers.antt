-- `image::floats::bits_of` meets its contract: a NaN has one pattern that is written.
use mathlib.Core.Path.{sym, ap, ◌∙◌}
use lib.Ieee.{binary64, to_bits}
use Rattle.image.proofs.Patterns.{is-nan}
use Rattle.image.proofs.floats.bits_of.Goals as goal

pub returns-then-is_nan : goal.returns-then-is_nan
unfolding to_bits
returns-then-is_nan c = ap (to_bits binary64) (is-nan c.args.x (sym c.is_nan.ensures.value ∙ c.if-is_nan.true))
