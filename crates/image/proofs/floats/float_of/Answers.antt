-- `image::floats::float_of` meets its contract: a pattern above the infinity's is a NaN's, and every other is a number's.
use lib.Ieee.{div, of_bits}
use Rattle.image.proofs.Patterns.{no-nan-pattern, nan_pattern}
use Rattle.image.proofs.floats.float_of.Goals as goal

pub returns-then-bits-gt9218868437227405312 : goal.returns-then-bits-gt9218868437227405312
unfolding div of_bits
returns-then-bits-gt9218868437227405312 c = nan_pattern c.args.bits c.if-bits-gt9218868437227405312.true

pub float_from_bits-result : goal.float_from_bits-result
float_from_bits-result c = no-nan-pattern c.args.bits c.if-bits-gt9218868437227405312.false
