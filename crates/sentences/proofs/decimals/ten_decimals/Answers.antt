-- `sentences::decimals::ten_decimals` meets its contract: the number is the nearest.
use native.Mathlib.Omega.{arith}
use Rattle.sentences.proofs.Sizes.{ten-nearest}
use Rattle.sentences.proofs.decimals.ten_decimals.Goals as goal

pub overflow_mul-result : goal.overflow_mul-result
overflow_mul-result c = omega (arith, c.requires)

pub overflow_add-result : goal.overflow_add-result
overflow_add-result c = omega (arith, c.requires)

pub returns : goal.returns
returns c = ten-nearest c.args.rest
