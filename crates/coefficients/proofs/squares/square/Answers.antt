-- `coefficients::squares::square` meets its contract: each square, whole, is the one that the rules give, which antt computes (`refl`).
use mathlib.Core.Path.{refl}
use Rattle.integers.specs.Differences.{ordinates, spread}
use Rattle.coefficients.specs.declared.Formula.TheVariants.{PositionPredictor, PositionCorrector, VelocityPredictor, VelocityCorrector}
use Rattle.coefficients.proofs.Written.{written}
use Rattle.coefficients.proofs.Rows.{checked}
use Rattle.coefficients.proofs.squares.square.Goals as goal

pub returns-in-PositionPredictor : goal.returns-in-PositionPredictor
unfolding written ordinates spread
returns-in-PositionPredictor c = checked PositionPredictor refl c.in-PositionPredictor.is

pub returns-in-PositionCorrector : goal.returns-in-PositionCorrector
unfolding written ordinates spread
returns-in-PositionCorrector c = checked PositionCorrector refl c.in-PositionCorrector.is

pub returns-in-VelocityPredictor : goal.returns-in-VelocityPredictor
unfolding written ordinates spread
returns-in-VelocityPredictor c = checked VelocityPredictor refl c.in-VelocityPredictor.is

pub returns-in-VelocityCorrector : goal.returns-in-VelocityCorrector
unfolding written ordinates spread
returns-in-VelocityCorrector c = checked VelocityCorrector refl c.in-VelocityCorrector.is
