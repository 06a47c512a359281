-- The figures of `specs/Figures.antt`, shown by computing.
use mathlib.Core.Path.{refl}
use mathlib.Core.List.{flatten}
use Rattle.integers.specs.Differences.{ordinates, spread}
use Rattle.integers.specs.Lines.{All}
use Rattle.coefficients.specs.Fraction.{times}
use Rattle.coefficients.specs.Rules as R
use Rattle.coefficients.specs.Scaled.{run, whole_run}
use Rattle.coefficients.specs.Formulas.{position_predictor, position_corrector, velocity_predictor, velocity_corrector}
use Rattle.text.specs.Numbers.{ascii, digits, decimal, signed, numbers}
use Rattle.table_text.specs.Text.{weights_text, line, heading, table, points_in, answer_for, answer_to}
use Rattle.table_text.specs.Figures.{figures}

pub figures-hold : All figures
unfolding ascii digits decimal signed numbers flatten weights_text line heading table points_in answer_for answer_to run whole_run times ordinates spread position_predictor position_corrector velocity_predictor velocity_corrector R.s R.l R.g R.total R.c R.terms R.next R.divided
figures-hold = (refl, (refl, (refl, (refl, (refl, (refl, (refl, (refl, (refl, tt)))))))))
