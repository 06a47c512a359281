-- `axis::formulas::no_motion` meets its contract: zero is 0 ticks and no remainder.
use mathlib.Core.Path.{refl}
use Rattle.exact.specs.Numerator.{exact_of}
use Rattle.axis.specs.Formulas.{still, motion_of}
use Rattle.axis.proofs.formulas.no_motion.Goals as goal

pub returns : goal.returns
unfolding still motion_of exact_of
returns c = refl
