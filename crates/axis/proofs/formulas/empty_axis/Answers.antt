-- `axis::formulas::empty_axis` meets its contract: all is zero.
use mathlib.Core.Path.{refl, ◌∙◌}
use Rattle.exact.specs.Numerator.{exact_of}
use Rattle.axis.specs.Formulas.{empty_axis}
use Rattle.axis.proofs.formulas.empty_axis.Goals as goal

pub returns : goal.returns
unfolding empty_axis exact_of
returns c = c.axis_with.ensures ∙ rw c.no_motion-none.ensures refl
