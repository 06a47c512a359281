-- `image::reading::session_in` meets its contract: field by field.
use mathlib.Core.Path.{◌∙◌, ap}
use Rattle.image.specs.Reading.{state_of, session_in}
use Rattle.image.proofs.reading.session_in.Goals as goal

pub returns : goal.returns
unfolding session_in
returns c =
    λ i. record {
      state = (c.state_of.ensures ∙ ap state_of c.word_at.ensures) i;
      points = c.word_at-2.ensures i;
      tolerances = c.tolerances_at.ensures i;
      limit = c.word_at-3.ensures i;
      accepted = c.word_at-4.ensures i;
      corrections = c.word_at-5.ensures i;
      x = c.axis_at.ensures i;
      y = c.axis_at-2.ensures i;
      z = c.axis_at-3.ensures i;
    }
