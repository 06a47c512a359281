-- `message::measures::value_length` meets its contract: a space, and the value's text.
use mathlib.Core.Path.{◌∙◌, ap}
use native.Mathlib.Omega.{arith}
use Rattle.integers.specs.Tests.{failed, passed}
use Rattle.message.specs.Request.{place}
use Rattle.message.specs.Message.{value_text}
use Rattle.message.specs.Refusals.{holds_as}
use Rattle.message.specs.Measures.{length_if}
use Rattle.message.proofs.Values.{part_small}
use Rattle.message.proofs.Lengths.{value_none, value-zero, value-more}
use Rattle.std.proofs.lemmas.Bool.{not_from_false, not_from_true}
use Rattle.message.proofs.measures.value_length.Goals as goal

pub returns-then-not-is_exact_at : goal.returns-then-not-is_exact_at
returns-then-not-is_exact_at c =
    let a = c.args in
    (value_none a.tick a.step a.points.now a.i a.k (failed c.is_exact_at.ensures (not_from_false _ c.if-not-is_exact_at.true)), omega arith)

pub value_at-e-requires : goal.value_at-e-requires
value_at-e-requires c = record { at_in_bounds = omega (arith, c.requires.i_in_bounds.0, c.requires.i_in_bounds.1); at_value = passed c.is_exact_at.ensures (not_from_true _ c.if-not-is_exact_at.false) }

pub length_as-length-requires : goal.length_as-length-requires
length_as-length-requires c =
    let a = c.args in
    (c.requires.step_value, rw c.value_at-e.ensures (part_small a.points.now (place a.i a.k) (passed c.is_exact_at.ensures (not_from_true _ c.if-not-is_exact_at.false))))

pub returns-then-length-eq0 : goal.returns-then-length-eq0
returns-then-length-eq0 c =
    let a = c.args in
    let m = c.length_as-length.ensures.0 ∙ ap (λ e. length_if (holds_as a.tick a.step a.k e) (value_text a.tick a.step a.k e)) c.value_at-e.ensures in
    (value-zero a.tick a.step a.points.now a.i a.k (passed c.is_exact_at.ensures (not_from_true _ c.if-not-is_exact_at.false)) m c.if-length-eq0.true, omega arith)

pub returns-else-length-eq0 : goal.returns-else-length-eq0
returns-else-length-eq0 c =
    let a = c.args in
    let m = c.length_as-length.ensures.0 ∙ ap (λ e. length_if (holds_as a.tick a.step a.k e) (value_text a.tick a.step a.k e)) c.value_at-e.ensures in (
      value-more a.tick a.step a.points.now a.i a.k (passed c.is_exact_at.ensures (not_from_true _ c.if-not-is_exact_at.false)) m c.if-length-eq0.false,
      omega (arith, c.length_as-length.ensures.1),
    )
