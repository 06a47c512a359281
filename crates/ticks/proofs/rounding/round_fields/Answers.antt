-- `ticks::rounding::round_fields` meets its contract: one law of `Fields` for each range of the exponent's field.
use mathlib.Core.Path.{sym, ap, ◌∙◌}
use native.Mathlib.Omega.{arith}
use borrow.Author.Tests.{eq-eqb, ne_eqb}
use lib.Dec.{eqb}
use Rattle.ticks.specs.Round.{ticks_of}
use Rattle.ticks.proofs.Fields.{fields-special, fields-small, fields-large, fields-between}
use Rattle.ticks.proofs.rounding.round_fields.Goals as goal

pub returns-then-f-eq0 : goal.returns-then-f-eq0
returns-then-f-eq0 c = sym (fields-special _ _ _ c.if-e-eq2047.true ∙ simp (eq-eqb _ _ c.if-f-eq0.true))

pub returns-then-e-eq2047 : goal.returns-then-e-eq2047
returns-then-e-eq2047 c = sym (fields-special _ _ _ c.if-e-eq2047.true ∙ simp (ne_eqb _ _ c.if-f-eq0.false))

pub returns-then-e-lt1022 : goal.returns-then-e-lt1022
returns-then-e-lt1022 c = sym (fields-small _ _ _ c.if-e-lt1022.true c.requires.1)

pub returns-then-e-ge1052 : goal.returns-then-e-ge1052
returns-then-e-ge1052 c = sym (fields-large _ _ _ (omega arith) c.if-e-ge1052.true)

pub returns : goal.returns
returns c =
    let a = c.args in
    c.with_sign.ensures ∙ ap (ticks_of (eqb a.s 1)) c.round_shift.ensures ∙ sym (fields-between _ _ _ (omega arith) (omega arith))
