-- `received::data::read_field` meets its contract.
use mathlib.Core.Path.{sym, ◌∙◌, ap}
use Prim.Native.Nat.{◌+◌}
use borrow.Author.Rules.{rules}
use mir.Syntax.{w64}
use mir.Val.{SFits}
use mir.Facts.{to_z-of_z}
use Rattle.std.specs.Prelude.{Some}
use Rattle.decimal.specs.Text.{position_fits, velocity_fits}
use Rattle.decimal.specs.Reading.{fixed_at}
use Rattle.received.specs.Data.{decimals_of}
use Rattle.received.proofs.Fields.{few-as, no-space, past-line, not-number, long-number, short-number}
use Rattle.received.proofs.data.read_field.Goals as goal
use Rattle.received.proofs.data.read_field.Goals.{then-line-at-via-then-line-at, then-line-at-via-else-line-at+then-line-at-ne32}

pub returns-then-line-at : goal.returns-then-line-at
returns-then-line-at c =
    let a = c.args in
    elim c.then-line-at.branch [
      | then-line-at-via-then-line-at w ↦ past-line (decimals_of a.k) a.line.now a.at w.if-line-at.true
      | then-line-at-via-else-line-at+then-line-at-ne32 w ↦ no-space (decimals_of a.k) a.line.now a.at w.if-line-at-ne32.true
    ]

pub returns-in_err-value : goal.returns-in_err-value
returns-in_err-value c =
    let a = c.args in
    c.from_residual.ensures
    ∙ not-number (decimals_of a.k) a.line.now a.at c.requires c.if-line-at-ne32.false
    (sym c.in_err-value.was ∙ c.read_fixed.ensures ∙ ap (λ d. fixed_at d a.line.now (a.at + 1)) c.decimals_of.ensures)

pub returns-then-has_few_digits : goal.returns-then-has_few_digits
returns-then-has_few_digits c =
    let a = c.args in
    let f : SFits w64 c.in_ok-value.value = search rules in
    let e = to_z-of_z {w = w64} f in
    let h = c.has_few_digits.ensures in
    (λ i. Some (e i, c.in_ok-value.end))
    ∙ short-number (decimals_of a.k) a.line.now a.at c.requires c.if-line-at-ne32.false
    (sym c.in_ok-value.was ∙ c.read_fixed.ensures ∙ ap (λ d. fixed_at d a.line.now (a.at + 1)) c.decimals_of.ensures)
    (sym (few-as a.k c.in_ok-value.value (h.0 ∙ ap position_fits e) (h.1 ∙ ap velocity_fits e)) ∙ c.if-has_few_digits.true)

pub returns-else-has_few_digits : goal.returns-else-has_few_digits
returns-else-has_few_digits c =
    let a = c.args in
    let f : SFits w64 c.in_ok-value.value = search rules in
    let e = to_z-of_z {w = w64} f in
    let h = c.has_few_digits.ensures in
    long-number (decimals_of a.k) a.line.now a.at c.requires c.if-line-at-ne32.false
    (sym c.in_ok-value.was ∙ c.read_fixed.ensures ∙ ap (λ d. fixed_at d a.line.now (a.at + 1)) c.decimals_of.ensures)
    (sym (few-as a.k c.in_ok-value.value (h.0 ∙ ap position_fits e) (h.1 ∙ ap velocity_fits e)) ∙ c.if-has_few_digits.false)
