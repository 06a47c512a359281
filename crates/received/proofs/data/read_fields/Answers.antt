-- `received::data::read_fields` meets its contract. The loop's invariant: k fields were read.
use mathlib.Core.Path.{refl, sym, ◌∙◌}
use borrow.Author.Rules.{rules}
use mir.Syntax.{w64}
use mir.Val.{SFits}
use mir.Facts.{to_z-of_z}
use Rattle.std.specs.Prelude.{Some}
use Rattle.received.proofs.Fields.{begun, one_more, none_more}
use Rattle.received.proofs.data.read_fields.Goals as goal

pub loop-k-init : goal.loop-k-init
loop-k-init c = begun _ _ refl

pub returns-in_err-value : goal.returns-in_err-value
returns-in_err-value c =
    rw c.from_residual.ensures (none_more c.args.line.now c.loop-k.invariant c.loop-k-test.true (sym c.in_err-value.was ∙ c.read_field.ensures))

pub loop-k-preserved : goal.loop-k-preserved
loop-k-preserved c =
    let f : SFits w64 c.in_ok-value.value = search rules in
    let e = to_z-of_z {w = w64} f in
    one_more c.args.line.now c.loop-k.invariant c.loop-k-test.true ((λ i. Some (e i, c.in_ok-value.next)) ∙ sym c.in_ok-value.was ∙ c.read_field.ensures)
