-- `received::heads::pass_one` meets its contract.
use mathlib.Core.Path.{sym, ◌∙◌, ap}
use Rattle.std.specs.Prelude.{Ok}
use Prim.Native.Nat.{◌+◌}
use Rattle.integers.specs.Tests.{failed, passed}
use Rattle.received.specs.Slots.{is_of, form_of}
use Rattle.received.specs.Reading.{slot_at}
use Rattle.received.proofs.Cuts.{between}
use Rattle.received.proofs.Walks.{none-there, not-of, is-of}
use Rattle.std.proofs.lemmas.Bool.{not_from_false, not_from_true}
use Rattle.received.proofs.heads.pass_one.Goals as goal

pub returns-then-text-from-clause-ends : goal.returns-then-text-from-clause-ends
returns-then-text-from-clause-ends c =
    let a = c.args in
    none-there (form_of (slot_at a.edition a.k)) a.text.now a.from.at a.from.line c.if-text-from.true

pub returns-then-not-passes-clause-ends : goal.returns-then-not-passes-clause-ends
returns-then-not-passes-clause-ends c =
    let a = c.args in
    let f = form_of (slot_at a.edition a.k) in
    not-of f a.text.now a.from.at a.from.line c.if-text-from.false
    (ap (λ end. is_of f (between a.text.now a.from.at end)) (sym c.past_line-end.ensures.value) ∙ failed c.passes.ensures (not_from_false _ c.if-not-passes.true))

pub returns-clause-ends : goal.returns-clause-ends
returns-clause-ends c =
    let a = c.args in
    let f = form_of (slot_at a.edition a.k) in
    let e = c.past_line-end.ensures.value in
    (λ i. Ok (record { at = e i; line = a.from.line + 1 }))
    ∙ is-of f a.text.now a.from.at a.from.line c.if-text-from.false
    (ap (λ end. is_of f (between a.text.now a.from.at end)) (sym e) ∙ passed c.passes.ensures (not_from_true _ c.if-not-passes.false))
