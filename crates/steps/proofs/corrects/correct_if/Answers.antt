-- `steps::corrects::correct_if` meets its contract: refused, or the point is accepted or does not agree.
use mathlib.Core.Path.{refl, sym, ap, ◌∙◌}
use Rattle.ticks.specs.Samples.{whole_of}
use Rattle.session.specs.Moves.{corrected_point}
use Rattle.steps.specs.Refusals.{is_last, early_refusal}
use Rattle.steps.specs.Unagreed.{unagreed}
use Rattle.steps.proofs.Corrected.{early, early-refuses, accepted, not-agreed}
use Rattle.steps.proofs.Results.{refused-number}
use Rattle.steps.specs.declared.Correction.TheVariants as C
use Rattle.steps.proofs.corrects.correct_if.Goals as goal

pub returns-in-Err : goal.returns-in-Err
returns-in-Err c =
    let (e, f) = refused-number (whole_of c.args.a, corrected_point c.args.s (whole_of c.args.a)) (early_refusal c.args.s c.args.a) c.in-Err.ensures in
    ap (λ n. record { session = c.args.s; answer = C.Refused n }) c.number.ensures ∙ early-refuses c.args.s c.args.a _ f e

pub report_point-point-requires : goal.report_point-point-requires
report_point-point-requires c = (early c.args.s c.args.a c.in-Ok.ensures).range

pub is_agreed-requires : goal.is_agreed-requires
is_agreed-requires c = let k = early c.args.s c.args.a c.in-Ok.ensures in record { waiting = k.waits; placed_point = k.placed }

pub accept-requires : goal.accept-requires
accept-requires c = let k = early c.args.s c.args.a c.in-Ok.ensures in record { waiting = k.waits; within_limit = k.within }

pub returns-then-is_agreed : goal.returns-then-is_agreed
returns-then-is_agreed c =
    let k = early c.args.s c.args.a c.in-Ok.ensures in
    (λ i. record { session = c.accept.ensures i; answer = C.Accepted (c.report_point-point.ensures i) })
    ∙ accepted c.args.s c.args.a k (sym c.is_agreed.ensures ∙ c.if-is_agreed.true)

pub correct_again-requires : goal.correct_again-requires
correct_again-requires c = let k = early c.args.s c.args.a c.in-Ok.ensures in record { waiting = k.waits; placed_point = k.placed }

pub returns : goal.returns
returns c =
    let s = c.args.s in
    let k = early s c.args.a c.in-Ok.ensures in
    c.correct_again.ensures
    ∙ ap (λ x. unagreed (is_last s) s c.in-Ok.both.1 x) c.report_point-point.ensures
    ∙ not-agreed s c.args.a k (sym c.is_agreed.ensures ∙ c.if-is_agreed.false) (is_last s) refl
