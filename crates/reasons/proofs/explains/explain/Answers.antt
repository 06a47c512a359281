-- `reasons::explains::explain` meets its contract: the rules in order.
use mathlib.Core.Path.{◌≡◌, sym, ap, ◌∙◌}
use Prim.Native.Nat.{ℕ}
use Rattle.std.specs.Prelude.{Some}
use Rattle.rules.specs.Rules.{first_of}
use Rattle.rules.proofs.Tests.{hit-not, past-not, given}
use Rattle.ticks.specs.declared.Fault.{Fault}
use Rattle.ticks.specs.declared.Sample.{Sample}
use Rattle.ticks.specs.Samples.{axes_of, whole_of}
use Rattle.ticks.proofs.Faults.{whole-within, sample-fault, sample-ticks}
use Rattle.session.specs.declared.Session.{Session}
use Rattle.session.specs.Moves.{corrected_point}
use Rattle.steps.specs.Refusals.{fault_number, point_rules}
use Rattle.steps.proofs.Samples.{samples-refuse, samples-pass}
use Rattle.reasons.specs.declared.Reason.{Reason}
use Rattle.reasons.specs.declared.Explanation.{Explanation}
use Rattle.reasons.specs.Reasons.{first, named, has_fault, beside}
use Rattle.reasons.specs.Differences.{no_differences}
use Rattle.reasons.specs.Explanations.{explanation, explained_by, reasons_of, explained_with}
use Rattle.reasons.proofs.Numbers.{explains-as, unfitting, at-fault, point-reasons}
use Rattle.reasons.proofs.explains.explain.Goals as goal

pub returns-then-not-is_awaiting : goal.returns-then-not-is_awaiting
returns-then-not-is_awaiting c =
    let a = c.args in
    c.refused.ensures
    ∙ ap (λ r. explanation 7 0 r no_differences) c.place.ensures
    ∙ sym (unfitting a.s a.a)
    ∙ explains-as a.s a.a (hit-not (sym c.is_awaiting.ensures ∙ c.if-not-is_awaiting.true))

-- a fault's number, and the first axis that has it
faulty : (s : Session) (a : Sample) (f : Fault) {n : ℕ} {r : Reason} {u : Explanation} → n ≡ fault_number (Some f) → r ≡ first (has_fault f) named (axes_of a) →
    u ≡ explanation n 0 r no_differences → u ≡ explained_by (fault_number (Some f)) (beside (fault_number (Some f)) (reasons_of s a)) s (whole_of a)
faulty s a f g h e = e ∙ (λ i. explanation (g i) 0 (h i) no_differences) ∙ at-fault s a f

pub returns-in-Err : goal.returns-in-Err
returns-in-Err c =
    let f = c.in-Err.sample.fault in
    let a = c.args in
    let points = point_rules a.s (corrected_point a.s (whole_of a.a)) in
    faulty a.s a.a f c.fault_number.ensures c.first_axis.ensures c.refused-in-Err.ensures
    ∙ explains-as a.s a.a (past-not (sym c.is_awaiting.ensures ∙ c.if-not-is_awaiting.false) (samples-refuse (axes_of a.a) f (sym (sample-fault a.a c.in-Err.sample c.in-Err.ensures).0) points))

pub explain_with-requires-clause-within_limit : goal.explain_with-requires-clause-within_limit
explain_with-requires-clause-within_limit c = rw (sample-ticks c.args.a c.in-Ok.w c.in-Ok.ensures).1 (whole-within c.args.a)

pub returns-in-Ok : goal.returns-in-Ok
returns-in-Ok c =
    let a = c.args in
    let (sound, ticks) = sample-ticks a.a c.in-Ok.w c.in-Ok.ensures in
    let points = point_rules a.s (corrected_point a.s (whole_of a.a)) in
    c.explain_with.ensures
    ∙ ap (explained_with a.s) ticks
    ∙ ap (λ u. explained_by (first_of points) u a.s (whole_of a.a)) (point-reasons a.s a.a)
    ∙ explains-as a.s a.a (past-not (sym c.is_awaiting.ensures ∙ c.if-not-is_awaiting.false) (samples-pass (axes_of a.a) (sym sound) points (given points)))
