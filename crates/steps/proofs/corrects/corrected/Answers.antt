-- `steps::corrects::corrected` meets its contract: the refusals in order.
use mathlib.Core.Path.{◌≡◌, sym, ap, ◌∙◌}
use mathlib.Core.Bool.{not}
use mathlib.Core.List.{[], ◌∷◌, ◌++◌}
use Prim.Native.Nat.{ℕ}
use native.Mathlib.Omega.{arith}
use Rattle.std.specs.Prelude.{refl}
use Rattle.std.proofs.lemmas.Result.{err_from_is_err_and}
use Rattle.rules.specs.Rules.{first_of, Gives}
use Rattle.rules.proofs.Tests.{hit-not, past-not, none-given, first-before, first-after}
use Rattle.ticks.specs.declared.Sample.{Sample}
use Rattle.ticks.specs.Samples.{axes_of, whole_of}
use Rattle.ticks.proofs.Faults.{whole-within}
use Rattle.session.specs.declared.Session.{Session}
use Rattle.session.specs.Moves.{corrected_point, point_in_range}
use Rattle.session.proofs.Rules.{waiting}
use Rattle.steps.specs.Refusals.{sample_rules, early_refusal}
use Rattle.steps.proofs.Results.{refuses, passes, passed-value, refused-number}
use Rattle.steps.proofs.corrects.corrected.Goals as goal

abbrev samples_refusal : Sample → ℕ
samples_refusal a = first_of (sample_rules (axes_of a))

pub returns-then-not-ready : goal.returns-then-not-ready
unfolding early_refusal
returns-then-not-ready c = refuses _ c.into.ensures (λ h. omega arith) (hit-not (sym c.requires ∙ c.if-not-ready.true))

pub returns-in_err-w : goal.returns-in_err-w
unfolding early_refusal
returns-in_err-w c =
    let (e, f) = refused-number (whole_of c.args.a) (samples_refusal c.args.a) c.in_err-w.ensures in
    let p = err_from_is_err_and c.from_residual.result c.from_residual.ensures.1 in
    p.1 ∙ refuses _ p.2 f (past-not (sym c.requires ∙ c.if-not-ready.false) (first-before (sample_rules (axes_of c.args.a)) _ _ f e))

-- past the faults of the sample
past-samples : (s : Session) (a : Sample) {n : ℕ} (out : ◌≡◌ (samples_refusal a) 0) → Gives ((not (point_in_range (corrected_point s (whole_of a))), 6) ∷ []) n →
    Gives (sample_rules (axes_of a) ++ (not (point_in_range (corrected_point s (whole_of a))), 6) ∷ []) n
past-samples s a out g = first-after (sample_rules (axes_of a)) _ refl out g

pub corrected_point-q-requires-clause-ready_session : goal.corrected_point-q-requires-clause-ready_session
corrected_point-q-requires-clause-ready_session c = (waiting c.args.s (sym c.requires ∙ c.if-not-ready.false)).ready

pub corrected_point-q-requires-clause-within_limit : goal.corrected_point-q-requires-clause-within_limit
corrected_point-q-requires-clause-within_limit c =
    let (_, w) = passed-value (whole_of c.args.a) (samples_refusal c.args.a) c.in_ok-w.ensures in
    rw w (whole-within c.args.a)

pub returns-then-not-point_in_range : goal.returns-then-not-point_in_range
unfolding early_refusal
returns-then-not-point_in_range c =
    let (z, w) = passed-value (whole_of c.args.a) (samples_refusal c.args.a) c.in_ok-w.ensures in
    let out = ap point_in_range (sym (c.corrected_point-q.ensures ∙ ap (corrected_point c.args.s) w)) ∙ sym c.point_in_range.ensures ∙ c.if-not-point_in_range.true in
    refuses _ c.into-then-not-point_in_range.ensures (λ h. omega arith) (past-not (sym c.requires ∙ c.if-not-ready.false) (past-samples c.args.s c.args.a z (hit-not out)))

pub returns : goal.returns
unfolding early_refusal
returns c =
    let (z, w) = passed-value (whole_of c.args.a) (samples_refusal c.args.a) c.in_ok-w.ensures in
    let q = c.corrected_point-q.ensures ∙ ap (corrected_point c.args.s) w in
    let fits = ap point_in_range (sym q) ∙ sym c.point_in_range.ensures ∙ c.if-not-point_in_range.false in
    passes _ (λ i. (w i, q i)) (past-not (sym c.requires ∙ c.if-not-ready.false) (past-samples c.args.s c.args.a z (past-not fits none-given)))
