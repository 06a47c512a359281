-- `reasons::explains::explain_with` meets its contract: the point is in range or not.
use mathlib.Core.Path.{◌≡◌, sym, ap, ◌∙◌}
use mathlib.Core.Bool.{true, false}
use Rattle.ticks.specs.declared.WholeSample.{WholeSample}
use Rattle.session.specs.declared.Point.{Point}
use Rattle.session.specs.declared.Session.{Session}
use Rattle.session.specs.Moves.{corrected_point, point_in_range}
use Rattle.session.specs.Ready.{PlacedPoint}
use Rattle.session.specs.Values.{six}
use Rattle.session.proofs.Rules.{waiting}
use Rattle.session.proofs.Kept.{corrected-point-placed}
use Rattle.reasons.specs.declared.Reason.{Reason}
use Rattle.reasons.specs.declared.Differences.{Differences}
use Rattle.reasons.specs.declared.Explanation.{Explanation}
use Rattle.reasons.specs.Reasons.{first, named, is_out, beside, point_reasons}
use Rattle.reasons.specs.Differences.{differences_with}
use Rattle.reasons.specs.Explanations.{explanation, explained_by, judged_point, explained_with}
use Rattle.reasons.proofs.Numbers.{given, out}
use Rattle.reasons.proofs.explains.explain_with.Goals as goal

module _ (s : Session) (w : WholeSample) {q : Point} (e : q ≡ corrected_point s w) {d : Differences} (f : d ≡ differences_with 0 s w) where
  -- a point that was worked out, and is in range
  placed-point : point_in_range q ≡ true → PlacedPoint q
  placed-point t = rw e (corrected-point-placed s w (sym (ap point_in_range e) ∙ t))

  outside : {r : Reason} → r ≡ first (is_out q) named six → point_in_range q ≡ false → explanation 6 0 r d ≡ explained_with s w
  unfolding explained_by beside differences_with
  outside h t =
      (λ i. explanation 6 0 ((h ∙ ap (λ p. first (is_out p) named six) e) i) (f i))
      ∙ ap (λ n. explained_by n (beside n (point_reasons s (corrected_point s w))) s w) (sym (out s (corrected_point s w) (sym (ap point_in_range e) ∙ t)))

  inside : {r : Explanation} → r ≡ judged_point s q d → r ≡ explained_with s w
  unfolding explained_by
  inside h =
      h
      ∙ ap (λ p. judged_point s p d) e
      ∙ ap (explanation _ _ _) (f ∙ sym (given s (corrected_point s w) w))

pub corrected_point-q-requires-clause-ready_session : goal.corrected_point-q-requires-clause-ready_session
corrected_point-q-requires-clause-ready_session c = (waiting c.args.s c.requires.s_value).ready

pub differences_of-differences-requires-clause-ready_session : goal.differences_of-differences-requires-clause-ready_session
differences_of-differences-requires-clause-ready_session c = (waiting c.args.s c.requires.s_value).ready

pub returns-then-not-point_in_range : goal.returns-then-not-point_in_range
returns-then-not-point_in_range c =
    let a = c.args in
    outside a.s a.w c.corrected_point-q.ensures c.differences_of-differences.ensures c.first_out.ensures (sym c.point_in_range.ensures ∙ c.if-not-point_in_range.true)

pub judge-requires-clause-waiting : goal.judge-requires-clause-waiting
judge-requires-clause-waiting c = waiting c.args.s c.requires.s_value

pub judge-requires-clause-placed_point : goal.judge-requires-clause-placed_point
judge-requires-clause-placed_point c =
    let a = c.args in
    placed-point a.s a.w c.corrected_point-q.ensures c.differences_of-differences.ensures (sym c.point_in_range.ensures ∙ c.if-not-point_in_range.false)

pub returns : goal.returns
returns c =
    let a = c.args in
    inside a.s a.w c.corrected_point-q.ensures c.differences_of-differences.ensures c.judge.ensures
