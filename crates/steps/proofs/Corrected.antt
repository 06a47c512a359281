-- What a correction comes to by its rules: refused before its point is compared, accepted, or not agreed.
use mathlib.Core.Path.{◌≡◌, refl, sym, ap, ◌∙◌}
use mathlib.Core.Bool.{Bool, true, false, not}
use mathlib.Core.List.{List, [], ◌∷◌}
use Prim.Native.Nat.{ℕ}
use native.Mathlib.Omega.{arith}
use borrow.Author.Tests.{not-false}
use Rattle.std.specs.Prelude.{Ok}
use Rattle.integers.specs.Tests.{◌and◌}
use Rattle.rules.specs.Rules.{NotZero, first_of, Gives}
use Rattle.rules.proofs.Tests.{first-before, first-after, clear, past, hit, none-given}
use Rattle.ticks.specs.declared.Sample.{Sample}
use Rattle.ticks.specs.declared.WholeSample.{WholeSample}
use Rattle.ticks.specs.Samples.{whole_of, WithinLimit}
use Rattle.ticks.proofs.Faults.{whole-within}
use Rattle.session.specs.declared.Point.{Point}
use Rattle.session.specs.declared.Session.{Session}
use Rattle.session.specs.Holding.{awaiting}
use Rattle.session.specs.Moves.{corrected_point, point_in_range, accepted_at}
use Rattle.session.specs.Ready.{Waiting, PlacedPoint}
use Rattle.session.proofs.Kept.{corrected-point-placed}
use Rattle.session.proofs.Rules.{waiting}
use Rattle.steps.specs.declared.Correction.TheVariants as C
use Rattle.steps.specs.Answers.{unrefused, reported_point}
use Rattle.steps.specs.Refusals.{agrees, is_last, early_rules, early_refusal}
use Rattle.steps.specs.Steps.{judged, correct_by, correct_of}
use Rattle.steps.specs.Unagreed.{unagreed}
use Rattle.steps.proofs.Results.{passed-value, correct-gives, correct-refuses}

-- none of the numbers ends a wait
not-8 : (t u v w x : Bool) → first_of ((t, 7) ∷ (u, 4) ∷ (v, 13) ∷ (w, 5) ∷ (x, 6) ∷ []) ≡ 8 → ⊥
unfolding first_of
not-8 true u v w x e = omega arith
not-8 false true v w x e = omega arith
not-8 false false true w x e = omega arith
not-8 false false false true x e = omega arith
not-8 false false false false true e = omega arith
not-8 false false false false false e = omega arith

module _ (s : Session) (a : Sample) where
  abbrev corrects_to : Point
  corrects_to = corrected_point s (whole_of a)

  -- the last rule is looked at where none before it applies
  abbrev last_rules : List (Bool × ℕ)
  last_rules = (not (agrees s corrects_to) and is_last s, 8) ∷ []

  pub early-refuses : (n : ℕ) → NotZero n → early_refusal s a ≡ n → record { session = s; answer = C.Refused n } ≡ correct_of s a
  unfolding early_refusal
  early-refuses n f e =
      sym (correct-refuses s a n f (λ h. not-8 _ _ _ _ _ (e ∙ h))) ∙ correct-gives s a (first-before (early_rules s a) last_rules n f e)

  -- none before it applies: what is known of the ticks and of the point
  pub record Early (w : WholeSample) (q : Point) : Type 0 where
    pub ticks : w ≡ whole_of a
    pub point : q ≡ corrects_to
    pub waits : Waiting s
    pub within : WithinLimit w
    pub range : point_in_range q ≡ true
    pub placed : PlacedPoint q
    pub gives : {n : ℕ} → Gives last_rules n → correct_by n s w ≡ correct_of s a

  pub early : {b : WholeSample × Point} → Ok b ≡ unrefused (early_refusal s a) (whole_of a, corrects_to) → Early b.0 b.1
  unfolding early_refusal
  early h =
      let (z, e) = passed-value (whole_of a, corrects_to) (early_refusal s a) h in
      let w = ap (λ (b : WholeSample × Point). b.0) e in
      let q = ap (λ (b : WholeSample × Point). b.1) e in
      let r = not-false (point_in_range corrects_to) (clear 6 (early_rules s a) refl z).0 in
      record {
        ticks = w;
        point = q;
        waits = waiting s (not-false (awaiting s) (clear 7 (early_rules s a) refl z).0);
        within = rw w (whole-within a);
        range = rw q r;
        placed = rw q (corrected-point-placed s (whole_of a) r);
        gives = λ {n} g. ap (λ x. correct_by n s x) w ∙ correct-gives s a (first-after (early_rules s a) last_rules refl z g);
      }

  module _ {w : WholeSample} {q : Point} (k : Early w q) where
    pub accepted : agrees s q ≡ true → record { session = accepted_at s w; answer = C.Accepted (reported_point q) } ≡ correct_of s a
    accepted g =
        let e : agrees s corrects_to ≡ true = ap (agrees s) (sym k.point) ∙ g in
        let now : agrees s (corrected_point s w) ≡ true = rw k.ticks e in
        (λ i. record { session = accepted_at s w; answer = C.Accepted (reported_point ((k.point ∙ ap (corrected_point s) (sym k.ticks)) i)) })
        ∙ sym (ap (λ t. judged t s w (corrected_point s w)) now)
        ∙ k.gives (past (rw e refl) none-given)

    pub not-agreed : agrees s q ≡ false → (t : Bool) → is_last s ≡ t → unagreed t s q (reported_point q) ≡ correct_of s a
    not-agreed g true l =
        let e : agrees s corrects_to ≡ false = ap (agrees s) (sym k.point) ∙ g in
        k.gives (hit (rw (e, l) refl))
    not-agreed g false l =
        let e : agrees s corrects_to ≡ false = ap (agrees s) (sym k.point) ∙ g in
        let now : agrees s (corrected_point s w) ≡ false = rw k.ticks e in
        ap (λ p. unagreed false s p (reported_point p)) (k.point ∙ ap (corrected_point s) (sym k.ticks))
        ∙ sym (ap (λ t. judged t s w (corrected_point s w)) now)
        ∙ k.gives (past (rw (e, l) refl) none-given)
