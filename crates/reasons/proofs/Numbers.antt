-- The reason of each number: of a sample at fault, and of a corrected point that is in range or not.
use mathlib.Core.Path.{◌≡◌, refl, sym, ap, ◌∙◌}
use mathlib.Core.Bool.{Bool, true, false, cond}
use mathlib.Core.List.{[], ◌∷◌}
use Prim.Native.Nat.{ℕ}
use Rattle.integers.specs.Tests.{fails}
use Rattle.std.specs.Prelude.{Some}
use Rattle.rules.specs.Rules.{NotZero, first_of, Gives}
use Rattle.ticks.specs.declared.Fault.{Fault}
use Rattle.ticks.specs.declared.Fault.TheVariants.{TooLarge, Infinite, NotANumber}
use Rattle.ticks.specs.declared.Sample.{Sample}
use Rattle.ticks.specs.declared.WholeSample.{WholeSample}
use Rattle.ticks.specs.Samples.{axes_of, whole_of}
use Rattle.session.specs.declared.Point.{Point}
use Rattle.session.specs.declared.Session.{Session}
use Rattle.session.specs.Moves.{estimate_of, corrected_point, point_in_range}
use Rattle.session.specs.Apart.{points_agree}
use Rattle.session.specs.Values.{Value, six, within_at}
use Rattle.steps.specs.Refusals.{fault_number, agrees, is_last, point_rules, correct_rules, correct_refusal}
use Rattle.steps.specs.Steps.{correct_answer_by}
use Rattle.reasons.specs.declared.Reason.{Reason}
use Rattle.reasons.specs.declared.Differences.{Differences}
use Rattle.reasons.specs.declared.Explanation.{Explanation}
use Rattle.reasons.specs.Reasons.{placed, no_reason, named, first, is_over, moved, point_reasons, beside, has_fault}
use Rattle.reasons.specs.Differences.{no_differences, differences_with}
use Rattle.reasons.specs.Explanations.{explanation, explained_by, reasons_of, explain_of, judged_point}
use Rattle.reasons.proofs.First.{every-passes, none-fails}

-- ---- the number that the rules give, in the explanation

module _ (s : Session) (a : Sample) where
  pub explains-as : {n : ℕ} → Gives (correct_rules s a) n → explained_by n (beside n (reasons_of s a)) s (whole_of a) ≡ explain_of s a
  unfolding explain_of correct_refusal
  explains-as g = ap (λ n. explained_by n (beside n (reasons_of s a)) s (whole_of a)) (sym g.first)

  pub unfitting : explained_by 7 (beside 7 (reasons_of s a)) s (whole_of a) ≡ explanation 7 0 no_reason no_differences
  unfolding explained_by beside differences_with
  unfitting = refl

-- ---- a sample: its fault is what is tested

pub at-fault : (s : Session) (a : Sample) (f : Fault) →
    explanation (fault_number (Some f)) 0 (first (has_fault f) named (axes_of a)) no_differences ≡ explained_by (fault_number (Some f)) (beside (fault_number (Some f)) (reasons_of s a)) s (whole_of a)
unfolding explained_by beside differences_with
at-fault s a NotANumber = refl
at-fault s a Infinite = refl
at-fault s a TooLarge = refl

-- ---- a point in range

module _ (s : Session) (q : Point) where
  abbrev pub first_over : Reason
  first_over = first (is_over s q) (moved s q) six

  place_of : (n : ℕ) (v : Value) → (moved s q n v).value ≡ n
  unfolding moved
  place_of n v = refl

  no_value : no_reason.value ≡ 0
  unfolding placed
  no_value = refl

  -- no value is over its tolerance exactly where the point agrees
  pub none_over : first_over.value ≡ 0 → agrees s q ≡ true
  unfolding agrees points_agree
  none_over e = every-passes (within_at s.tolerances q (estimate_of s)) (moved s q) place_of 0 six e

  pub some-over : NotZero first_over.value → agrees s q ≡ false
  unfolding agrees points_agree
  some-over h = fails _ (λ e. h (ap (λ u. u.value) (none-fails (within_at s.tolerances q (estimate_of s)) (moved s q) place_of 1 six e) ∙ no_value))

  -- by a number
  abbrev explained : ℕ → Differences → Explanation
  explained n d = explanation n (correct_answer_by n s q).kind (beside n (point_reasons s q)) d

  module _ (d : Differences) {r : Reason} (e : r ≡ first_over) (range : point_in_range q ≡ true) where
    -- the number of the rules, with what it says of kind and reason
    by_number : {n k : ℕ} → first_of (point_rules s q) ≡ n → (correct_answer_by n s q).kind ≡ k → beside n (point_reasons s q) ≡ first_over →
        explanation n k r d ≡ judged_point s q d
    by_number {n} g f h = (λ i. explanation n (sym f i) ((e ∙ sym h) i) d) ∙ ap (λ m. explained m d) (sym g)

    pub accepted : r.value ≡ 0 → explanation 0 1 r d ≡ judged_point s q d
    unfolding first_of beside
    accepted z = let a = none_over (sym (ap (λ u. u.value) e) ∙ z) in by_number {n = 0} {k = 1} (rw (range, a) refl) (ap (λ t. cond t 1 2) a) refl

    pub ended : NotZero r.value → is_last s ≡ true → explanation 8 0 r d ≡ judged_point s q d
    unfolding first_of beside
    ended z l = let a = some-over (λ f. z (ap (λ u. u.value) e ∙ f)) in by_number {n = 8} {k = 0} (rw (range, a, l) refl) refl refl

    pub again : NotZero r.value → is_last s ≡ false → explanation 0 2 r d ≡ judged_point s q d
    unfolding first_of beside
    again z l = let a = some-over (λ f. z (ap (λ u. u.value) e ∙ f)) in by_number {n = 0} {k = 2} (rw (range, a, l) refl) (ap (λ t. cond t 1 2) a) refl

-- ---- the differences are the same for every number of a corrected point

given-as : (t u : Bool) (s : Session) (w : WholeSample) → differences_with (first_of ((t, 6) ∷ (u, 8) ∷ [])) s w ≡ differences_with 0 s w
unfolding first_of differences_with
given-as true u s w = refl
given-as false true s w = refl
given-as false false s w = refl

pub given : (s : Session) (q : Point) (w : WholeSample) → differences_with (first_of (point_rules s q)) s w ≡ differences_with 0 s w
given s q w = given-as _ _ s w

-- ---- a point out of range

pub out : (s : Session) (q : Point) → point_in_range q ≡ false → first_of (point_rules s q) ≡ 6
unfolding first_of
out s q r = rw r refl

-- ---- a number of a corrected point has no reason of a sample

beside-point : (t u : Bool) (s : Session) (a : Sample) → let n = first_of ((t, 6) ∷ (u, 8) ∷ []) in
    beside n (point_reasons s (corrected_point s (whole_of a))) ≡ beside n (reasons_of s a)
unfolding first_of beside
beside-point true u s a = refl
beside-point false true s a = refl
beside-point false false s a = refl

pub point-reasons : (s : Session) (a : Sample) → let q = corrected_point s (whole_of a) in
    beside (first_of (point_rules s q)) (point_reasons s q) ≡ beside (first_of (point_rules s q)) (reasons_of s a)
point-reasons s a = beside-point _ _ s a
