-- Our explanations name the cause, and give the differences.
use mathlib.Core.Path.{◌≡◌, refl, sym, ap, ◌∙◌, subst}
use mathlib.Core.Logic.Iff
use mathlib.Core.Logic.{◌↔◌, ⊎_elim}
use mathlib.Core.Bool.{Bool, true, false, not, ◌||◌, cond, true≢false, false≢true, and-eq-true_iff}
use mathlib.Core.List.{List, [], ◌∷◌}
use Prim.Native.Nat.{ℕ, zero, suc}
use native.Mathlib.Omega.{arith}
use borrow.Author.Tests.{eqb-true, eqb-false, eq-eqb}
use lib.Dec.{eqb}
use lib.IntN.{ℤ, pos}
use lib.Ieee.{Float}
use Rattle.integers.specs.Tests.{◌and◌}
use Rattle.rules.specs.Rules.{NotZero, Exactly, Unrefused, Decides}
use Rattle.rules.proofs.Readings.{first-exactly}
use Rattle.exact.specs.Numerator.{exact_of, numerator}
use Rattle.exact.proofs.Laws.{part-below, numerator-exact_of}
use Rattle.ticks.specs.declared.Sample.{Sample}
use Rattle.ticks.specs.Samples.{axes_of, whole_of}
use Rattle.session.specs.declared.Session.{Session}
use Rattle.session.specs.Coordinates.{Coordinate}
use Rattle.session.specs.Values.{Value}
use Rattle.session.proofs.Coordinates.{on-each}
use Rattle.steps.specs.Refusals.{agrees, correct_refusal}
use Rattle.steps.specs.Steps.{correct_answer_by}
use Rattle.demands.specs.Records.{Means}
use Rattle.demands.specs.Refusals.{Some, NotANumber, Infinite, TooLarge, Within, correct_table}
use Rattle.demands.proofs.Conditions.{agreement}
use Rattle.demands.proofs.Tables.{correct-first}
use Rattle.demands.proofs.Ours.{correct-none}
use Rattle.reasons.specs.declared.Reason.{Reason}
use Rattle.reasons.specs.Reasons.{placed, no_reason, named, is_no_number, is_infinity, is_over_limit, is_over, moved, first_from, beside}
use Rattle.reasons.specs.Differences.{difference_on, differences_of, no_differences, without, among, is_first, differences_with}
use Rattle.reasons.specs.Explanations.{explained_by, reasons_of, explain_of}
use Rattle.causes.specs.Causes.{corrected, in_order, Out, changed, Compares, Blank, NamesNone, NamesPlace, NamesChange, Causes, given_on, NoneOf, FirstCorrection, GivesDifferences}
use Rattle.causes.proofs.Names.{names, names-none, applies}
use Rattle.causes.proofs.Values as Values

-- ---- what our reasons say

-- every exact value that is made of a numerator means it
means : (z : ℤ) → Means (exact_of z) z
unfolding numerator
means z = record { part = part-below z; value = numerator-exact_of z }

blank : (n : ℕ) → ((placed n).value ≡ n) × Blank (placed n)
unfolding placed exact_of
blank n = (refl, record { exact = means (pos 0); report = refl; allowed = refl })

module _ (s : Session) (a : Sample) where
  compares : (n : ℕ) (v : Value) → ((moved s (corrected s a) n v).value ≡ n) × Compares s a v (moved s (corrected s a) n v)
  unfolding moved
  compares n v = (refl, record { exact = means (changed s a v); report = refl; allowed = Values.tolerance-is s a v.kind })

  -- ---- what we answer, by the number of the rules

  pub number_is : (explain_of s a).number ≡ correct_refusal s a
  unfolding explain_of explained_by
  number_is = refl

  pub kind-is : (explain_of s a).kind ≡ (correct_answer_by (correct_refusal s a) s (corrected s a)).kind
  unfolding explain_of explained_by
  kind-is = refl

  -- a number, and the reason that stands beside it
  reason-at : (n : ℕ) (r : Reason) → (explain_of s a).number ≡ n → beside n (reasons_of s a) ≡ r → (explain_of s a).reason ≡ r
  unfolding explain_of explained_by
  reason-at n r e f = ap (λ m. beside m (reasons_of s a)) e ∙ f

  -- ---- the first value over its tolerance, and none

  changes-named : ¬ Within s (corrected s a) → NamesChange s a (first_from 1 (is_over s (corrected s a)) (moved s (corrected s a)) in_order)
  changes-named h =
      names (Values.over s a) (moved s (corrected s a)) (Compares s a) compares 1 in_order (λ none. h (Values.all-within s a none))

  abbrev Kind-by : ℕ → Bool → ℕ
  Kind-by zero t = cond t 1 2
  Kind-by (suc n) t = 0

  kind_at : (n : ℕ) (t : Bool) → (explain_of s a).number ≡ n → agrees s (corrected s a) ≡ t → (explain_of s a).kind ≡ Kind-by n t
  unfolding explain_of explained_by
  kind_at zero t e f = ap (λ m. (correct_answer_by m s (corrected s a)).kind) e ∙ ap (λ t. cond t 1 2) f
  kind_at (suc n) t e f = ap (λ m. (correct_answer_by m s (corrected s a)).kind) e

  none-refuses : Unrefused (correct_table s a) → (explain_of s a).number ≡ 0
  none-refuses u = number_is ∙ (correct-none s a).1 u

  accepted : Unrefused (correct_table s a) → Within s (corrected s a) → ((explain_of s a).kind ≡ 1) × NamesNone (explain_of s a).reason
  unfolding beside
  accepted u h =
      let e = none-refuses u in (
        kind_at 0 true e ((agreement s (corrected s a)).yes.1 h),
        subst NamesNone (sym (reason-at 0 no_reason e (names-none (Values.over s a) (moved s (corrected s a)) 1 in_order (Values.none_over s a h)))) (blank 0),
      )

  again : Unrefused (correct_table s a) → ¬ Within s (corrected s a) → ((explain_of s a).kind ≡ 2) × NamesChange s a (explain_of s a).reason
  unfolding beside
  again u h =
      let e = none-refuses u in
      (kind_at 0 false e ((agreement s (corrected s a)).no.1 h), subst (NamesChange s a) (sym (reason-at 0 _ e refl)) (changes-named h))

  -- ---- refusals

  refused : NotZero (explain_of s a).number → (explain_of s a).kind ≡ 0
  refused z = by (explain_of s a).number refl
    where
      by : (n : ℕ) → (explain_of s a).number ≡ n → (explain_of s a).kind ≡ 0
      by zero e = absurd (z e)
      by (suc n) e = kind_at (suc n) (agrees s (corrected s a)) e refl

  unfitting : (explain_of s a).number ≡ 7 → NamesNone (explain_of s a).reason
  unfolding beside
  unfitting e = subst NamesNone (sym (reason-at 7 no_reason e refl)) (blank 0)

  -- what is wrong with a float, by its number
  names-axis : (test : Float → Bool) (P : Float → Type 0) → ((x : Float) → Decides (test x) (P x)) → Some P (axes_of a) →
      {n : ℕ} → (explain_of s a).number ≡ n → beside n (reasons_of s a) ≡ first_from 1 test named (axes_of a) → NamesPlace P (axes_of a) (explain_of s a).reason
  names-axis test P decided some {n} e f =
      subst (NamesPlace P (axes_of a)) (sym (reason-at n _ e f))
      (names decided named (λ x. Blank) (λ n x. blank n) 1 (axes_of a) (Values.somewhere P (axes_of a) some))

  not_a_number : (explain_of s a).number ≡ 4 → NamesPlace NotANumber (axes_of a) (explain_of s a).reason
  unfolding beside
  not_a_number e =
      let some = ⊎_elim (λ h. h) absurd (applies (correct_table s a) (correct_refusal s a) 4 (correct-first s a) (sym number_is ∙ e) (λ z. omega arith)) in
      names-axis is_no_number NotANumber Values.not-a-number some e refl

  infinite : (explain_of s a).number ≡ 13 → NamesPlace Infinite (axes_of a) (explain_of s a).reason
  unfolding beside
  infinite e =
      let some = ⊎_elim (λ h. h) absurd (applies (correct_table s a) (correct_refusal s a) 13 (correct-first s a) (sym number_is ∙ e) (λ z. omega arith)) in
      names-axis is_infinity Infinite Values.infinite some e refl

  too_large : (explain_of s a).number ≡ 5 → NamesPlace TooLarge (axes_of a) (explain_of s a).reason
  unfolding beside
  too_large e =
      let some = ⊎_elim (λ h. h) absurd (applies (correct_table s a) (correct_refusal s a) 5 (correct-first s a) (sym number_is ∙ e) (λ z. omega arith)) in
      names-axis is_over_limit TooLarge Values.too_large some e refl

  outside : (explain_of s a).number ≡ 6 → NamesPlace (Out (corrected s a)) in_order (explain_of s a).reason
  unfolding beside
  outside e =
      let out = ⊎_elim (λ h. h) absurd (applies (correct_table s a) (correct_refusal s a) 6 (correct-first s a) (sym number_is ∙ e) (λ z. omega arith)) in
      subst (NamesPlace (Out (corrected s a)) in_order) (sym (reason-at 6 _ e refl))
      (names (Values.out s a) named (λ v. Blank) (λ n v. blank n) 1 in_order (λ none. out (Values.all_in s a none)))

  ended : (explain_of s a).number ≡ 8 → NamesChange s a (explain_of s a).reason
  unfolding beside
  ended e =
      let last = ⊎_elim (λ h. h) absurd (applies (correct_table s a) (correct_refusal s a) 8 (correct-first s a) (sym number_is ∙ e) (λ z. omega arith)) in
      subst (NamesChange s a) (sym (reason-at 8 _ e refl)) (changes-named last.0)

pub causes : Causes explain_of
causes =
    record {
      number = λ s a. subst (Exactly (correct_table s a)) (sym (number_is s a)) (first-exactly (correct_table s a) (correct_refusal s a) refl (correct-first s a));
      accepted = accepted;
      again = again;
      refused = refused;
      unfitting = unfitting;
      not_a_number = not_a_number;
      infinite = infinite;
      too_large = too_large;
      outside = outside;
      ended = ended;
    }

-- ---- the differences are given at a first correction, but not with the numbers 4, 13, 5 and 7

neither : (a b : Bool) → (not (a || b) ≡ true) ↔ ((not a ≡ true) × (not b ≡ true))
neither true b = ((λ e. absurd (false≢true e)), (λ h. h.0))
neither false b = ((λ e. (refl, e)), (λ h. h.1))

differs : (n m : ℕ) → (not (eqb n m) ≡ true) ↔ (¬ (n ≡ m))
differs n m = by (eqb n m) refl
  where
    by : (t : Bool) → eqb n m ≡ t → (not t ≡ true) ↔ (¬ (n ≡ m))
    by true f = ((λ e. absurd (false≢true e)), (λ h. absurd (h (eqb-true n m f))))
    by false f = ((λ e. eqb-false n m f), (λ h. refl))

none-among : (n : ℕ) (ms : List ℕ) → (not (among n ms) ≡ true) ↔ NoneOf ms n
none-among n [] = ((λ e. tt), (λ h. refl))
none-among n (m ∷ ms) = (
  (λ e. let (f, g) = (neither (eqb n m) (among n ms)).0 e in ((differs n m).0 f, (none-among n ms).0 g)),
  (λ h. (neither (eqb n m) (among n ms)).1 ((differs n m).1 h.0, (none-among n ms).1 h.1)),
)

module _ (s : Session) (a : Sample) (n : ℕ) where
  abbrev Test : Bool
  Test = not (among n without) and is_first s

  tested : (Test ≡ true) ↔ FirstCorrection s n
  tested = (
    (λ e. let (f, g) = (and-eq-true_iff (not (among n without)) (is_first s)).0 e in (eqb-true s.corrections 0 g, (none-among n without).0 f)),
    (λ h. (and-eq-true_iff (not (among n without)) (is_first s)).1 ((none-among n without).1 h.1, eq-eqb s.corrections 0 h.0)),
  )

  given-exactly : ((differences_with n s (whole_of a)).given ≡ true) ↔ FirstCorrection s n
  unfolding differences_with
  given-exactly = Iff.trans (by Test) tested
    where
      by : (t : Bool) → ((cond t (differences_of s (whole_of a)) no_differences).given ≡ true) ↔ (t ≡ true)
      by true = ((λ e. refl), (λ e. refl))
      by false = ((λ e. e), (λ e. e))

  given-each : (differences_with n s (whole_of a)).given ≡ true → (k : Coordinate) → given_on k (differences_with n s (whole_of a)) ≡ difference_on k s (whole_of a)
  unfolding differences_with
  given-each = by Test
    where
      by : (t : Bool) → (cond t (differences_of s (whole_of a)) no_differences).given ≡ true → (k : Coordinate) → given_on k (cond t (differences_of s (whole_of a)) no_differences) ≡ difference_on k s (whole_of a)
      by true e = on-each _ refl refl refl
      by false e = absurd (false≢true e)

  given-none : (differences_with n s (whole_of a)).given ≡ false → (k : Coordinate) → given_on k (differences_with n s (whole_of a)) ≡ pos 0
  unfolding differences_with
  given-none = by Test
    where
      by : (t : Bool) → (cond t (differences_of s (whole_of a)) no_differences).given ≡ false → (k : Coordinate) → given_on k (cond t (differences_of s (whole_of a)) no_differences) ≡ pos 0
      by true e = absurd (true≢false e)
      by false e = on-each _ refl refl refl

pub gives : GivesDifferences explain_of
unfolding explain_of explained_by
gives =
    record {
      exactly = λ s a. given-exactly s a (correct_refusal s a);
      given = λ s a. given-each s a (correct_refusal s a);
      none = λ s a. given-none s a (correct_refusal s a);
    }
