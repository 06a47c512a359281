-- What names the cause and gives the differences leaves no choice; it has the call's number and kind; and it names a value exactly for again and for refusals
-- other than 7.
use mathlib.Core.Path.{◌≡◌, refl, sym, ap, ◌∙◌, subst}
use mathlib.Core.Logic.{◌↔◌, ◌⊎◌, inl, inr, ⊎_elim}
use mathlib.Core.Bool.{Bool, true, false}
use Prim.Native.Nat.{ℕ, zero, suc}
use native.Mathlib.Nat.{suc-ne-zero}
use native.Mathlib.Omega.{arith}
use lib.IntN.{ℤ, pos}
use Rattle.integers.specs.Tests.{agree}
use Rattle.rules.specs.Rules.{NotZero, Unrefused}
use Rattle.rules.proofs.Readings.{one-exactly, surely}
use Rattle.exact.specs.declared.Exact.{Exact}
use Rattle.exact.specs.Numerator.{exact_of, numerator}
use Rattle.exact.specs.Report.{report_of}
use Rattle.exact.proofs.Laws.{exact_of-numerator}
use Rattle.ticks.specs.declared.Sample.{Sample}
use Rattle.ticks.specs.Samples.{axes_of, whole_of}
use Rattle.session.specs.declared.Session.{Session}
use Rattle.session.specs.Coordinates.{Coordinate, on_x, on_y, on_z}
use Rattle.session.specs.Moves.{estimate_of}
use Rattle.steps.specs.Refusals.{agrees, correct_refusal}
use Rattle.demands.specs.Records.{Means, AwaitingRecord}
use Rattle.demands.specs.Refusals.{NotANumber, Infinite, TooLarge, correct_table}
use Rattle.demands.proofs.Conditions.{agreement}
use Rattle.demands.proofs.Records.{awaiting-record}
use Rattle.demands.proofs.Tables.{correct-first}
use Rattle.demands.proofs.Ours.{correct-none}
use Rattle.reasons.specs.declared.Reason.{Reason}
use Rattle.causes.specs.Causes.{Explaining, corrected, in_order, Out, Over, Says, Compares, Blank, NamesNone, Causes, number_in, reason_in, given_on, FirstCorrection, GivesDifferences}
use Rattle.causes.specs.Changes.{ChangesBy}
use Rattle.causes.proofs.Changes.{changes}
use Rattle.causes.proofs.Names.{named, one_name, Numbered, numbered}

-- ---- one reason

-- an exact value that means z has one form
one_form : {z : ℤ} (e f : Exact) → Means e z → Means f z → e ≡ f
unfolding numerator
one_form e f m n = sym (exact_of-numerator e m.part) ∙ ap exact_of (m.value ∙ sym n.value) ∙ exact_of-numerator f n.part

one-reason : (z : ℤ) (t : ℕ) (r u : Reason) → r.value ≡ u.value → Says z t r → Says z t u → r ≡ u
one-reason z t r u e h k =
    let same = one_form r.change.exact u.change.exact h.exact k.exact in
    let report = h.report ∙ ap report_of same ∙ sym k.report in
    λ i. record { value = e i; change = record { exact = same i; report = report i }; tolerance = (h.allowed ∙ sym k.allowed) i }

one_none : (r u : Reason) → NamesNone r → NamesNone u → r ≡ u
one_none r u h k = one-reason (pos 0) 0 r u (h.0 ∙ sym k.0) h.1 k.1

-- ---- the number

module _ (E : Explaining) (c : Causes E) (s : Session) (a : Sample) where
  pub the_number : number_in E s a ≡ correct_refusal s a
  the_number = one-exactly (correct_table s a) (number_in E s a) (correct_refusal s a) (correct-first s a) (c.number s a)

  -- it is one of the table's where it is not 0
  among-them : {n : ℕ} → correct_refusal s a ≡ suc n → Numbered (correct_table s a) (number_in E s a)
  among-them e = subst (Numbered (correct_table s a)) (sym the_number) (numbered (correct_table s a) (correct_refusal s a) (correct-first s a) (λ z. suc-ne-zero _ (sym e ∙ z)))

-- ---- two that explain

module _ (E F : Explaining) (c : Causes E) (d : Causes F) (s : Session) (a : Sample) where
  same_number : number_in E s a ≡ number_in F s a
  same_number = the_number E c s a ∙ sym (the_number F d s a)

  abbrev Same : Type 0
  Same = ((E s a).kind ≡ (F s a).kind) × (reason_in E s a ≡ reason_in F s a)

  -- where nothing refuses
  judged : Unrefused (correct_table s a) → (t : Bool) → agrees s (corrected s a) ≡ t → Same
  judged u true h =
      let w = (agreement s (corrected s a)).yes.0 h in
      let (k, r) = c.accepted s a u w in
      let (l, v) = d.accepted s a u w in
      (k ∙ sym l, one_none (reason_in E s a) (reason_in F s a) r v)
  judged u false h =
      let w = (agreement s (corrected s a)).no.0 h in
      let (k, r) = c.again s a u w in
      let (l, v) = d.again s a u w in
      (k ∙ sym l, one_name (Over s a) (Compares s a) (λ v. one-reason _ _) 1 in_order (reason_in E s a) (reason_in F s a) r v)

  -- a refusal's number
  refused : NotZero (number_in E s a) → reason_in E s a ≡ reason_in F s a → Same
  refused z e = (c.refused s a z ∙ sym (d.refused s a (λ y. z (same_number ∙ y))), e)

  by_number : NotZero (number_in E s a) → Numbered (correct_table s a) (number_in E s a) → reason_in E s a ≡ reason_in F s a
  by_number z (inl e) = one_none _ _ (c.unfitting s a e) (d.unfitting s a (sym same_number ∙ e))
  by_number z (inr (inl e)) = one_name NotANumber (λ x. Blank) (λ x. one-reason (pos 0) 0) 1 (axes_of a) _ _ (c.not_a_number s a e) (d.not_a_number s a (sym same_number ∙ e))
  by_number z (inr (inr (inl e))) = one_name Infinite (λ x. Blank) (λ x. one-reason (pos 0) 0) 1 (axes_of a) _ _ (c.infinite s a e) (d.infinite s a (sym same_number ∙ e))
  by_number z (inr (inr (inr (inl e)))) = one_name TooLarge (λ x. Blank) (λ x. one-reason (pos 0) 0) 1 (axes_of a) _ _ (c.too_large s a e) (d.too_large s a (sym same_number ∙ e))
  by_number z (inr (inr (inr (inr (inl e))))) = one_name (Out (corrected s a)) (λ v. Blank) (λ v. one-reason (pos 0) 0) 1 in_order _ _ (c.outside s a e) (d.outside s a (sym same_number ∙ e))
  by_number z (inr (inr (inr (inr (inr (inl e)))))) = one_name (Over s a) (Compares s a) (λ v. one-reason _ _) 1 in_order _ _ (c.ended s a e) (d.ended s a (sym same_number ∙ e))
  by_number z (inr (inr (inr (inr (inr (inr h)))))) = absurd h

  pub same : Same
  same = by (correct_refusal s a) refl
    where
      by : (n : ℕ) → correct_refusal s a ≡ n → Same
      by zero e = judged ((correct-none s a).0 e) (agrees s (corrected s a)) refl
      by (suc n) e =
          let z : NotZero (number_in E s a) = λ y. suc-ne-zero n (sym e ∙ sym (the_number E c s a) ∙ y) in
          refused z (by_number z (among-them E c s a e))

  module _ (g : GivesDifferences E) (h : GivesDifferences F) where
    same-given : (E s a).differences.given ≡ (F s a).differences.given
    same-given =
        agree _ _
        (λ e. (h.exactly s a).1 (subst (FirstCorrection s) same_number ((g.exactly s a).0 e)))
        (λ e. (g.exactly s a).1 (subst (FirstCorrection s) (sym same_number) ((h.exactly s a).0 e)))

    same-on : (t : Bool) → (E s a).differences.given ≡ t → (k : Coordinate) → given_on k (E s a).differences ≡ given_on k (F s a).differences
    same-on true e k = g.given s a e k ∙ sym (h.given s a (sym same-given ∙ e) k)
    same-on false e k = g.none s a e k ∙ sym (h.none s a (sym same-given ∙ e) k)

    pub one : E s a ≡ F s a
    one =
        let on = same-on (E s a).differences.given refl in
        λ i.
        record {
          number = same_number i;
          kind = same.0 i;
          reason = same.1 i;
          differences = record { given = same-given i; x = on on_x i; y = on on_y i; z = on on_z i };
        }

-- ---- a value is named exactly for again and for a refusal other than 7

module _ (E : Explaining) (c : Causes E) (s : Session) (a : Sample) where
  abbrev Reasoned : Type 0
  Reasoned = ((E s a).kind ≡ 2) ⊎ (NotZero (number_in E s a) × (¬ (number_in E s a ≡ 7)))

  abbrev NamesOne : Type 0
  NamesOne = NotZero (reason_in E s a).value ↔ Reasoned

  judged-named : Unrefused (correct_table s a) → number_in E s a ≡ 0 → (t : Bool) → agrees s (corrected s a) ≡ t → NamesOne
  judged-named u z true h =
      let (k, r) = c.accepted s a u ((agreement s (corrected s a)).yes.0 h) in
      ((λ n. absurd (n r.0)), ⊎_elim (λ e. absurd (omega (arith, k, e))) (λ n. absurd (n.0 z)))
  judged-named u z false h =
      let (k, r) = c.again s a u ((agreement s (corrected s a)).no.0 h) in
      ((λ n. inl k), (λ n. named (Over s a) (Compares s a) 0 in_order (reason_in E s a) r))

  refused-named : NotZero (number_in E s a) → Numbered (correct_table s a) (number_in E s a) → NamesOne
  refused-named z (inl e) = ((λ n. absurd (n (c.unfitting s a e).0)), ⊎_elim (λ k. absurd (omega (arith, k, c.refused s a z))) (λ n. absurd (n.1 e)))
  refused-named z (inr more) = ((λ n. inr (z, not-7 more)), (λ n. place more))
    where
      not-7 : {n : ℕ} → (n ≡ 4) ⊎ ((n ≡ 13) ⊎ ((n ≡ 5) ⊎ ((n ≡ 6) ⊎ ((n ≡ 8) ⊎ ⊥)))) → ¬ (n ≡ 7)
      not-7 (inl e) f = omega (arith, e, f)
      not-7 (inr (inl e)) f = omega (arith, e, f)
      not-7 (inr (inr (inl e))) f = omega (arith, e, f)
      not-7 (inr (inr (inr (inl e)))) f = omega (arith, e, f)
      not-7 (inr (inr (inr (inr (inl e))))) f = omega (arith, e, f)
      not-7 (inr (inr (inr (inr (inr h))))) f = h

      place : (number_in E s a ≡ 4) ⊎ ((number_in E s a ≡ 13) ⊎ ((number_in E s a ≡ 5) ⊎ ((number_in E s a ≡ 6) ⊎ ((number_in E s a ≡ 8) ⊎ ⊥)))) → NotZero (reason_in E s a).value
      place (inl e) = named NotANumber (λ x. Blank) 0 (axes_of a) (reason_in E s a) (c.not_a_number s a e)
      place (inr (inl e)) = named Infinite (λ x. Blank) 0 (axes_of a) (reason_in E s a) (c.infinite s a e)
      place (inr (inr (inl e))) = named TooLarge (λ x. Blank) 0 (axes_of a) (reason_in E s a) (c.too_large s a e)
      place (inr (inr (inr (inl e)))) = named (Out (corrected s a)) (λ v. Blank) 0 in_order (reason_in E s a) (c.outside s a e)
      place (inr (inr (inr (inr (inl e))))) = named (Over s a) (Compares s a) 0 in_order (reason_in E s a) (c.ended s a e)
      place (inr (inr (inr (inr (inr h))))) = absurd h

  pub named-exactly : NamesOne
  named-exactly = by (correct_refusal s a) refl
    where
      by : (n : ℕ) → correct_refusal s a ≡ n → NamesOne
      by zero e = judged-named ((correct-none s a).0 e) (the_number E c s a ∙ e) (agrees s (corrected s a)) refl
      by (suc n) e = refused-named (λ y. suc-ne-zero n (sym e ∙ sym (the_number E c s a) ∙ y)) (among-them E c s a e)

  -- ---- the differences that are given are those that the changes are multiples of

  -- a number other than 7: the record awaits a correction
  awaits : ¬ (number_in E s a ≡ 7) → AwaitingRecord s
  awaits h = surely (awaiting-record s) (λ none. h ((c.number s a).0.1 none))

  pub changes-given : GivesDifferences E → (E s a).differences.given ≡ true → (k : Coordinate) → ChangesBy s.points (given_on k (E s a).differences) k (estimate_of s) (corrected s a)
  changes-given g e k =
      let (first, (_, (_, (_, (fits, _))))) = (g.exactly s a).0 e in
      subst (λ d. ChangesBy s.points d k (estimate_of s) (corrected s a)) (sym (g.given s a e k)) (changes s (whole_of a) (awaits fits) first k)
