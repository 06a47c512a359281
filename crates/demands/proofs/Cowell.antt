-- Demand 3's equations, for every p at once, and that the record stands at the last accepted point.
use mathlib.Core.Path.{◌≡◌, refl, sym, ap, ◌∙◌, fun_ext}
use mathlib.Core.List.{List, [], ◌∷◌}
use Prim.Native.Nat.{ℕ, zero, suc, ◌+◌, ◌-◌, ◌≤◌}
use native.Mathlib.Omega.{arith}
use native.Mathlib.Nat.{zero-add, suc-add}
use lib.IntN.{ℤ, pos, neg_ℤ, ◌+ℤ◌, ◌-ℤ◌, ◌*ℤ◌}
use lib.ListN.{length}
use Rattle.integers.specs.Tactics.{atom, terms, ring}
use Rattle.integers.specs.Differences.{by_differences, back, older}
use Rattle.integers.proofs.Differences.{by-older}
use Rattle.exact.specs.Numerator.{D, numerator}
use Rattle.coefficients.specs.Formulas.{position_corrector, velocity_corrector, unsummed_cowell, adams_moulton}
use Rattle.coefficients.proofs.Unsummed.{cowell-begins, adams-begins}
use Rattle.coefficients.proofs.Series.{cowell-series, adams-series}
use Rattle.ticks.specs.declared.WholeSample.{WholeSample}
use Rattle.session.specs.declared.Session.{Session}
use Rattle.session.specs.Moves.{present_point}
use Rattle.steps.specs.declared.Correction.TheVariants as C
use Rattle.demands.specs.Coordinates.{position_of, velocity_of}
use Rattle.session.specs.Coordinates.{Coordinate}
use Rattle.demands.specs.Histories.{ours, Call, Event, predicting, correcting, withdrawing, refining, Entry, after, history, entries, samples_of}
use Rattle.demands.specs.ClosedForm.{Origin, Begins, samples, first_sum, second_before, position_at, velocity_at, Corrects, Told}
use Rattle.demands.specs.Demands.{positions, velocities, position, velocity, Unsummed, UnsummedInTicks}
use Rattle.demands.proofs.Standing.{numerator-position, numerator-velocity, points-most, present-is}
use Rattle.demands.proofs.Invariant.{invariant}

-- each accepted answer carried the point of the closed form
abbrev Right : Origin → List Entry → Type 0
Right o [] = Unit {0}
Right o (e ∷ es) = Corrects o (samples_of (e ∷ es)) e.point × Right o es

right : (o : Origin) (es : List Event) → Told o es → Right o (entries es)
right o [] t = tt
right o (predicting r ∷ es) t = right o es t.1
right o (correcting a (C.Accepted q) ∷ es) t = (t.0, right o es t.1)
right o (correcting a (C.Again q c) ∷ es) t = right o es t.1
right o (correcting a (C.Refused n) ∷ es) t = right o es t.1
right o (withdrawing r ∷ es) t = right o es t.1
right o (refining floats r ∷ es) t = right o es t.1

-- ---- the unsummed sums, by the corrector's

cowell-sum : (p : ℕ) (x : ℕ → ℤ) → by_differences (unsummed_cowell p) x ≡ x 1 *ℤ pos D +ℤ by_differences (position_corrector p) (back (back x))
unfolding by_differences
cowell-sum p x = ap (λ bs. by_differences bs x) (cowell-begins p) ∙ regroup (pos D) (x 0) (x 1) (by_differences (position_corrector p) (back (back x)))
  where
    regroup : (d a b u : ℤ) → d *ℤ a +ℤ (neg_ℤ d *ℤ (a -ℤ b) +ℤ u) ≡ b *ℤ d +ℤ u
    regroup d a b u = rw (atom 0 d, atom 1 a, atom 2 b, atom 3 u) (simp terms (ring _ _ refl))

adams-sum : (p : ℕ) (x : ℕ → ℤ) → by_differences (adams_moulton p) x ≡ x 0 *ℤ pos D +ℤ by_differences (velocity_corrector p) (back x)
unfolding by_differences
adams-sum p x = ap (λ bs. by_differences bs x) (adams-begins p) ∙ regroup (pos D) (x 0) (by_differences (velocity_corrector p) (back x))
  where
    regroup : (d a u : ℤ) → d *ℤ a +ℤ u ≡ a *ℤ d +ℤ u
    regroup d a u = rw (atom 0 d, atom 1 a, atom 2 u) (simp terms (ring _ _ refl))

-- ---- the closed form keeps to them

module _ (o : Origin) (k : Coordinate) where
  second-difference : (w v : WholeSample) (ws : List WholeSample) →
      position_at o k (w ∷ v ∷ ws) -ℤ pos 2 *ℤ position_at o k (v ∷ ws) +ℤ position_at o k ws ≡ by_differences (unsummed_cowell o.points) (samples o k (w ∷ v ∷ ws))
  unfolding position_at second_before first_sum
  second-difference w v ws =
      let sum : (ℕ → ℤ) → ℤ = by_differences (position_corrector o.points) in
      let a : ℕ → ℤ = samples o k (w ∷ v ∷ ws) in
      rw (cowell-sum o.points a, ← (by-older (position_corrector o.points) (back a)), ← (by-older (position_corrector o.points) a), ← (by-older (position_corrector o.points) (older a)))
      (regroup (second_before o k ws) (first_sum o k ws) (a 1 *ℤ pos D) (sum a) (sum (older a)) (sum (older (older a))))
    where
      regroup : (b f t x y z : ℤ) → ((b +ℤ f) +ℤ (f +ℤ t) +ℤ x) -ℤ pos 2 *ℤ (b +ℤ f +ℤ y) +ℤ (b +ℤ z) ≡ t +ℤ ((x -ℤ y) -ℤ (y -ℤ z))
      regroup b f t x y z = rw (atom 0 b, atom 1 f, atom 2 t, atom 3 x, atom 4 y, atom 5 z) (simp terms (ring _ _ refl))

  first-difference : (w : WholeSample) (ws : List WholeSample) →
      velocity_at o k (w ∷ ws) -ℤ velocity_at o k ws ≡ by_differences (adams_moulton o.points) (samples o k (w ∷ ws))
  unfolding velocity_at first_sum
  first-difference w ws =
      let sum : (ℕ → ℤ) → ℤ = by_differences (velocity_corrector o.points) in
      let a : ℕ → ℤ = samples o k (w ∷ ws) in
      rw (adams-sum o.points a, ← (by-older (velocity_corrector o.points) a)) (regroup (first_sum o k ws) (a 0 *ℤ pos D) (sum a) (sum (older a)))
    where
      regroup : (f t x y : ℤ) → (f +ℤ t +ℤ x) -ℤ (f +ℤ y) ≡ t +ℤ (x -ℤ y)
      regroup f t x y = rw (atom 0 f, atom 1 t, atom 2 x, atom 3 y) (simp terms (ring _ _ refl))

  -- ---- the newest point is the closed form's, also where it is the opening point

  back-again : (a b : ℤ) → a ≡ (a -ℤ b) +ℤ b
  back-again a b = rw (atom 0 a, atom 1 b) (simp terms (ring _ _ refl))

  newest-position : (es : List Entry) → Right o es → positions o k es 0 ≡ position_at o k (samples_of es)
  unfolding position_at second_before
  newest-position [] r = back-again (o.position k) (by_differences (position_corrector o.points) (samples o k []))
  newest-position (e ∷ es) r = r.0.position k

  newest-velocity : (es : List Entry) → Right o es → velocities o k es 0 ≡ velocity_at o k (samples_of es)
  unfolding velocity_at first_sum
  newest-velocity [] r = back-again (o.velocity k) (by_differences (velocity_corrector o.points) (samples o k []))
  newest-velocity (e ∷ es) r = r.0.velocity k

  -- ---- the answers keep to them: at the newest point, and at each before it

  -- the samples from a place on, counted from it
  from-newest : (bs : List ℤ) (es : List Entry) → by_differences bs (samples o k (samples_of es)) ≡ by_differences bs (λ i. samples o k (samples_of es) (0 + i))
  from-newest bs es = ap (by_differences bs) (fun_ext (λ i. ap (samples o k (samples_of es)) (sym (zero-add i))))

  one_further : (bs : List ℤ) (e : Entry) (es : List Entry) (j : ℕ) →
      by_differences bs (λ i. samples o k (samples_of es) (j + i)) ≡ by_differences bs (λ i. samples o k (samples_of (e ∷ es)) (suc j + i))
  one_further bs e es j = ap (by_differences bs) (fun_ext (λ i. ap (samples o k (samples_of (e ∷ es))) (sym (suc-add j i))))

  cowell-newest : (e : Entry) (es : List Entry) → Right o (e ∷ es) → 2 ≤ length (e ∷ es) →
      positions o k (e ∷ es) 0 -ℤ pos 2 *ℤ positions o k (e ∷ es) 1 +ℤ positions o k (e ∷ es) 2 ≡ by_differences (unsummed_cowell o.points) (samples o k (samples_of (e ∷ es)))
  cowell-newest e [] r h = absurd (omega arith)
  cowell-newest e (f ∷ es) r h =
      (λ i. r.0.position k i -ℤ pos 2 *ℤ r.1.0.position k i +ℤ newest-position es r.1.1 i) ∙ second-difference e.sample f.sample (samples_of es)

  cowell : (es : List Entry) → Right o es → (j : ℕ) → j + 2 ≤ length es →
      positions o k es j -ℤ pos 2 *ℤ positions o k es (suc j) +ℤ positions o k es (suc (suc j)) ≡ by_differences (unsummed_cowell o.points) (λ i. samples o k (samples_of es) (j + i))
  cowell [] r j h = absurd (omega arith)
  cowell (e ∷ es) r zero h = cowell-newest e es r (omega arith) ∙ from-newest (unsummed_cowell o.points) (e ∷ es)
  cowell (e ∷ es) r (suc j) h = cowell es r.1 j (omega arith) ∙ one_further (unsummed_cowell o.points) e es j

  adams : (es : List Entry) → Right o es → (j : ℕ) → j + 1 ≤ length es →
      velocities o k es j -ℤ velocities o k es (suc j) ≡ by_differences (adams_moulton o.points) (λ i. samples o k (samples_of es) (j + i))
  adams [] r j h = absurd (omega arith)
  adams (e ∷ es) r zero h =
      (λ i. r.0.velocity k i -ℤ newest-velocity es r.1 i) ∙ first-difference e.sample (samples_of es) ∙ from-newest (adams_moulton o.points) (e ∷ es)
  adams (e ∷ es) r (suc j) h = adams es r.1 j (omega arith) ∙ one_further (adams_moulton o.points) e es j

-- point n is N - n places from the newest
right-unsummed : (o : Origin) (es : List Entry) → Right o es → Unsummed o es
right-unsummed o es r =
    record {
      cowell = λ k n l h.
          let one : length es - (n - 1) ≡ suc (length es - n) = omega arith in
          let two : length es - (n - 2) ≡ suc (suc (length es - n)) = omega arith in
          (λ i. position o k es n -ℤ pos 2 *ℤ positions o k es (one i) +ℤ positions o k es (two i)) ∙ cowell o k es r (length es - n) (omega arith);
      adams = λ k n l h.
          let one : length es - (n - 1) ≡ suc (length es - n) = omega arith in
          (λ i. velocity o k es n -ℤ velocities o k es (one i)) ∙ adams o k es r (length es - n) (omega arith);
    }

-- ---- of any session, however it was opened, and any calls

module _ (o : Origin) (s : Session) (b : Begins o s) (calls : List Call) where
  abbrev es : List Entry
  es = entries (history ours s calls)

  all_right : Right o es
  all_right = right o (history ours s calls) (invariant o s b calls).told

  pub unsummed : Unsummed o es
  unsummed = right-unsummed o es all_right

  pub in-ticks : UnsummedInTicks o es
  in-ticks =
      record {
        cowell = λ k n l h. rw (unsummed.cowell k n l h) (cowell-series o.points (points-most o s b) _);
        adams = λ k n l h. rw (unsummed.adams k n l h) (adams-series o.points (points-most o s b) _);
      }

  -- the record stands at the last accepted point, the opening point where none is
  pub last : (k : Coordinate) → (position_of k (present_point (after ours s calls)) ≡ position o k es (length es)) × (velocity_of k (present_point (after ours s calls)) ≡ velocity o k es (length es))
  last k =
      let m = present-is o (samples_of es) (after ours s calls) (points-most o s b) (invariant o s b calls).stands k in
      let n : length es - length es ≡ 0 = omega arith in (
        ap (λ m. numerator m.position) m ∙ numerator-position (position_at o k (samples_of es)) (velocity_at o k (samples_of es)) ∙ sym (ap (positions o k es) n ∙ newest-position o k es all_right),
        ap (λ m. numerator m.velocity) m ∙ numerator-velocity (position_at o k (samples_of es)) (velocity_at o k (samples_of es)) ∙ sym (ap (velocities o k es) n ∙ newest-velocity o k es all_right),
      )
