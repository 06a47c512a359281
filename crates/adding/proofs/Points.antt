-- Point n of a track, and a prediction after it, are the closed form's of the opening and the samples up to n; so tracks add.
use mathlib.Core.Path.{◌≡◌, refl, sym, ap, subst, ◌∙◌}
use mathlib.Core.Logic.{inl, inr}
use mathlib.Core.List.{List, [], ◌∷◌}
use Prim.Native.Nat.{ℕ, zero, suc, ◌-◌, ◌≤◌}
use native.Mathlib.Omega.{arith}
use lib.IntN.{ℤ, ◌+ℤ◌, ◌-ℤ◌}
use lib.ListN.{length, drop}
use Rattle.coefficients.specs.declared.Formula.{Formula}
use Rattle.coefficients.specs.declared.Formula.TheVariants.{PositionPredictor, PositionCorrector, VelocityPredictor, VelocityCorrector}
use Rattle.integers.specs.Tactics.{atom, terms, ring}
use Rattle.ticks.specs.declared.WholeSample.{WholeSample}
use Rattle.ticks.specs.Samples.{whole_of}
use Rattle.axis.specs.Kinds.{Kind, of_position, of_velocity}
use Rattle.axis.proofs.Held.{corrector_of}
use Rattle.session.specs.Coordinates.{Coordinate}
use Rattle.steps.specs.declared.ReportedPoint.{ReportedPoint}
use Rattle.steps.specs.declared.Correction.TheVariants as C
use Rattle.demands.specs.Histories.{Event, predicting, correcting, withdrawing, refining, Entry, entries, samples_of}
use Rattle.demands.specs.ClosedForm.{Origin, first_sum, second_before, position_at, velocity_at, next_position, next_velocity, Predicts, Corrects, Tells, Told}
use Rattle.demands.specs.Demands.{positions, velocities}
use Rattle.adding.specs.Tracks.{Track, value_at, value_in, PredictedAfter}
use Rattle.adding.proofs.Linear.{weighted, value_by}
use Rattle.adding.proofs.UpTo.{up_to, up-to-earlier, up-to-all}

-- ---- an accepted point

-- values of the accepted points that a closed form gives: at the opening, of the newest point, and so of each before it
module _ (o : Origin) (value : List Entry → ℕ → ℤ) (closed : List WholeSample → ℤ)
    (opening : (j : ℕ) → value [] j ≡ closed [])
    (newest : (e : Entry) (es : List Entry) → Corrects o (samples_of (e ∷ es)) e.point → value (e ∷ es) 0 ≡ closed (samples_of (e ∷ es)))
    (older : (e : Entry) (es : List Entry) (j : ℕ) → value (e ∷ es) (suc j) ≡ value es j) where
  values-are : (es : List Event) → Told o es → (j : ℕ) → value (entries es) j ≡ closed (samples_of (drop j (entries es)))
  values-are [] t zero = opening zero
  values-are [] t (suc j) = opening (suc j)
  values-are (predicting r ∷ es) t j = values-are es t.1 j
  values-are (correcting a (C.Accepted q) ∷ es) t zero = newest (record { sample = whole_of a; point = q }) (entries es) t.0
  values-are (correcting a (C.Accepted q) ∷ es) t (suc j) = older (record { sample = whole_of a; point = q }) (entries es) j ∙ values-are es t.1 j
  values-are (correcting a (C.Again q c) ∷ es) t j = values-are es t.1 j
  values-are (correcting a (C.Refused n) ∷ es) t j = values-are es t.1 j
  values-are (withdrawing r ∷ es) t j = values-are es t.1 j
  values-are (refining floats r ∷ es) t j = values-are es t.1 j

back-again : (x y : ℤ) → x ≡ (x -ℤ y) +ℤ y
back-again x y = rw (atom 0 x, atom 1 y) (simp terms (ring _ _ refl))

pub point-is : (t : Track) → Told t.origin t.events → (n : ℕ) (kind : Kind) (k : Coordinate) →
    value_at kind k t n ≡ value_by (corrector_of kind) t.origin k (up_to n (entries t.events))
unfolding position_at velocity_at second_before first_sum
point-is t told n of_position k =
    let o = t.origin in
    values-are o (positions o k) (value_by PositionCorrector o k) (λ j. back-again (o.position k) (weighted PositionCorrector o k []))
    (λ e es c. c.position k) (λ e es j. refl) t.events told (length (entries t.events) - n)
point-is t told n of_velocity k =
    let o = t.origin in
    values-are o (velocities o k) (value_by VelocityCorrector o k) (λ j. back-again (o.velocity k) (weighted VelocityCorrector o k []))
    (λ e es c. c.velocity k) (λ e es j. refl) t.events told (length (entries t.events) - n)

-- ---- a prediction

abbrev pub predictor_of : Kind → Formula
predictor_of of_position = PositionPredictor
predictor_of of_velocity = VelocityPredictor

-- an answer carries the predictor's values
pub carried : (o : Origin) (q : ReportedPoint) (n : ℕ) (es : List Entry) → Predicts o (up_to n es) q → (kind : Kind) (k : Coordinate) →
    value_in kind k q ≡ value_by (predictor_of kind) o k (up_to n es)
unfolding next_position next_velocity
carried o q n es p of_position k = p.position k
carried o q n es p of_velocity k = p.velocity k

-- an event more leaves the points up to n as they were
record Kept (n : ℕ) (e : Event) (es : List Event) : Type 0 where
  same : up_to n (entries (e ∷ es)) ≡ up_to n (entries es)
  reaches : n ≤ length (entries (e ∷ es))

kept : (n : ℕ) (e : Event) (es : List Event) → n ≤ length (entries es) → Kept n e es
kept n (predicting r) es h = record { same = refl; reaches = h }
kept n (correcting a (C.Accepted q)) es h = record { same = up-to-earlier n _ (entries es) h; reaches = omega arith }
kept n (correcting a (C.Again q c)) es h = record { same = refl; reaches = h }
kept n (correcting a (C.Refused m)) es h = record { same = refl; reaches = h }
kept n (withdrawing r) es h = record { same = refl; reaches = h }
kept n (refining floats r) es h = record { same = refl; reaches = h }

module _ (o : Origin) (n : ℕ) (q : ReportedPoint) where
  reaches : (es : List Event) → PredictedAfter n q es → n ≤ length (entries es)
  reaches [] p = absurd p
  reaches (e ∷ es) (inl (f, m)) = (kept n e es (omega (arith, m))).reaches
  reaches (e ∷ es) (inr p) = (kept n e es (reaches es p)).reaches

  predicted-is : (es : List Event) → Told o es → PredictedAfter n q es → Predicts o (up_to n (entries es)) q
  predicted-is [] t p = absurd p
  predicted-is (e ∷ es) t (inl (f, m)) =
      let tells : Predicts o (samples_of (entries es)) q = subst (Tells o (samples_of (entries es))) f t.0 in
      let all : up_to n (entries es) ≡ samples_of (entries es) = ap (λ l. up_to l (entries es)) (sym m) ∙ up-to-all (entries es) in
      let here : up_to n (entries (e ∷ es)) ≡ samples_of (entries es) = (kept n e es (omega (arith, m))).same ∙ all in
      subst (λ ws. Predicts o ws q) (sym here) tells
  predicted-is (e ∷ es) t (inr p) = subst (λ ws. Predicts o ws q) (sym (kept n e es (reaches es p)).same) (predicted-is es t.1 p)

pub prediction-is : (t : Track) → Told t.origin t.events → (n : ℕ) (q : ReportedPoint) → PredictedAfter n q t.events → (kind : Kind) (k : Coordinate) →
    value_in kind k q ≡ value_by (predictor_of kind) t.origin k (up_to n (entries t.events))
prediction-is t told n q p = carried t.origin q n (entries t.events) (predicted-is t.origin n q t.events told p)
