-- The changes of a first correction: on an axis from its formulas, and in a record that holds, whose estimate is its prediction.
use mathlib.Core.Path.{◌≡◌, refl, sym, ap, ◌∙◌, subst}
use mathlib.Core.Bool.{true}
use lib.ListN.{take}
use Prim.Native.Nat.{ℕ, ◌+◌, ◌≤◌}
use native.Mathlib.Nat.{zero-add}
use native.Mathlib.Omega.{arith}
use lib.IntN.{ℤ, pos, ◌+ℤ◌, ◌-ℤ◌, ◌*ℤ◌}
use Rattle.integers.specs.Solver.{atom, terms, ring}
use Rattle.integers.specs.Differences.{at, in_front, by_differences}
use Rattle.exact.specs.Numerator.{D, numerator}
use Rattle.exact.proofs.Laws.{numerator-exact_of}
use Rattle.coefficients.specs.Fraction.{◌over◌, ◌⊗◌, ◌≐◌, times}
use Rattle.coefficients.specs.Rules.{c, g, l, s, total, terms as terms_of, next, divided}
use Rattle.coefficients.specs.Scaled.{all_whole, run, first, later}
use Rattle.coefficients.proofs.Scaled.{g-whole, s-whole}
use Rattle.coefficients.proofs.FromFirst.{whole_run-run, l-from-2, c-from-1}
use Rattle.coefficients.specs.Formulas.{position_predictor, position_corrector, velocity_predictor, velocity_corrector}
use Rattle.axis.specs.declared.Axis.{Axis}
use Rattle.axis.specs.declared.Motion.{Motion}
use Rattle.axis.specs.Formulas.{S1, S2, ticks, motion_of, predicted_motion, corrected_motion}
use Rattle.ticks.specs.declared.WholeSample.{WholeSample}
use Rattle.session.specs.declared.Session.{Session}
use Rattle.session.specs.Coordinates.{Coordinate, axis_of, motion_on, ticks_on}
use Rattle.session.specs.Moves.{estimate_of, corrected_point}
use Rattle.session.proofs.Coordinates.{predicted-on, corrected-on}
use Rattle.demands.specs.Records.{AwaitingRecord}
use Rattle.reasons.specs.Differences.{difference, difference_on}
use Rattle.causes.specs.Changes.{ChangesBy}
use Rattle.causes.proofs.Telescope.{telescopes}

-- D s(1) = 0 and D g(0) = D
s-1 : times D (s 1) (first s 1 9 (later s 0 10 s-whole)) ≡ pos 0
unfolding times s l total c terms_of next divided
s-1 = refl

g-0 : times D (g 0) (first g 0 9 g-whole) ≡ pos D
unfolding times g total c terms_of next divided
g-0 = refl

-- ---- on samples a, x(0), x(1), ..: a is the new one

without : (t a u v : ℤ) → t ≡ pos 0 → t *ℤ a +ℤ u -ℤ v ≡ u -ℤ v
without t a u v e = ap (λ t. t *ℤ a +ℤ u -ℤ v) e ∙ drops a u v
  where
    drops : (a u v : ℤ) → pos 0 *ℤ a +ℤ u -ℤ v ≡ u -ℤ v
    drops a u v = rw (atom 0 a, atom 1 u, atom 2 v) (simp terms (ring _ _ refl))

in-ticks : (t a d u v : ℤ) → t ≡ d → t *ℤ a +ℤ u -ℤ v ≡ a *ℤ d +ℤ u -ℤ v
in-ticks t a d u v e = ap (λ t. t *ℤ a +ℤ u -ℤ v) e ∙ turns a d u v
  where
    turns : (a d u v : ℤ) → d *ℤ a +ℤ u -ℤ v ≡ a *ℤ d +ℤ u -ℤ v
    turns a d u v = rw (atom 0 a, atom 1 d, atom 2 u, atom 3 v) (simp terms (ring _ _ refl))

turned : (p : ℕ) → 1 + p ≡ p + 1
turned p = omega arith

module _ (p : ℕ) (h : p ≤ 9) (a : ℤ) (x : ℕ → ℤ) where
  positions : (by_differences (position_corrector p) (in_front a x) -ℤ by_differences (position_predictor p) x) over D ≐ s (p + 1) ⊗ difference p (in_front a x) over 1
  unfolding position_corrector position_predictor s
  positions =
      let w : all_whole s 2 9 ≡ true = later s 1 9 (later s 0 10 s-whole) in
      let u = by_differences (take p (run l 2 9 l-from-2)) (in_front a x) in
      let v = by_differences (take p (run s 2 9 w)) x in
      rw (whole_run-run l 2 9 l-from-2, whole_run-run s 2 9 w)
      (subst (λ k. (u -ℤ v) over D ≐ s k ⊗ difference p (in_front a x) over 1) (turned p)
      (subst (λ z. z over D ≐ s (1 + p) ⊗ difference p (in_front a x) over 1) (without (times D (s 1) (first s 1 9 (later s 0 10 s-whole))) a u v s-1)
      (telescopes l 1 p 9 h l-from-2 (later s 0 10 s-whole) (in_front a x))))

  velocities : (ticks a +ℤ by_differences (velocity_corrector p) (in_front a x) -ℤ by_differences (velocity_predictor p) x) over D ≐ g p ⊗ difference p (in_front a x) over 1
  unfolding velocity_corrector velocity_predictor g
  velocities =
      let w : all_whole g 1 9 ≡ true = later g 0 9 g-whole in
      let u = by_differences (take p (run c 1 9 c-from-1)) (in_front a x) in
      let v = by_differences (take p (run g 1 9 w)) x in
      rw (whole_run-run c 1 9 c-from-1, whole_run-run g 1 9 w)
      (subst (λ k. (ticks a +ℤ u -ℤ v) over D ≐ g k ⊗ difference p (in_front a x) over 1) (zero-add p)
      (subst (λ z. z over D ≐ g (0 + p) ⊗ difference p (in_front a x) over 1) (in-ticks (times D (g 0) (first g 0 9 g-whole)) a (pos D) u v g-0)
      (telescopes c 0 p 9 h c-from-1 g-whole (in_front a x))))

-- ---- on an axis: the sums S1 and S2 cancel

cancels : (m u v : ℤ) → (m +ℤ u) -ℤ (m +ℤ v) ≡ u -ℤ v
cancels m u v = rw (atom 0 m, atom 1 u, atom 2 v) (simp terms (ring _ _ refl))

cancels-first : (m t u v : ℤ) → (m +ℤ t +ℤ u) -ℤ (m +ℤ v) ≡ t +ℤ u -ℤ v
cancels-first m t u v = rw (atom 0 m, atom 1 t, atom 2 u, atom 3 v) (simp terms (ring _ _ refl))

module _ (p : ℕ) (a : Axis) (n : ℤ) where
  position-moves : numerator (corrected_motion p a n).position -ℤ numerator (predicted_motion p a).position
      ≡ by_differences (position_corrector p) (in_front n (at a.samples)) -ℤ by_differences (position_predictor p) (at a.samples)
  unfolding corrected_motion predicted_motion motion_of
  position-moves =
      let u = by_differences (position_corrector p) (in_front n (at a.samples)) in
      let v = by_differences (position_predictor p) (at a.samples) in
      (λ i. numerator-exact_of (S2 a +ℤ u) i -ℤ numerator-exact_of (S2 a +ℤ v) i) ∙ cancels (S2 a) u v

  velocity-moves : numerator (corrected_motion p a n).velocity -ℤ numerator (predicted_motion p a).velocity
      ≡ ticks n +ℤ by_differences (velocity_corrector p) (in_front n (at a.samples)) -ℤ by_differences (velocity_predictor p) (at a.samples)
  unfolding corrected_motion predicted_motion motion_of
  velocity-moves =
      let u = by_differences (velocity_corrector p) (in_front n (at a.samples)) in
      let v = by_differences (velocity_predictor p) (at a.samples) in
      (λ i. numerator-exact_of (S1 a +ℤ ticks n +ℤ u) i -ℤ numerator-exact_of (S1 a +ℤ v) i) ∙ cancels-first (S1 a) (ticks n) u v

-- ---- in a record: by the motion on each coordinate

by-motions : (p : ℕ) → p ≤ 9 → (a : Axis) (n : ℤ) {m before : Motion} → m ≡ corrected_motion p a n → before ≡ predicted_motion p a →
    ((numerator m.position -ℤ numerator before.position) over D ≐ s (p + 1) ⊗ difference p (in_front n (at a.samples)) over 1)
    × ((numerator m.velocity -ℤ numerator before.velocity) over D ≐ g p ⊗ difference p (in_front n (at a.samples)) over 1)
by-motions p h a n e f = (
  subst (λ z. z over D ≐ s (p + 1) ⊗ difference p (in_front n (at a.samples)) over 1)
      (sym ((λ i. numerator (e i).position -ℤ numerator (f i).position) ∙ position-moves p a n)) (positions p h n (at a.samples)),
  subst (λ z. z over D ≐ g p ⊗ difference p (in_front n (at a.samples)) over 1)
      (sym ((λ i. numerator (e i).velocity -ℤ numerator (f i).velocity) ∙ velocity-moves p a n)) (velocities p h n (at a.samples)),
)

pub changes : (r : Session) (w : WholeSample) → AwaitingRecord r → r.corrections ≡ 0 → (k : Coordinate) →
    ChangesBy r.points (difference_on k r w) k (estimate_of r) (corrected_point r w)
unfolding difference_on
changes r w held first k =
    let both = by-motions r.points held.filled.points.1 (axis_of k r) (ticks_on k w) (corrected-on r w k) (ap (motion_on k) (held.estimate first) ∙ predicted-on r k) in
    record { position = both.0; velocity = both.1 }
