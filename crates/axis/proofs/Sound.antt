-- What an axis that holds has: its sums are within the bounds that the code looks at first, and none leaves its type.
use mathlib.Core.Path.{◌≡◌, sym, ◌∙◌}
use mathlib.Core.Logic.{◌↔◌}
use mathlib.Core.Bool.{true, and-eq-true_iff}
use Prim.Native.Nat.{ℕ, ◌+◌, ◌^◌, ◌≤◌, ◌<◌}
use borrow.Author.Tests.{ltb-true}
use lib.IntN.{ℤ}
use Rattle.integers.specs.Tests.{joined}
use Rattle.integers.specs.Parts.{integers}
use Rattle.integers.specs.Differences.{at, by_differences}
use Rattle.exact.specs.declared.Exact.{Exact}
use Rattle.exact.specs.Numerator.{D, Bounded, between}
use Rattle.exact.proofs.Laws.{part-below}
use Rattle.exact.proofs.Bounds.{widen, between-bounded, before-move, before-difference}
use Rattle.coefficients.specs.declared.Formula.TheVariants.{PositionCorrector, VelocityCorrector}
use Rattle.coefficients.specs.Formulas.{position_corrector, velocity_corrector, Small}
use Rattle.coefficients.proofs.Bounds.{weighted-fits}
use Rattle.axis.specs.declared.Axis.{Axis}
use Rattle.axis.specs.declared.Motion.{Motion}
use Rattle.axis.specs.Formulas.{motion_of, present_motion, predicted_motion, corrected_motion}
use Rattle.axis.specs.Estimates.{in_range}
use Rattle.axis.specs.Holding.{remainders_hold, samples_small, empty_zero, places_hold, older_holds, axis_holds, first_fits, second_fits}
use Rattle.axis.specs.Ready.{Ready, Held, Placed}
use Rattle.axis.proofs.Places.{small-samples, places-by-rules}
use Rattle.axis.proofs.Held.{held-true}

-- ---- motions in range

bounded-between : (h : ℕ) (e : Exact) → Bounded h e → between h e ≡ true
bounded-between h e b = simp joined (omega integers, omega integers)

pub placed : (m : Motion) → m.position.part < D → m.velocity.part < D → in_range m ≡ true → Placed m
unfolding in_range
placed m p v t =
    let (a, b) = (and-eq-true_iff (between (2 ^ 52) m.position) (between (2 ^ 40) m.velocity)).0 t in
    record { position = between-bounded (2 ^ 52) m.position p a; velocity = between-bounded (2 ^ 40) m.velocity v b }

pub placed-in-range : (m : Motion) → Placed m → in_range m ≡ true
unfolding in_range
placed-in-range m h =
    (and-eq-true_iff (between (2 ^ 52) m.position) (between (2 ^ 40) m.velocity)).1
    (bounded-between (2 ^ 52) m.position h.position, bounded-between (2 ^ 40) m.velocity h.velocity)

-- motions that were worked out
pub placed-motion : (m n : ℤ) → in_range (motion_of m n) ≡ true → Placed (motion_of m n)
unfolding motion_of
placed-motion m n t = placed (motion_of m n) (part-below m) (part-below n) t

module _ (p : ℕ) (a : Axis) where
  pub present-placed : in_range (present_motion p a) ≡ true → Placed (present_motion p a)
  unfolding present_motion
  present-placed t = placed-motion _ _ t

  pub predicted-placed : in_range (predicted_motion p a) ≡ true → Placed (predicted_motion p a)
  unfolding predicted_motion
  predicted-placed t = placed-motion _ _ t

  pub corrected-placed : (sample : ℤ) → in_range (corrected_motion p a sample) ≡ true → Placed (corrected_motion p a sample)
  unfolding corrected_motion
  corrected-placed sample t = placed-motion _ _ t

-- ---- the sums are known by the present point: its velocity is S1 and a weighted sum, and its position S2 - S1 and another

module _ (p : ℕ) (a : Axis) (some : (1 ≤ p) × (p ≤ 9)) (f : a.first.part < D) (s : a.second.part < D) (small : Small a.samples) (r : in_range (present_motion p a) ≡ true) where
  first-bounded : Bounded (2 ^ 40 + 2 ^ 36) a.first
  unfolding present_motion motion_of
  first-bounded =
      before-move (2 ^ 40) a.first (by_differences (velocity_corrector p) (at a.samples)) f
      (weighted-fits VelocityCorrector p some (at a.samples) small.small) (present-placed p a r).velocity

  second-bounded : Bounded (2 ^ 52 + (2 ^ 40 + 2 ^ 36) + 2 ^ 36) a.second
  unfolding present_motion motion_of
  second-bounded =
      before-difference (2 ^ 52) (2 ^ 40 + 2 ^ 36) a.second a.first (by_differences (position_corrector p) (at a.samples)) s first-bounded
      (weighted-fits PositionCorrector p some (at a.samples) small.small) (present-placed p a r).position

  pub ready-by-range : Ready p a
  ready-by-range = record { some = some; first = widen _ first-bounded tt; second = widen _ second-bounded tt; small = small }

  -- the early bounds pass
  pub first-within : first_fits a.first ≡ true
  first-within = let b = first-bounded in simp joined (omega integers, omega integers)

  pub second-within : second_fits a.second ≡ true
  second-within = let b = second-bounded in simp joined (omega integers, omega integers)

-- ---- the tests that passed

pub record Remainders (a : Axis) : Type 0 where
  pub first : a.first.part < D
  pub second : a.second.part < D
  pub position : a.estimate.position.part < D
  pub velocity : a.estimate.velocity.part < D

pub remainders : (a : Axis) → remainders_hold a ≡ true → Remainders a
unfolding remainders_hold
remainders a t =
    let (f, (s, (p, v))) = simp joined at t in
    record {
      first = ltb-true a.first.part D f;
      second = ltb-true a.second.part D s;
      position = ltb-true a.estimate.position.part D p;
      velocity = ltb-true a.estimate.velocity.part D v;
    }

pub record HoldingAxis (p : ℕ) (a : Axis) : Type 0 where
  pub remainders : Remainders a
  pub filled : places_hold p a.samples ≡ true
  pub small : Small a.samples
  pub present-range : in_range (present_motion p a) ≡ true
  pub estimate-range : in_range a.estimate ≡ true
  pub older : older_holds p a ≡ true

module _ (p : ℕ) (a : Axis) (t : axis_holds p a ≡ true) where
  pub holding-axis : HoldingAxis p a
  unfolding axis_holds
  holding-axis =
      let (r, (x, (m, (e, o)))) = simp joined at t in
      record { remainders = remainders a r; filled = x; small = small-samples p a.samples x; present-range = m; estimate-range = e; older = o }

  pub axis-ready : (1 ≤ p) × (p ≤ 9) → Ready p a
  axis-ready some = let h = holding-axis in ready-by-range p a some h.remainders.first h.remainders.second h.small h.present-range

  pub axis-held : Held p a
  axis-held = held-true p a holding-axis.older

  pub estimate-placed : Placed a.estimate
  estimate-placed = let h = holding-axis in placed a.estimate h.remainders.position h.remainders.velocity h.estimate-range

-- ---- an axis holds exactly when it keeps each rule

pub record KeepsAxis (p : ℕ) (a : Axis) : Type 0 where
  pub remainders : remainders_hold a ≡ true
  pub samples : samples_small a.samples ≡ true
  pub empty-places : empty_zero p a.samples ≡ true
  pub present-point : in_range (present_motion p a) ≡ true
  pub estimate : in_range a.estimate ≡ true
  pub older : older_holds p a ≡ true

pub holds-by-rules : (p : ℕ) (a : Axis) → (axis_holds p a ≡ true) ↔ KeepsAxis p a
unfolding axis_holds
holds-by-rules p a = (
  (λ t.
      let (r, (x, (m, (e, o)))) = simp joined at t in
      let (s, z) = simp joined at (sym (places-by-rules p a.samples) ∙ x) in
      record { remainders = r; samples = s; empty-places = z; present-point = m; estimate = e; older = o }),
  (λ k. simp joined (k.remainders, (places-by-rules p a.samples ∙ simp joined (k.samples, k.empty-places), (k.present-point, (k.estimate, k.older))))),
)
