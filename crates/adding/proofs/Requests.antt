-- Requests that add ask for openings that add.
use mathlib.Core.Path.{◌≡◌, refl, sym, ap, ◌∙◌}
use Prim.Native.Nat.{ℕ, zero, suc, ◌+◌, ◌*◌, ◌<◌}
use mathlib.Core.List.{List}
use native.Mathlib.Omega.{arith}
use lib.IntN.{ℤ, pos, ◌+ℤ◌, ◌*ℤ◌}
use lib.Ieee.{Float}
use lib.ListN.{get_or}
use Rattle.integers.specs.Tactics.{atom, terms, ring}
use Rattle.integers.specs.Differences.{at}
use Rattle.exact.specs.Numerator.{D, numerator}
use Rattle.ticks.specs.Round.{rounded_of, ticks_in}
use Rattle.axis.specs.Kinds.{of_position, of_velocity}
use Rattle.session.specs.Coordinates.{Coordinate, on_x, on_y, on_z}
use Rattle.session.specs.Requests.{exact_point, Request}
use Rattle.steps.specs.Opening.{axis_samples}
use Rattle.demands.specs.ClosedForm.{place, origin}
use Rattle.adding.specs.Sums.{OpeningsAdd, given, RequestsAdd}

-- ---- the point: whole ticks are so many times D

position-of : (r : Request) (k : Coordinate) → (origin r).position k ≡ given of_position k r *ℤ pos D +ℤ pos 0
unfolding exact_point numerator
position-of r on_x = refl
position-of r on_y = refl
position-of r on_z = refl

velocity-of : (r : Request) (k : Coordinate) → (origin r).velocity k ≡ given of_velocity k r *ℤ pos D +ℤ pos 0
unfolding exact_point numerator
velocity-of r on_x = refl
velocity-of r on_y = refl
velocity-of r on_z = refl

whole-adds : (d x y : ℤ) → (x +ℤ y) *ℤ d +ℤ pos 0 ≡ (x *ℤ d +ℤ pos 0) +ℤ (y *ℤ d +ℤ pos 0)
whole-adds d x y = rw (atom 0 d, atom 1 x, atom 2 y) (simp terms (ring _ _ refl))

-- ---- the samples: of p points, place k of each

module _ (xs ys zs : List Float) where
  abbrev ticked : List Float → ℕ → ℤ
  ticked floats i = ticks_in (rounded_of (get_or floats i Float.nan))

  axis-adds : (p k : ℕ) → k < 3 → ((i : ℕ) → i < 3 * p → ticked zs i ≡ ticked xs i +ℤ ticked ys i) → (i : ℕ) → i < p →
      at (axis_samples p k zs) i ≡ at (axis_samples p k xs) i +ℤ at (axis_samples p k ys) i
  unfolding axis_samples
  axis-adds zero k l h i b = absurd (omega arith)
  axis-adds (suc p) k l h zero b = h (3 * p + k) (omega arith)
  axis-adds (suc p) k l h (suc i) b = axis-adds p k l (λ j m. h j (omega arith)) i (omega arith)

three : (k : Coordinate) → place k < 3
three on_x = omega arith
three on_y = omega arith
three on_z = omega arith

pub requests-add : (q r t : Request) → RequestsAdd q r t → OpeningsAdd (origin q) (origin r) (origin t)
requests-add q r t h =
    record {
      first = h.first;
      second = h.second;
      position = λ k.
          position-of t k
          ∙ ap (λ z. z *ℤ pos D +ℤ pos 0) (h.point of_position k)
          ∙ whole-adds (pos D) (given of_position k q) (given of_position k r)
          ∙ (λ i. sym (position-of q k) i +ℤ sym (position-of r k) i);
      velocity = λ k.
          velocity-of t k
          ∙ ap (λ z. z *ℤ pos D +ℤ pos 0) (h.point of_velocity k)
          ∙ whole-adds (pos D) (given of_velocity k q) (given of_velocity k r)
          ∙ (λ i. sym (velocity-of q k) i +ℤ sym (velocity-of r k) i);
      samples = λ k i l.
          axis-adds q.floats r.floats t.floats t.points (place k) (three k) h.floats i l
          ∙ (λ j. at (axis_samples (sym h.first j) (place k) q.floats) i +ℤ at (axis_samples (sym h.second j) (place k) r.floats) i);
    }
