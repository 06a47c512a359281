-- The nine places of a round's answer: the first p hold its points, oldest first, and the others nothing; and how the code fills them.
use mathlib.Core.Path.{◌≡◌, refl, ap, ◌∙◌}
use mathlib.Core.List.{◌++◌, List, ◌∷◌}
use Prim.Native.Nat.{ℕ, zero, suc, ◌+◌, ◌-◌, ◌≤◌, ◌<◌}
use native.Mathlib.Nat.{not-suc-le-zero}
use native.Mathlib.Omega.{arith}
use lib.ListN.{length, length-append, get_or, replicate, length-replicate, get_or-replicate, get_or-append, take, set}
use lib.Seq.{get_or-append-add}
use Rattle.epoch_session.specs.declared.Round.{Round}
use Rattle.epoch_session.specs.Rounds.{earlier_point}
use Rattle.steps.specs.declared.ReportedPoint.{ReportedPoint}
use Rattle.steps.specs.Answers.{reported_point, no_point}
use Rattle.epoch_steps.specs.Answers.{points_from, round_points}
use Rattle.axis.proofs.Places.{less_one, less_none}

module _ (r : Round) where
  length_from : (n : ℕ) → length (points_from r n) ≡ n
  unfolding points_from
  length_from zero = refl
  length_from (suc n) = ap suc (length_from n)

  from_at : (n i : ℕ) (d : ReportedPoint) → i < n → get_or (points_from r n) i d ≡ reported_point (earlier_point r (n - 1 - i))
  unfolding points_from
  from_at zero i d l = absurd (not-suc-le-zero l)
  from_at (suc n) zero d l = let e : n ≡ suc n - 1 - 0 = omega arith in ap (λ j. reported_point (earlier_point r j)) e
  from_at (suc n) (suc i) d l = let e : n - 1 - i ≡ suc n - 1 - suc i = omega arith in from_at n i d (omega arith) ∙ ap (λ j. reported_point (earlier_point r j)) e

  pub nine-places : r.points ≤ 9 → length (round_points r) ≡ 9
  unfolding round_points
  nine-places l =
      let e = length-append (points_from r r.points) (replicate (9 - r.points) no_point) in
      let f = length_from r.points in
      let g = length-replicate (9 - r.points) no_point in
      omega (arith, e, f, g, l)

  -- the point at place i
  pub point_at : (i : ℕ) (d : ReportedPoint) → i < r.points → get_or (round_points r) i d ≡ reported_point (earlier_point r (r.points - 1 - i))
  unfolding round_points
  point_at i d l =
      get_or-append (points_from r r.points) (replicate (9 - r.points) no_point) d i (omega (arith, length_from r.points, l))
      ∙ from_at r.points i d l

  -- nothing stands at the others
  pub nothing-at : (i : ℕ) (d : ReportedPoint) → r.points ≤ i → i < 9 → get_or (round_points r) i d ≡ no_point
  unfolding round_points
  nothing-at i d l h =
      let ps = points_from r r.points in
      let none = replicate (9 - r.points) no_point in
      let e : i ≡ length ps + (i - r.points) = omega (arith, length_from r.points, l) in
      ap (λ j. get_or (ps ++ none) j d) e
      ∙ get_or-append-add ps none (i - r.points) d
      ∙ get_or-replicate (9 - r.points) (i - r.points) no_point d (omega (arith, l, h))

-- ---- filled one after the other

less_both : (n i : ℕ) → suc n - suc i ≡ n - i
less_both n i = omega arith

less-last : (n : ℕ) → suc n - 1 - 0 ≡ n
less-last n = omega arith

less-further : (n i : ℕ) → suc n - 1 - suc i ≡ n - 1 - i
less-further n i = omega arith

-- of m places, the first i of n points and nothing else
abbrev pub filled_to : ℕ → Round → ℕ → ℕ → List ReportedPoint
filled_to m r n i = take i (points_from r n) ++ replicate (m - i) no_point

module _ (r : Round) where
  filled : (m n i : ℕ) → i < m → i < n → set (filled_to m r n i) i (reported_point (earlier_point r (n - 1 - i))) ≡ filled_to m r n (suc i)
  unfolding points_from
  filled zero n i h l = absurd (not-suc-le-zero h)
  filled (suc m) zero i h l = absurd (not-suc-le-zero l)
  filled (suc m) (suc n) zero h l = rw (less_one m, less_none (suc m), less-last n) refl
  filled (suc m) (suc n) (suc i) h l =
      rw (less_both m i, less_both m (suc i), less-further n i)
      (ap (λ (qs : List ReportedPoint). reported_point (earlier_point r n) ∷ qs) (filled m n i (omega arith) (omega arith)))

  pub filled_next : (n i : ℕ) → i < 9 → i < n → set (filled_to 9 r n i) i (reported_point (earlier_point r (n - 1 - i))) ≡ filled_to 9 r n (suc i)
  filled_next n i = filled 9 n i

  -- all of them
  pub take_all : (n : ℕ) → take n (points_from r n) ≡ points_from r n
  unfolding points_from
  take_all zero = refl
  take_all (suc n) = ap (λ (qs : List ReportedPoint). reported_point (earlier_point r n) ∷ qs) (take_all n)
