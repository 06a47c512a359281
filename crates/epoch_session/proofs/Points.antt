-- What a round gives: its centre is the epoch. Rounds that do not agree have a change over its tolerance, and no round moves far.
use mathlib.Core.Path.{◌≡◌, subst}
use mathlib.Core.Bool.{true, false}
use mathlib.Core.List.{List}
use Prim.Native.Nat.{ℕ, ◌*◌, ◌^◌, ◌≤◌, ◌<◌}
use lib.IntN.{ℤ}
use Rattle.exact.specs.Numerator.{D}
use Rattle.axis.specs.declared.Tolerances.{Tolerances}
use Rattle.axis.specs.Kinds.{Kind, tolerance_of}
use Rattle.epoch_axis.specs.Formulas.{centre}
use Rattle.epoch_axis.proofs.Kept.{epoch-kept}
use Rattle.session.specs.declared.Point.{Point}
use Rattle.session.specs.Apart.{points_agree, point_change}
use Rattle.session.specs.Ready.{PlacedPoint}
use Rattle.session.proofs.Apart.{Over, apart-over, apart-within}
use Rattle.epoch_session.specs.declared.Round.{Round}
use Rattle.epoch_session.specs.Rounds.{round_of, earlier_point, round_in_range, rounds_agree, largest_move}
use Rattle.epoch_session.proofs.Below.{largest-within, largest-over}
use Rattle.epoch_session.proofs.Ready.{round-placed}

pub centre-kept : (p : ℕ) (epoch : Point) (xs ys zs : List ℤ) → PlacedPoint epoch → earlier_point (round_of p epoch xs ys zs) (centre p) ≡ epoch
unfolding earlier_point round_of
centre-kept p epoch xs ys zs q = λ i. record {
  x = epoch-kept p epoch.x xs q.on-x.position.small q.on-x.velocity.small i;
  y = epoch-kept p epoch.y ys q.on-y.position.small q.on-y.velocity.small i;
  z = epoch-kept p epoch.z zs q.on-z.position.small q.on-z.velocity.small i;
}

module _ (r before : Round) where
  pub move-over : (t : Tolerances) → rounds_agree t r before ≡ false → Over t (largest_move r before)
  unfolding rounds_agree largest_move
  move-over t =
      largest-over (λ kind. tolerance_of kind t * D) (λ j. point_change (earlier_point r j) (earlier_point before j)) (λ j. points_agree t (earlier_point r j) (earlier_point before j))
      (λ j. apart-over t (earlier_point r j) (earlier_point before j)) r.points

  pub move-within : r.points ≡ before.points → round_in_range r ≡ true → round_in_range before ≡ true → (kind : Kind) → largest_move r before kind ≤ 2 ^ 53 * D
  unfolding largest_move
  move-within e t u kind =
      largest-within (λ j. point_change (earlier_point r j) (earlier_point before j) kind) (2 ^ 53 * D) r.points
      (λ j l. apart-within (earlier_point r j) (earlier_point before j) (round-placed r t j l) (round-placed before u j (subst (λ n. j < n) e l)) kind)
