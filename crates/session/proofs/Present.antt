-- The points that the records of the calls give: where an opened record stands, and what an awaiting one predicts and estimates.
use mathlib.Core.Path.{◌≡◌, refl}
use mathlib.Core.List.{List}
use Prim.Native.Nat.{ℕ}
use lib.IntN.{ℤ}
use Rattle.axis.specs.declared.Tolerances.{Tolerances}
use Rattle.axis.specs.Formulas.{predicted_motion}
use Rattle.session.specs.declared.Point.{Point}
use Rattle.session.specs.declared.Session.{Session}
use Rattle.session.specs.Moves.{present_point, estimate_of, predicted_point, awaiting_at, opened_session}
use Rattle.session.specs.Ready.{PlacedPoint}
use Rattle.axis.proofs.Points as A

-- ---- where a record stands

pub present-opened : (p : ℕ) (tolerances : Tolerances) (limit : ℕ) (q : Point) (xs ys zs : List ℤ) → PlacedPoint q → present_point (opened_session p tolerances limit q xs ys zs) ≡ q
unfolding present_point opened_session
present-opened p tolerances limit q xs ys zs h =
    λ i. record {
      x = A.present-opened p q.x xs h.on-x.position.small h.on-x.velocity.small i;
      y = A.present-opened p q.y ys h.on-y.position.small h.on-y.velocity.small i;
      z = A.present-opened p q.z zs h.on-z.position.small h.on-z.velocity.small i;
    }

-- another estimate moves nothing

module _ (s : Session) (n : ℕ) (q : Point) where
  pub predicted-awaiting : predicted_point (awaiting_at s n q) ≡ predicted_point s
  unfolding predicted_point awaiting_at predicted_motion
  predicted-awaiting = refl

  pub estimate-awaiting : estimate_of (awaiting_at s n q) ≡ q
  unfolding estimate_of awaiting_at
  estimate-awaiting = refl
