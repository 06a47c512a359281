-- The arithmetic of a round is safe: a round from an epoch in range and small samples is ready, a record that keeps the rules holds one, and points in range are placed.
use mathlib.Core.Path.{◌≡◌}
use mathlib.Core.Bool.{true}
use mathlib.Core.List.{List}
use Prim.Native.Nat.{ℕ, ◌<◌}
use native.Mathlib.Omega.{arith}
use borrow.Author.Tests.{eqb-true}
use lib.IntN.{ℤ}
use Rattle.integers.specs.Tests.{joined}
use Rattle.coefficients.specs.Formulas.{Small}
use Rattle.epoch_coefficients.specs.Formulas.{has_centre}
use Rattle.axis.specs.declared.Axis.{Axis}
use Rattle.axis.specs.declared.Motion.{Motion}
use Rattle.axis.specs.Holding.{places_hold}
use Rattle.axis.specs.Ready.{Placed}
use Rattle.axis.proofs.Places.{small-samples}
use Rattle.axis.proofs.Sound.{placed}
use Rattle.epoch_axis.proofs.Started.{started-ready}
use Rattle.epoch_axis.proofs.Kept.{earlier-placed}
use Rattle.session.specs.declared.Point.{Point}
use Rattle.session.specs.declared.Session.{Session}
use Rattle.session.specs.Moves.{estimate_of, point_in_range}
use Rattle.session.specs.Ready.{PlacedPoint}
use Rattle.session.proofs.Kept.{point-placed}
use Rattle.epoch_session.specs.declared.Round.{Round}
use Rattle.epoch_session.specs.Rounds.{round_of, earlier_point, round_in_range}
use Rattle.epoch_session.specs.Records.{held_round, sums_zero, epoch_holds, axis_starts}
use Rattle.epoch_session.specs.Ready.{ReadyRound, HoldsRound}
use Rattle.epoch_session.proofs.Below.{every-at}

pub round-ready : (p : ℕ) (epoch : Point) (xs ys zs : List ℤ) → has_centre p ≡ true → PlacedPoint epoch → Small xs → Small ys → Small zs → ReadyRound (round_of p epoch xs ys zs)
unfolding round_of
round-ready p epoch xs ys zs h q sx sy sz =
    record {
      centred = h;
      on-x = started-ready p epoch.x xs h q.on-x sx;
      on-y = started-ready p epoch.y ys h q.on-y sy;
      on-z = started-ready p epoch.z zs h q.on-z sz;
    }

-- ---- points in range

pub earlier-point-placed : (r : Round) (j : ℕ) → point_in_range (earlier_point r j) ≡ true → PlacedPoint (earlier_point r j)
unfolding earlier_point
earlier-point-placed r j =
    point-placed (earlier_point r j) (earlier-placed r.points r.x j) (earlier-placed r.points r.y j) (earlier-placed r.points r.z j)

pub round-placed : (r : Round) → round_in_range r ≡ true → (j : ℕ) → j < r.points → PlacedPoint (earlier_point r j)
unfolding round_in_range
round-placed r t j l = earlier-point-placed r j (every-at (λ j. point_in_range (earlier_point r j)) r.points j l t)

-- ---- the round of a record

pub epoch-placed : (m : Motion) → epoch_holds m ≡ true → Placed m
unfolding epoch_holds
epoch-placed m t =
    let (p, (v, r)) = simp joined at t in
    placed m (omega (arith, eqb-true m.position.part 0 p)) (omega (arith, eqb-true m.velocity.part 0 v)) r

-- what an axis that keeps the rules is known to have
pub record StartingAxis (p : ℕ) (a : Axis) : Type 0 where
  pub sums : sums_zero a ≡ true
  pub filled : places_hold p a.samples ≡ true
  pub small : Small a.samples
  pub epoch : epoch_holds a.estimate ≡ true
  pub epoch-range : Placed a.estimate

pub axis-starting : (p : ℕ) (a : Axis) → axis_starts p a ≡ true → StartingAxis p a
unfolding axis_starts
axis-starting p a t =
    let (s, (x, e)) = simp joined at t in
    record { sums = s; filled = x; small = small-samples p a.samples x; epoch = e; epoch-range = epoch-placed a.estimate e }

pub holds-round : (s : Session) → has_centre s.points ≡ true → axis_starts s.points s.x ≡ true → axis_starts s.points s.y ≡ true → axis_starts s.points s.z ≡ true → HoldsRound s
unfolding estimate_of
holds-round s h x y z =
    let ax = axis-starting s.points s.x x in
    let ay = axis-starting s.points s.y y in
    let az = axis-starting s.points s.z z in
    record { centred = h; epoch = record { on-x = ax.epoch-range; on-y = ay.epoch-range; on-z = az.epoch-range }; on-x = ax.small; on-y = ay.small; on-z = az.small }

pub held-ready : (s : Session) → HoldsRound s → ReadyRound (held_round s)
unfolding held_round
held-ready s h = round-ready s.points (estimate_of s) s.x.samples s.y.samples s.z.samples h.centred h.epoch h.on-x h.on-y h.on-z
