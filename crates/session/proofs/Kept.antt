-- Every record that the calls make holds, in the state that it says; the closed one does not, and is zero.
use mathlib.Core.Path.{◌≡◌, refl, sym, ap, ◌∙◌}
use mathlib.Core.Bool.{true, false}
use mathlib.Core.List.{List}
use Prim.Native.Nat.{ℕ, ◌+◌, ◌≤◌, ◌<◌}
use native.Mathlib.Omega.{arith}
use lib.IntN.{ℤ, pos, nat_abs}
use lib.ListN.{replicate}
use Rattle.exact.specs.Numerator.{exact_of, wholly}
use Rattle.ticks.specs.declared.WholeSample.{WholeSample}
use Rattle.ticks.specs.Samples.{WithinLimit}
use Rattle.coefficients.specs.Formulas.{Small, largest}
use Rattle.axis.specs.declared.Axis.{Axis}
use Rattle.axis.specs.declared.Motion.{Motion}
use Rattle.axis.specs.declared.Tolerances.{Tolerances}
use Rattle.axis.specs.Formulas.{axis_with, motion_of, still, places, empty_axis, advanced_axis, opened_axis}
use Rattle.axis.specs.Estimates.{estimating, in_range}
use Rattle.axis.specs.Holding.{axis_holds}
use Rattle.axis.specs.Ready.{Placed}
use Rattle.axis.proofs.Places.{places-hold}
use Rattle.axis.proofs.Sound.{predicted-placed, corrected-placed}
use Rattle.axis.proofs.Kept.{still_placed, estimating-holds, advanced-holds, opened-holds}
use Rattle.session.specs.declared.Point.{Point}
use Rattle.session.specs.declared.Session.{Session}
use Rattle.session.specs.declared.State.TheVariants.{Closed}
use Rattle.session.specs.Coordinates.{axis_of, motion_on, ticks_on}
use Rattle.session.specs.Numbers.{points_hold, settings_hold, most_points}
use Rattle.session.specs.Moves.{nowhere, estimate_of, predicted_point, corrected_point, point_in_range, became, settled_again, awaiting_at, accepted_at, opened_session, closed_session}
use Rattle.session.specs.Holding.{counts_hold, holds, settled, awaiting}
use Rattle.session.specs.Ready.{Waiting, PlacedPoint}
use Rattle.session.proofs.Coordinates.{on-each, placed_on, corrected-on, settled-axis, awaiting-axis, accepted-axis}
use Rattle.session.proofs.Values.{range-iff}
use Rattle.session.proofs.Rules.{points-hold, settings-hold, axes-in-range, KeepsRules, holding, counts-are, counts-hold, settled-holds, resting, settled-by, awaiting-holds, expecting, awaiting-by}
use Rattle.session.proofs.Present.{predicted-awaiting, estimate-awaiting}

-- ---- points in range

pub point-placed : (q : Point) → (in_range q.x ≡ true → Placed q.x) → (in_range q.y ≡ true → Placed q.y) → (in_range q.z ≡ true → Placed q.z)
    → point_in_range q ≡ true → PlacedPoint q
point-placed q f g h r = let (x, (y, z)) = (axes-in-range q).0 r in record { on-x = f x; on-y = g y; on-z = h z }

pub predicted-point-placed : (s : Session) → point_in_range (predicted_point s) ≡ true → PlacedPoint (predicted_point s)
unfolding predicted_point
predicted-point-placed s =
    point-placed (predicted_point s) (predicted-placed s.points s.x) (predicted-placed s.points s.y) (predicted-placed s.points s.z)

pub corrected-point-placed : (s : Session) (w : WholeSample) → point_in_range (corrected_point s w) ≡ true → PlacedPoint (corrected_point s w)
unfolding corrected_point
corrected-point-placed s w =
    point-placed (corrected_point s w) (corrected-placed s.points s.x w.x) (corrected-placed s.points s.y w.y) (corrected-placed s.points s.z w.z)

pub estimate-point-placed : (s : Session) → Waiting s → PlacedPoint (estimate_of s)
unfolding estimate_of
estimate-point-placed s w = record { on-x = w.on-x; on-y = w.on-y; on-z = w.on-z }

-- ---- settled again: withdrawn, or refused by 8

pub settled-again : (s : Session) → holds s ≡ true → settled (settled_again s) ≡ true
unfolding settled_again counts_hold estimate_of nowhere
settled-again s t =
    let h = (holding s t).rules in
    settled-by (settled_again s)
    (record {
      counts = h.counts;
      axes = λ k. ap (axis_holds s.points) (settled-axis s k) ∙ estimating-holds s.points (axis_of k s) still (h.axes k) still_placed;
    })
    (record { state = refl; estimate = refl; corrections = refl })

-- a settled record stays as it is
pub settled_same : (s : Session) → settled s ≡ true → settled_again s ≡ s
unfolding settled_again estimate_of nowhere
settled_same s t =
    let r = resting s t in
    λ i.
    let e = sym r.estimate i in
    became s (sym r.state i) s.accepted (sym r.corrections i) (estimating s.x e.x) (estimating s.y e.y) (estimating s.z e.z)

-- what a wait began with is what its end leaves
pub settled-after : (s : Session) (n : ℕ) (q : Point) → settled s ≡ true → settled_again (awaiting_at s n q) ≡ s
unfolding awaiting_at settled_again
settled-after s n q t = settled_same s t

-- ---- awaiting: predicted, or to be corrected again

keeps-awaiting : (s : Session) (n : ℕ) (q : Point) → KeepsRules s → PlacedPoint q → KeepsRules (awaiting_at s n q)
unfolding awaiting_at counts_hold
keeps-awaiting s n q h r =
    record {
      counts = h.counts;
      axes = λ k. ap (axis_holds s.points) (awaiting-axis s n q k) ∙ estimating-holds s.points (axis_of k s) (motion_on k q) (h.axes k) (placed_on q r k);
    }

pub predicted-holds : (s : Session) → settled s ≡ true → s.accepted < most_points → point_in_range (predicted_point s) ≡ true → awaiting (awaiting_at s 0 (predicted_point s)) ≡ true
unfolding awaiting_at
predicted-holds s t room r =
    let h = (holding s (settled-holds s t)).rules in
    let q = predicted_point s in
    awaiting-by (awaiting_at s 0 q) (keeps-awaiting s 0 q h (predicted-point-placed s r))
    (record { state = refl; corrections = (counts-are s h.counts).limit.0; estimate = λ e. estimate-awaiting s 0 q ∙ sym (predicted-awaiting s 0 q); accepted = room })

pub again-holds : (s : Session) (q : Point) → awaiting s ≡ true → s.corrections + 1 < s.limit → PlacedPoint q → awaiting (awaiting_at s (s.corrections + 1) q) ≡ true
unfolding awaiting_at
again-holds s q t more r =
    let n = s.corrections + 1 in
    awaiting-by (awaiting_at s n q) (keeps-awaiting s n q (holding s (awaiting-holds s t)).rules r)
    (record { state = refl; corrections = more; estimate = λ e. absurd (omega arith); accepted = (expecting s t).accepted })

-- ---- accepted

pub accepted-holds : (s : Session) (w : WholeSample) → awaiting s ≡ true → WithinLimit w → point_in_range (corrected_point s w) ≡ true → settled (accepted_at s w) ≡ true
unfolding accepted_at corrected_point estimate_of nowhere advanced_axis
accepted-holds s w t l r =
    let h = (holding s (awaiting-holds s t)).rules in
    let c = counts-are s h.counts in
    let small = on-each (λ k. nat_abs (ticks_on k w) ≤ largest) l.on-x l.on-y l.on-z in
    settled-by (accepted_at s w)
    (record {
      counts = counts-hold (accepted_at s w) (record { points = c.points; tolerances = c.tolerances; limit = c.limit; accepted = omega (arith, (expecting s t).accepted) });
      axes = λ k.
          ap (axis_holds s.points) (accepted-axis s w k)
          ∙ advanced-holds s.points c.points.1 (axis_of k s) (ticks_on k w) (h.axes k) (small k)
          (sym (ap in_range (corrected-on s w k)) ∙ (range-iff (corrected_point s w)).0 r k);
    })
    (record { state = refl; estimate = refl; corrections = refl })

-- ---- opened

pub opened-session-holds : (p : ℕ) (tolerances : Tolerances) (limit : ℕ) (q : Point) (xs ys zs : List ℤ) → points_hold p ≡ true → settings_hold tolerances limit ≡ true → PlacedPoint q → Small xs → Small ys → Small zs
    → settled (opened_session p tolerances limit q (places p xs) (places p ys) (places p zs)) ≡ true
unfolding opened_session estimate_of nowhere opened_axis
opened-session-holds p tolerances limit q xs ys zs a b r sx sy sz =
    let s = opened_session p tolerances limit q (places p xs) (places p ys) (places p zs) in
    let (t, l) = (settings-hold tolerances limit).0 b in
    settled-by s
    (record {
      counts = counts-hold s (record { points = (points-hold p).0 a; tolerances = t; limit = l; accepted = omega arith });
      axes = on-each _
          (opened-holds p q.x (places p xs) r.on-x (places-hold p xs sx))
          (opened-holds p q.y (places p ys) r.on-y (places-hold p ys sy))
          (opened-holds p q.z (places p zs) r.on-z (places-hold p zs sz));
    })
    (record { state = refl; estimate = refl; corrections = refl })

-- ---- closed

pub closed-fails : holds closed_session ≡ false
unfolding holds counts_hold points_hold closed_session
closed-fails = refl

abbrev zeros : Axis
zeros =
    let none : Motion = record { position = wholly (pos 0); velocity = wholly (pos 0) } in
    axis_with (wholly (pos 0)) (wholly (pos 0)) none (replicate 9 (pos 0)) none

pub closed-is-zero : closed_session ≡ record {
  state = Closed;
  points = 0;
  tolerances = record { position = 0; velocity = 0 };
  limit = 0;
  accepted = 0;
  corrections = 0;
  x = zeros;
  y = zeros;
  z = zeros;
}
unfolding closed_session empty_axis still motion_of exact_of
closed-is-zero = refl
