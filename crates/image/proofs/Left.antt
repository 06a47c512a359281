-- The records that the calls and the rounds leave have nine sample places on each axis, and stand.
use mathlib.Core.Path.{◌≡◌, ap, ◌∙◌}
use mathlib.Core.Bool.{true, ◌||◌, or-true}
use mathlib.Core.List.{List, ◌∷◌}
use Prim.Native.Nat.{ℕ, ◌+◌, ◌-◌, ◌≤◌, ◌<◌}
use native.Mathlib.Omega.{arith}
use lib.IntN.{ℤ, pos}
use lib.ListN.{length, take, replicate, length-append, length-take, length-replicate}
use Rattle.ticks.specs.declared.WholeSample.{WholeSample}
use Rattle.ticks.specs.Samples.{WithinLimit}
use Rattle.coefficients.specs.Formulas.{Small}
use Rattle.epoch_coefficients.specs.Formulas.{has_centre}
use Rattle.axis.specs.declared.Tolerances.{Tolerances}
use Rattle.axis.specs.Formulas.{places, kept_samples, advanced_axis, opened_axis}
use Rattle.axis.specs.Holding.{places_hold}
use Rattle.epoch_axis.specs.Formulas.{started_axis}
use Rattle.session.specs.declared.Point.{Point}
use Rattle.session.specs.declared.Session.{Session}
use Rattle.session.specs.Coordinates.{Coordinate, axis_of, ticks_on}
use Rattle.session.specs.Numbers.{points_hold, settings_hold, most_points}
use Rattle.session.specs.Moves.{predicted_point, corrected_point, point_in_range, settled_again, awaiting_at, accepted_at, opened_session}
use Rattle.session.specs.Holding.{holds, settled, awaiting}
use Rattle.session.specs.Ready.{PlacedPoint}
use Rattle.session.proofs.Coordinates.{on-each, settled-axis, awaiting-axis, accepted-axis}
use Rattle.session.proofs.Kept.{settled-again, predicted-holds, again-holds, accepted-holds, opened-session-holds}
use Rattle.epoch_session.specs.Rounds.{round_of, round_in_range}
use Rattle.epoch_session.specs.Records.{starting, starting_axis, starting_session, opened_round}
use Rattle.epoch_session.proofs.Kept.{WholeEpoch, starting-by, opened-settled}
use Rattle.image.specs.Standing.{stands}
use Rattle.image.specs.Shapes.{Shaped}

-- ---- nine places

-- p of them filled
pub nine-places : (p : ℕ) (xs : List ℤ) → p ≤ 9 → p ≤ length xs → length (places p xs) ≡ 9
nine-places p xs h l = omega (arith, length-append (take p xs) (replicate (9 - p) (pos 0)), length-take p xs, length-replicate (9 - p) (pos 0))

kept-nine : (p : ℕ) (x : ℤ) (xs : List ℤ) → p ≤ 9 → length xs ≡ 9 → length (kept_samples p x xs) ≡ 9
unfolding kept_samples
kept-nine p x xs h l = nine-places p (x ∷ xs) h (omega arith)

-- a record whose axes have the samples of one that is shaped
same-samples : (s t : Session) → ((k : Coordinate) → (axis_of k t).samples ≡ (axis_of k s).samples) → Shaped s → Shaped t
same-samples s t e h = record { places = λ k. ap length (e k) ∙ h.places k }

module _ (s : Session) (h : Shaped s) where
  pub settled-shaped : Shaped (settled_again s)
  settled-shaped = same-samples s (settled_again s) (λ k. ap (λ a. a.samples) (settled-axis s k)) h

  pub awaiting-shaped : (n : ℕ) (q : Point) → Shaped (awaiting_at s n q)
  awaiting-shaped n q = same-samples s (awaiting_at s n q) (λ k. ap (λ a. a.samples) (awaiting-axis s n q k)) h

  pub accepted-shaped : (w : WholeSample) → s.points ≤ 9 → Shaped (accepted_at s w)
  unfolding advanced_axis
  accepted-shaped w p =
      record { places = λ k. ap (λ a. length a.samples) (accepted-axis s w k) ∙ kept-nine s.points (ticks_on k w) (axis_of k s).samples p (h.places k) }

module _ (p : ℕ) (tolerances : Tolerances) (limit : ℕ) (q : Point) (xs ys zs : List ℤ) (x : length xs ≡ 9) (y : length ys ≡ 9) (z : length zs ≡ 9) where
  pub opened-shaped : Shaped (opened_session p tolerances limit q xs ys zs)
  unfolding opened_session opened_axis
  opened-shaped = record { places = on-each _ x y z }

  pub starting-shaped : (rounds : ℕ) → Shaped (starting_session p tolerances limit rounds q xs ys zs)
  unfolding starting_session starting_axis
  starting-shaped rounds = record { places = on-each _ x y z }

  pub round-shaped : Shaped (opened_round tolerances limit (round_of p q xs ys zs))
  unfolding opened_round round_of started_axis
  round-shaped = record { places = on-each _ x y z }

-- ---- they stand

module _ (s : Session) where
  pub settled-stands : settled s ≡ true → stands s ≡ true
  unfolding stands
  settled-stands t = ap (λ b. b || (awaiting s || starting s)) t

  pub awaiting-stands : awaiting s ≡ true → stands s ≡ true
  unfolding stands
  awaiting-stands t = ap (λ b. settled s || (b || starting s)) t ∙ or-true (settled s)

  pub starting-stands : starting s ≡ true → stands s ≡ true
  unfolding stands
  starting-stands t = ap (λ b. settled s || (awaiting s || b)) t ∙ ap (λ b. settled s || b) (or-true (awaiting s)) ∙ or-true (settled s)

-- withdrawn, or refused by 8
pub settled-again-stands : (s : Session) → holds s ≡ true → stands (settled_again s) ≡ true
settled-again-stands s t = settled-stands (settled_again s) (settled-again s t)

pub predicted-stands : (s : Session) → settled s ≡ true → s.accepted < most_points → point_in_range (predicted_point s) ≡ true
    → stands (awaiting_at s 0 (predicted_point s)) ≡ true
predicted-stands s t room r = awaiting-stands (awaiting_at s 0 (predicted_point s)) (predicted-holds s t room r)

pub again-stands : (s : Session) (q : Point) → awaiting s ≡ true → s.corrections + 1 < s.limit → PlacedPoint q
    → stands (awaiting_at s (s.corrections + 1) q) ≡ true
again-stands s q t more r = awaiting-stands (awaiting_at s (s.corrections + 1) q) (again-holds s q t more r)

pub accepted-stands : (s : Session) (w : WholeSample) → awaiting s ≡ true → WithinLimit w → point_in_range (corrected_point s w) ≡ true
    → stands (accepted_at s w) ≡ true
accepted-stands s w t l r = settled-stands (accepted_at s w) (accepted-holds s w t l r)

pub opened-stands : (p : ℕ) (tolerances : Tolerances) (limit : ℕ) (q : Point) (xs ys zs : List ℤ) → points_hold p ≡ true → settings_hold tolerances limit ≡ true
    → PlacedPoint q → Small xs → Small ys → Small zs → stands (opened_session p tolerances limit q (places p xs) (places p ys) (places p zs)) ≡ true
opened-stands p tolerances limit q xs ys zs a b r x y z =
    settled-stands (opened_session p tolerances limit q (places p xs) (places p ys) (places p zs)) (opened-session-holds p tolerances limit q xs ys zs a b r x y z)

module _ (p : ℕ) (tolerances : Tolerances) (limit : ℕ) (epoch : Point) (xs ys zs : List ℤ) (h : has_centre p ≡ true) (e : settings_hold tolerances limit ≡ true)
    (x : places_hold p xs ≡ true) (y : places_hold p ys ≡ true) (z : places_hold p zs ≡ true) (r : round_in_range (round_of p epoch xs ys zs) ≡ true) where
  pub started-stands : (rounds : ℕ) → rounds < limit → WholeEpoch epoch → stands (starting_session p tolerances limit rounds epoch xs ys zs) ≡ true
  started-stands rounds n q =
      starting-stands (starting_session p tolerances limit rounds epoch xs ys zs) (starting-by p tolerances limit rounds epoch xs ys zs h e n q x y z r)

  pub round-stands : PlacedPoint epoch → stands (opened_round tolerances limit (round_of p epoch xs ys zs)) ≡ true
  round-stands q = settled-stands (opened_round tolerances limit (round_of p epoch xs ys zs)) (opened-settled p tolerances limit epoch xs ys zs h e q x y z r)
