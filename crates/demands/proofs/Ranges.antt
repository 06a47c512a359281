-- The tests of the range decide its statement, in numerators: of a value, of a point, and of every point of a round.
use mathlib.Core.Path.{◌≡◌, refl, sym, subst}
use mathlib.Core.Logic.Iff
use mathlib.Core.Bool.{Bool, true}
use Prim.Native.Nat.{ℕ, zero, suc, ◌*◌, ◌^◌, ◌<◌}
use native.Mathlib.Omega.{arith}
use lib.Dec.{lit<}
use lib.IntN.{ℤ, pos}
use Rattle.integers.specs.Tests.{joined}
use Rattle.integers.specs.Parts.{integers, neg-parts}
use Rattle.exact.specs.declared.Exact.{Exact}
use Rattle.exact.specs.Numerator.{D, numerator, between}
use Rattle.exact.proofs.Laws.{numerator-parts, part-below}
use Rattle.ticks.specs.declared.WholeSample.{WholeSample}
use Rattle.axis.specs.declared.Motion.{Motion}
use Rattle.axis.specs.Formulas.{motion_of, present_motion, predicted_motion, corrected_motion}
use Rattle.axis.specs.Estimates.{in_range}
use Rattle.axis.specs.Ready.{Proper}
use Rattle.session.specs.declared.Point.{Point}
use Rattle.session.specs.declared.Session.{Session}
use Rattle.session.specs.declared.WholePoint.{WholePoint}
use Rattle.session.specs.Coordinates.{Coordinate, motion_on}
use Rattle.session.specs.Moves.{present_point, predicted_point, corrected_point, point_in_range}
use Rattle.session.specs.Requests.{exact_point}
use Rattle.session.proofs.Coordinates.{on-each, present-on, predicted-on, corrected-on}
use Rattle.session.proofs.Values.{range-iff}
use Rattle.rules.specs.Rules.{Decides}
use Rattle.rules.proofs.Readings.{decides, both}
use Rattle.epoch_axis.specs.Formulas.{earlier_motion}
use Rattle.epoch_session.specs.declared.Round.{Round}
use Rattle.epoch_session.specs.Rounds.{earlier_point, every_below, round_in_range}
use Rattle.epoch_session.proofs.Below.{every-at, every_more}
use Rattle.demands.specs.Records.{per_tick, Between, InRange, TrackInRange}

-- ---- values: the whole part is looked at, and the remainder is less than a tick

module _ (h : ℕ) (e : Exact) (p : e.part < D) where
  pub value-range : Decides (between h e) (Between h (numerator e))
  value-range = decides (to, from)
    where
      to : between h e ≡ true → Between h (numerator e)
      to t =
          let (l, u) = simp joined at t in
          (omega (integers, numerator-parts e, neg-parts (pos h), neg-parts (pos (h * per_tick))), omega (integers, numerator-parts e))

      from : Between h (numerator e) → between h e ≡ true
      from (l, u) =
          simp joined (omega (integers, numerator-parts e, neg-parts (pos h), neg-parts (pos (h * per_tick))), omega (integers, numerator-parts e))

-- ---- points

-- every remainder is less than a tick
abbrev pub ProperPoint : Point → Type 0
ProperPoint q = (k : Coordinate) → Proper (motion_on k q)

motion-range : (m : Motion) → Proper m → Decides (in_range m) (Between (2 ^ 52) (numerator m.position) × Between (2 ^ 40) (numerator m.velocity))
unfolding in_range
motion-range m p = both (value-range (2 ^ 52) m.position p.position) (value-range (2 ^ 40) m.velocity p.velocity)

pub range : (q : Point) → ProperPoint q → Decides (point_in_range q) (InRange q)
range q p =
    decides (Iff.trans (range-iff q) (
      (λ h. record { position = λ k. ((motion-range (motion_on k q) (p k)).yes.0 (h k)).0; velocity = λ k. ((motion-range (motion_on k q) (p k)).yes.0 (h k)).1 }),
      (λ h k. (motion-range (motion_on k q) (p k)).yes.1 (h.position k, h.velocity k)),
    ))

-- the points that are worked out, and whole ones
made : (x v : ℤ) → Proper (motion_of x v)
unfolding motion_of
made x v = record { position = part-below x; velocity = part-below v }

module _ (s : Session) where
  pub present-range : Decides (point_in_range (present_point s)) (InRange (present_point s))
  unfolding present_motion
  present-range = range (present_point s) (λ k. subst Proper (sym (present-on s k)) (made _ _))

  pub predicted-range : Decides (point_in_range (predicted_point s)) (InRange (predicted_point s))
  unfolding predicted_motion
  predicted-range = range (predicted_point s) (λ k. subst Proper (sym (predicted-on s k)) (made _ _))

  pub corrected-range : (w : WholeSample) → Decides (point_in_range (corrected_point s w)) (InRange (corrected_point s w))
  unfolding corrected_motion
  corrected-range w = range (corrected_point s w) (λ k. subst Proper (sym (corrected-on s w k)) (made _ _))

pub exact-range : (q : WholePoint) → Decides (point_in_range (exact_point q)) (InRange (exact_point q))
unfolding exact_point
exact-range q = range (exact_point q) (on-each _ whole whole whole)
  where
    whole : {x v : ℤ} → Proper (record { position = record { whole = x; part = 0 }; velocity = record { whole = v; part = 0 } })
    whole = record { position = lit< tt; velocity = lit< tt }

-- ---- every point of a round

every-all : (test : ℕ → Bool) (n : ℕ) → ((j : ℕ) → j < n → test j ≡ true) → every_below n test ≡ true
unfolding every_below
every-all test zero h = refl
every-all test (suc n) h = every_more test n (every-all test n (λ j l. h j (omega (arith, l)))) (h n (omega arith))

-- a test of each decides a condition on each
pub every : (test : ℕ → Bool) (A : ℕ → Type 0) → ((j : ℕ) → Decides (test j) (A j)) → (n : ℕ) → Decides (every_below n test) ((j : ℕ) → j < n → A j)
every test A d n =
    decides ((λ e j l. (d j).yes.0 (every-at test n j l e)), (λ h. every-all test n (λ j l. (d j).yes.1 (h j l))))

earlier-range : (r : Round) (j : ℕ) → Decides (point_in_range (earlier_point r j)) (InRange (earlier_point r j))
unfolding earlier_point earlier_motion
earlier-range r j = range (earlier_point r j) (on-each _ (made _ _) (made _ _) (made _ _))

pub track-range : (r : Round) → Decides (round_in_range r) (TrackInRange r)
unfolding round_in_range
track-range r = every (λ j. point_in_range (earlier_point r j)) (λ j. InRange (earlier_point r j)) (earlier-range r) r.points
