-- The six values: the tests of each decide the statements, and where none is at fault the point is not.
use mathlib.Core.Path.{◌≡◌, refl, sym, ap, subst}
use mathlib.Core.Bool.{not}
use mathlib.Core.Logic.{inl, inr}
use mathlib.Core.List.{List, [], ◌∷◌}
use Prim.Native.Nat.{ℕ, ◌*◌, ◌≤◌, ◌<◌}
use native.Mathlib.Omega.{arith}
use borrow.Author.Tests.{leb-false, lt-leb}
use lib.Dec.{leb}
use lib.Ieee.{Float}
use Rattle.integers.specs.Tests.{not-true-iff}
use Rattle.rules.specs.Rules.{Decides}
use Rattle.rules.proofs.Readings.{decides, opposite, surely}
use Rattle.exact.specs.Numerator.{D, numerator, between}
use Rattle.exact.proofs.Laws.{part-below}
use Rattle.ticks.specs.declared.Sample.{Sample}
use Rattle.ticks.specs.Samples.{whole_of}
use Rattle.axis.specs.Kinds.{Kind, of_position, of_velocity, tolerance_of, range_of, value_of}
use Rattle.axis.specs.declared.Motion.{Motion}
use Rattle.axis.specs.Formulas.{motion_of, corrected_motion}
use Rattle.session.specs.declared.Session.{Session}
use Rattle.session.specs.Coordinates.{Coordinate, on_x, on_y, on_z, axis_of, ticks_on}
use Rattle.session.specs.Moves.{estimate_of}
use Rattle.session.specs.Values.{Value, value, value_at, size_at}
use Rattle.session.proofs.Coordinates.{on-each, corrected-on}
use Rattle.session.proofs.Values.{of-each}
use Rattle.demands.specs.Records.{per_tick, Between, InRange}
use Rattle.demands.specs.Refusals.{Some, NotANumber, Infinite, TooLarge, Within}
use Rattle.demands.proofs.Conditions as Conditions
use Rattle.demands.proofs.Ranges.{value-range}
use Rattle.reasons.specs.Reasons.{is_no_number, is_infinity, is_over_limit, is_out, is_over}
use Rattle.causes.specs.Causes.{corrected, in_order, reach, Out, tolerated, Over}
use Rattle.causes.proofs.Names.{Nowhere}

-- ---- floats

pub not-a-number : (x : Float) → Decides (is_no_number x) (NotANumber x)
not-a-number x = decides (Conditions.not-a-number x)

pub infinite : (x : Float) → Decides (is_infinity x) (Infinite x)
infinite x = decides (Conditions.infinite x)

pub too_large : (x : Float) → Decides (is_over_limit x) (TooLarge x)
too_large x = decides (Conditions.too_large x)

pub somewhere : (P : Float → Type 0) (xs : List Float) → Some P xs → ¬ Nowhere P xs
somewhere P [] h none = h
somewhere P (x ∷ xs) (inl h) none = none.0 h
somewhere P (x ∷ xs) (inr h) none = somewhere P xs h none.1

module _ (s : Session) (a : Sample) where
  -- ---- in range: every remainder is less than a tick

  remainder : (v : Value) → (value_at v (corrected s a)).part < D
  unfolding corrected_motion motion_of
  remainder v =
      subst (λ (m : Motion). (value_of v.kind m).part < D) (sym (corrected-on s (whole_of a) v.coordinate))
      (of-each (λ kind. (value_of kind (corrected_motion s.points (axis_of v.coordinate s) (ticks_on v.coordinate (whole_of a)))).part < D) (part-below _) (part-below _) v.kind)

  in-range : (v : Value) → Decides (between (range_of v.kind) (value_at v (corrected s a))) (Between (reach v.kind) (numerator (value_at v (corrected s a))))
  in-range v =
      of-each (λ kind. Decides (between (range_of kind) (value_at v (corrected s a))) (Between (reach kind) (numerator (value_at v (corrected s a)))))
      (value-range (reach of_position) (value_at v (corrected s a)) (remainder v)) (value-range (reach of_velocity) (value_at v (corrected s a)) (remainder v)) v.kind

  pub out : (v : Value) → Decides (is_out (corrected s a) v) (Out (corrected s a) v)
  out v = opposite (in-range v)

  pub all_in : Nowhere (Out (corrected s a)) in_order → InRange (corrected s a)
  all_in (x, (y, (z, (vx, (vy, (vz, _)))))) =
      record {
        position = on-each _ (surely (in-range (value of_position on_x)) x) (surely (in-range (value of_position on_y)) y) (surely (in-range (value of_position on_z)) z);
        velocity = on-each _ (surely (in-range (value of_velocity on_x)) vx) (surely (in-range (value of_velocity on_y)) vy) (surely (in-range (value of_velocity on_z)) vz);
      }

  -- ---- within the tolerances

  pub tolerance-is : (kind : Kind) → tolerance_of kind s.tolerances ≡ tolerated s kind
  tolerance-is = of-each (λ kind. tolerance_of kind s.tolerances ≡ tolerated s kind) refl refl

  more : (m n : ℕ) → Decides (not (leb n m)) (m < n)
  more m n = decides ((λ e. leb-false n m ((not-true-iff (leb n m)).0 e)), (λ h. ap not (lt-leb n m h)))

  pub over : (v : Value) → Decides (is_over s (corrected s a) v) (Over s a v)
  over v = subst (λ m. Decides (is_over s (corrected s a) v) (m * per_tick < size_at (corrected s a) (estimate_of s) v)) (tolerance-is v.kind) (more _ _)

  at_most : (m n : ℕ) → ¬ (m < n) → n ≤ m
  at_most m n h = omega (arith, h)

  pub all-within : Nowhere (Over s a) in_order → Within s (corrected s a)
  all-within (x, (y, (z, (vx, (vy, (vz, _)))))) =
      on-each _
      (at_most _ _ x, at_most _ _ vx)
      (at_most _ _ y, at_most _ _ vy)
      (at_most _ _ z, at_most _ _ vz)

  pub none_over : Within s (corrected s a) → Nowhere (Over s a) in_order
  none_over h = ((no on_x).0, ((no on_y).0, ((no on_z).0, ((no on_x).1, ((no on_y).1, ((no on_z).1, tt))))))
    where
      no : (k : Coordinate) → (¬ Over s a (value of_position k)) × (¬ Over s a (value of_velocity k))
      no k = (λ l. omega (arith, l, (h k).0), λ l. omega (arith, l, (h k).1))
