-- The records that rounds leave keep the rules: the one between rounds counts as starting, and the one that they open is settled at the newest point.
use mathlib.Core.Path.{◌≡◌, refl, sym, ap, ◌∙◌}
use mathlib.Core.Bool.{true}
use mathlib.Core.List.{List}
use Prim.Native.Nat.{ℕ, ◌<◌}
use native.Mathlib.Omega.{arith}
use borrow.Author.Tests.{eq-eqb}
use lib.IntN.{ℤ, pos}
use Rattle.integers.specs.Tests.{joined}
use Rattle.exact.specs.Numerator.{exact_of}
use Rattle.exact.proofs.Laws.{same_refl}
use Rattle.epoch_coefficients.specs.Formulas.{has_centre}
use Rattle.epoch_coefficients.proofs.Centre.{at-least-3, at-most-9}
use Rattle.axis.specs.declared.Motion.{Motion}
use Rattle.axis.specs.declared.Tolerances.{Tolerances}
use Rattle.axis.specs.Formulas.{still}
use Rattle.axis.specs.Estimates.{in_range}
use Rattle.axis.specs.Holding.{places_hold}
use Rattle.axis.proofs.Agreement.{motions-refl}
use Rattle.epoch_axis.specs.Formulas.{started_axis}
use Rattle.epoch_axis.proofs.Kept.{newest}
use Rattle.epoch_axis.proofs.Started.{started-holds}
use Rattle.session.specs.declared.Point.{Point}
use Rattle.session.specs.Numbers.{settings_hold}
use Rattle.session.specs.Moves.{nowhere, present_point, estimate_of, point_in_range}
use Rattle.session.specs.Holding.{settled}
use Rattle.session.specs.Ready.{PlacedPoint}
use Rattle.session.specs.Coordinates.{on_x, on_y, on_z}
use Rattle.session.proofs.Coordinates.{on-each}
use Rattle.session.proofs.Values.{range-iff}
use Rattle.session.proofs.Rules.{settings-hold, counts-hold, settled-by}
use Rattle.epoch_session.specs.declared.Round.{Round}
use Rattle.epoch_session.specs.Rounds.{round_of, earlier_point, round_in_range}
use Rattle.epoch_session.specs.Records.{held_round, sums_zero, older_zero, epoch_holds, axis_starts, starting, starting_axis, starting_session, opened_round}
use Rattle.epoch_session.proofs.Below.{every-at}
use Rattle.epoch_session.proofs.Rules.{by-rules}

-- ---- between rounds

-- an epoch that is whole and in range
pub record WholeEpoch (q : Point) : Type 0 where
  pub on-x : epoch_holds q.x ≡ true
  pub on-y : epoch_holds q.y ≡ true
  pub on-z : epoch_holds q.z ≡ true

pub whole-motion : (m : Motion) → m.position.part ≡ 0 → m.velocity.part ≡ 0 → in_range m ≡ true → epoch_holds m ≡ true
unfolding epoch_holds
whole-motion m p v r = simp joined (eq-eqb m.position.part 0 p, (eq-eqb m.velocity.part 0 v, r))

axis-starts : (p : ℕ) (m : Motion) (xs : List ℤ) → places_hold p xs ≡ true → epoch_holds m ≡ true → axis_starts p (starting_axis m xs) ≡ true
unfolding axis_starts starting_axis sums_zero
axis-starts p m xs x e = simp joined ((same_refl (exact_of (pos 0)), same_refl (exact_of (pos 0))), (x, e))

older-starts : (m : Motion) (xs : List ℤ) → older_zero (starting_axis m xs) ≡ true
unfolding older_zero starting_axis
older-starts m xs = motions-refl still

module _ (p : ℕ) (tolerances : Tolerances) (limit rounds : ℕ) (epoch : Point) (xs ys zs : List ℤ) where
  pub held-starting : held_round (starting_session p tolerances limit rounds epoch xs ys zs) ≡ round_of p epoch xs ys zs
  unfolding held_round starting_session starting_axis estimate_of
  held-starting = refl

  pub starting-by : has_centre p ≡ true → settings_hold tolerances limit ≡ true → rounds < limit → WholeEpoch epoch → places_hold p xs ≡ true → places_hold p ys ≡ true → places_hold p zs ≡ true
      → round_in_range (round_of p epoch xs ys zs) ≡ true → starting (starting_session p tolerances limit rounds epoch xs ys zs) ≡ true
  unfolding starting_session
  starting-by h e n q x y z r =
      by-rules (starting_session p tolerances limit rounds epoch xs ys zs)
      (record {
        state = refl;
        centred = h;
        settings = e;
        accepted = refl;
        rounds = n;
        older = on-each _ (older-starts epoch.x xs) (older-starts epoch.y ys) (older-starts epoch.z zs);
        on-x = axis-starts p epoch.x xs x q.on-x;
        on-y = axis-starts p epoch.y ys y q.on-y;
        on-z = axis-starts p epoch.z zs z q.on-z;
        points-range = ap round_in_range held-starting ∙ r;
      })

-- ---- opened

module _ (tolerances : Tolerances) (limit : ℕ) (r : Round) where
  -- at the newest point
  pub opened-present : present_point (opened_round tolerances limit r) ≡ earlier_point r 0
  unfolding present_point opened_round earlier_point
  opened-present = λ i. record { x = sym (newest r.points r.x) i; y = sym (newest r.points r.y) i; z = sym (newest r.points r.z) i }

newest-in-range : (r : Round) → has_centre r.points ≡ true → round_in_range r ≡ true → point_in_range (earlier_point r 0) ≡ true
unfolding round_in_range
newest-in-range r h t = every-at (λ j. point_in_range (earlier_point r j)) r.points 0 (omega (arith, at-least-3 h)) t

module _ (p : ℕ) (tolerances : Tolerances) (limit : ℕ) (epoch : Point) (xs ys zs : List ℤ) where
  pub opened-settled : has_centre p ≡ true → settings_hold tolerances limit ≡ true → PlacedPoint epoch → places_hold p xs ≡ true → places_hold p ys ≡ true → places_hold p zs ≡ true
      → round_in_range (round_of p epoch xs ys zs) ≡ true → settled (opened_round tolerances limit (round_of p epoch xs ys zs)) ≡ true
  unfolding opened_round round_of earlier_point estimate_of nowhere started_axis
  opened-settled h e q x y z t =
      let r = round_of p epoch xs ys zs in
      let s = opened_round tolerances limit r in
      let (m, l) = (settings-hold tolerances limit).0 e in
      let newest = (range-iff (earlier_point r 0)).0 (newest-in-range r h t) in
      settled-by s
      (record {
        counts = counts-hold s (record { points = (omega (arith, at-least-3 h), at-most-9 h); tolerances = m; limit = l; accepted = omega arith });
        axes = on-each _
            (started-holds p epoch.x xs h q.on-x x (newest on_x))
            (started-holds p epoch.y ys h q.on-y y (newest on_y))
            (started-holds p epoch.z zs h q.on-z z (newest on_z));
      })
      (record { state = refl; estimate = refl; corrections = refl })
