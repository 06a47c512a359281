-- The tests of a request decide the statements of the table, rule by rule: so its number is that of the first rule that applies.
use mathlib.Core.Path.{◌≡◌, refl}
use mathlib.Core.Bool.{Bool, true, false}
use mathlib.Core.List.{List}
use Prim.Native.Nat.{ℕ, zero, suc, ◌+◌, ◌/◌, ◌%◌, ◌^◌, ◌≤◌, ◌<◌}
use native.Mathlib.Omega.{arith}
use borrow.Author.Tests.{leb-true, le-leb, eqb-true, eq-eqb, ltb-true, ltb-false, lt-ltb, le-ltb}
use lib.Dec.{ltb}
use lib.IntN.{ℤ, nat_abs}
use lib.ListN.{length}
use Rattle.integers.specs.Tests.{joined}
use Rattle.integers.specs.Parts.{integers}
use Rattle.rules.specs.Rules.{Decided, First, Exactly}
use Rattle.rules.proofs.Readings.{decides, opposite, none_left, by_itself, first-decided, first-exactly}
use Rattle.text.specs.Numbers.{decimal}
use Rattle.decimal.specs.Units.{position_units, velocity_units}
use Rattle.decimal.specs.Text.{digits_before, few_digits}
use Rattle.message.specs.Request.{Request, count_of, place, value_at}
use Rattle.message.specs.Message.{message}
use Rattle.message.specs.Refusals.{all_of, exact_at, position_holds, velocity_holds, holds_as, value_holds, point_holds, points_hold, rules, refusal}
use Rattle.message.specs.Table.{Points, table}
use Rattle.message.proofs.Runs.{all-at}
use Rattle.message.proofs.TableForms.{formed-decided}

-- ---- a value

-- so many digits before the point, and the decimals after it, are at most 16
few-to : (places most : ℕ) (n : ℤ) → most + places ≡ 16 → few_digits places n ≡ true → length (decimal (nat_abs n / 10 ^ places)) ≤ most
unfolding few_digits digits_before
few-to places most n s h = omega (arith, s, leb-true (length (decimal (nat_abs n / 10 ^ places)) + places) 16 h)

few-from : (places most : ℕ) (n : ℤ) → most + places ≡ 16 → length (decimal (nat_abs n / 10 ^ places)) ≤ most → few_digits places n ≡ true
unfolding few_digits digits_before
few-from places most n s h = le-leb (length (decimal (nat_abs n / 10 ^ places)) + places) 16 (omega (arith, s, h))

-- every test of 0 to n - 1 passes
all_from : (f : ℕ → Bool) (n : ℕ) → ((i : ℕ) → i < n → f i ≡ true) → all_of f n ≡ true
unfolding all_of
all_from f zero h = refl
all_from f (suc n) h = simp joined (all_from f n (λ i l. h i (omega arith)), h n (omega arith))

-- ---- points

module _ (tick step : ℕ) (points : List ℤ) where
  value-at : points_hold tick step points ≡ true → (i k : ℕ) → i < length points / 12 → k < 6 → value_holds tick step points i k ≡ true
  unfolding points_hold count_of point_holds
  value-at h i k l m =
      let (_, each) = simp joined at h in
      all-at (value_holds tick step points i) 6 k (all-at (point_holds tick step points) (length points / 12) i each l) m

  exact-at : points_hold tick step points ≡ true → (i k : ℕ) → i < length points / 12 → k < 6 → exact_at points (place i k) ≡ true
  unfolding value_holds
  exact-at h i k l m = let (e, _) = simp joined at (value-at h i k l m) in e

  position_at : points_hold tick step points ≡ true → (i k : ℕ) → i < length points / 12 → k < 3 → position_holds tick (value_at points (place i k)) ≡ true
  unfolding value_holds holds_as
  position_at h i k l m = let (_, p) = simp joined at (value-at h i k l (omega (arith, m))) in rw (lt-ltb k 3 m) at p

  velocity-at : points_hold tick step points ≡ true → (i k : ℕ) → i < length points / 12 → 3 ≤ k → k < 6
      → velocity_holds tick step (value_at points (place i k)) ≡ true
  unfolding value_holds holds_as
  velocity-at h i k l n m = let (_, v) = simp joined at (value-at h i k l m) in rw (le-ltb k 3 n) at v

  points_to : points_hold tick step points ≡ true → Points tick step points
  unfolding points_hold exact_at position_holds velocity_holds value_at
  points_to h =
      record {
        twelve = let (t, _) = simp joined at h in omega (arith, eqb-true (length points % 12) 0 t);
        remainders = λ i k l m. let (a, b) = simp joined at (exact-at h i k l m) in (omega integers, omega integers);
        positions = λ i k l m. let ((a, b), _) = simp joined at (position_at h i k l m) in (omega integers, omega integers);
        velocities = λ i k l n m. let ((a, b), _) = simp joined at (velocity-at h i k l n m) in (omega integers, omega integers);
        ten = λ i k l m. let (_, d) = simp joined at (position_at h i k l m) in few-to 6 10 (position_units tick (value_at points (place i k))) refl d;
        seven = λ i k l n m. let (_, d) = simp joined at (velocity-at h i k l n m) in few-to 9 7 (velocity_units tick step (value_at points (place i k))) refl d;
      }

  value-by : Points tick step points → (i k : ℕ) → i < length points / 12 → k < 6 → (t : Bool) → ltb k 3 ≡ t → value_holds tick step points i k ≡ true
  unfolding value_holds holds_as exact_at position_holds velocity_holds value_at
  value-by p i k l m true t =
      let u = ltb-true k 3 t in
      let (a, b) = p.remainders i k l m in
      let (d, e) = p.positions i k l u in
      rw t (simp joined ((omega integers, omega integers), ((omega integers, omega integers), few-from 6 10 (position_units tick (value_at points (place i k))) refl (p.ten i k l u))))
  value-by p i k l m false t =
      let u = ltb-false k 3 t in
      let (a, b) = p.remainders i k l m in
      let (d, e) = p.velocities i k l u m in
      rw t (simp joined ((omega integers, omega integers), ((omega integers, omega integers), few-from 9 7 (velocity_units tick step (value_at points (place i k))) refl (p.seven i k l u m))))

  points-from : Points tick step points → points_hold tick step points ≡ true
  unfolding points_hold count_of point_holds
  points-from p =
      simp joined (
        eq-eqb (length points % 12) 0 (omega (arith, p.twelve)),
        all_from (point_holds tick step points) (length points / 12)
            (λ i l. all_from (value_holds tick step points i) 6 (λ k m. value-by p i k l m (ltb k 3) refl)),
      )

-- ---- the table

table-decided : (r : Request) (room : ℕ) → Decided (rules r room) (table r room)
table-decided r room =
    by_itself (opposite (formed-decided r))
    (by_itself (opposite (decides (points_to r.tick r.step r.points, points-from r.tick r.step r.points)))
    (by_itself (decides (ltb-true room (length (message r)), lt-ltb room (length (message r))))
    none_left))

-- the number of the first rule that applies; and each number exactly when its rule applies and none before it does
pub refused-by : (r : Request) (room : ℕ) → First (table r room) (refusal r room) × Exactly (table r room) (refusal r room)
unfolding refusal
refused-by r room =
    let first = first-decided (table-decided r room) in
    (first, first-exactly (table r room) (refusal r room) refl first)
