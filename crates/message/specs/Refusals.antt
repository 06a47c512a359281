-- Which number refuses a request, as tests in their order: 11, 6, 12. Definitions only.
use Rattle.std.specs.Prelude.{is_some, ℕ, zero, suc, ◌+◌, ◌-◌, ◌%◌, ◌^◌, Bool, true, not, cond, List, [], ◌∷◌, leb, ltb, eqb, ℤ, pos, length, get_or}
use Rattle.std.specs.Int.Signed.{le_z, lt_z}
use Rattle.integers.specs.Tests.{◌and◌}
use Rattle.rules.specs.Rules.{first_of}
use Rattle.exact.specs.declared.Exact.{Exact}
use Rattle.exact.specs.Numerator.{D, between}
use Rattle.calendar.specs.Calendar.{most_seconds}
use Rattle.calendar.specs.Text.{time_in}
use Rattle.decimal.specs.Units.{position_units, velocity_units}
use Rattle.decimal.specs.Text.{position_fits, velocity_fits}
use Rattle.message.specs.Request.{Request, count_of, place, value_at, seconds_at}
use Rattle.message.specs.Form.{fits}
use Rattle.message.specs.Message.{message}

-- ---- 11: names, times, tick and step, and some point

unfoldable pub is_time : List ℕ → Bool
is_time s = is_some (time_in s)

unfoldable pub names_hold : List ℕ → List ℕ → List ℕ → List ℕ → List ℕ → Bool
names_hold originator object id center frame =
    fits "ORIGINATOR" originator
    and fits "OBJECT_NAME" object
    and fits "OBJECT_ID" id
    and fits "CENTER_NAME" center
    and fits "REF_FRAME" frame

unfoldable pub settings_hold : ℕ → ℕ → Bool
settings_hold tick step = leb tick 16 and leb 1 step and leb step 3600

-- the last point is not after the year 9999
unfoldable pub ends_in_time : Request → Bool
ends_in_time r = leb (seconds_at r (count_of r.points - 1)) most_seconds

unfoldable pub well_formed : Request → Bool
well_formed r =
    names_hold r.originator r.object r.id r.center r.frame
    and is_time r.created
    and is_time r.start
    and settings_hold r.tick r.step
    and not (eqb (length r.points) 0)
    and ends_in_time r

-- ---- 6: the numbers make whole points, of exact values in range that have at most 16 digits

-- of 0 to n - 1
unfoldable pub all_of : (ℕ → Bool) → ℕ → Bool
all_of f zero = true
all_of f (suc n) = all_of f n and f n

-- the remainder is from 0 to D - 1
unfoldable pub exact_at : List ℤ → ℕ → Bool
exact_at points at = le_z (pos 0) (get_or points (at + 1) (pos 0)) and lt_z (get_or points (at + 1) (pos 0)) (pos D)

unfoldable pub position_holds : ℕ → Exact → Bool
position_holds tick e = between (2 ^ 52) e and position_fits (position_units tick e)

unfoldable pub velocity_holds : ℕ → ℕ → Exact → Bool
velocity_holds tick step e = between (2 ^ 40) e and velocity_fits (velocity_units tick step e)

-- value k of a point, where x, y, z stand before vx, vy, vz
unfoldable pub holds_as : ℕ → ℕ → ℕ → Exact → Bool
holds_as tick step k e = cond (ltb k 3) (position_holds tick e) (velocity_holds tick step e)

module _ (tick step : ℕ) (points : List ℤ) where
  unfoldable pub value_holds : ℕ → ℕ → Bool
  value_holds i k = exact_at points (place i k) and holds_as tick step k (value_at points (place i k))

  unfoldable pub point_holds : ℕ → Bool
  point_holds i = all_of (value_holds i) 6

unfoldable pub points_hold : ℕ → ℕ → List ℤ → Bool
points_hold tick step points = eqb (length points % 12) 0 and all_of (point_holds tick step points) (count_of points)

-- ---- the rules: a message of either edition is as long as that of version 2.0, so 12 is one rule (`as_long` in Laws)

abbrev pub rules : Request → ℕ → List (Bool × ℕ)
rules r room =
    (not (well_formed r), 11)
    ∷ (not (points_hold r.tick r.step r.points), 6)
    ∷ (ltb room (length (message r)), 12)
    ∷ []

unfoldable pub refusal : Request → ℕ → ℕ
refusal r room = first_of (rules r room)
