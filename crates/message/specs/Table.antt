-- The refusals once more, as a table of statements in the paper's order: every number is written out, and no test stands for a statement. Definitions only.
use Rattle.std.specs.Prelude.{◌≡◌, ◌⊎◌, List, [], ◌∷◌, ◌++◌, ℕ, ◌+◌, ◌-◌, ◌*◌, ◌/◌, ◌^◌, ◌≤◌, ◌<◌, ℤ, pos, neg_ℤ, nat_abs, length, get_or, ◌≤ℤ◌, ◌<ℤ◌}
use Prim.Native.String.{String}
use Rattle.rules.specs.Rules.{Rule, rule}
use Rattle.text.specs.Numbers.{ascii, decimal}
use Rattle.calendar.specs.declared.Moment.{Moment}
use Rattle.calendar.specs.Calendar.{Within, Real, seconds_of}
use Rattle.calendar.specs.Text.{time_text}
use Rattle.decimal.specs.Units.{position_units, velocity_units}
use Rattle.message.specs.Request.{Request, value_at, seconds_at}
use Rattle.message.specs.Message.{message}

-- ---- names and times

abbrev pub Every : (ℕ → Type 0) → List ℕ → Type 0
Every P [] = Unit {0}
Every P (b ∷ s) = P b × Every P s

abbrev pub Some : (ℕ → Type 0) → List ℕ → Type 0
Some P [] = ⊥
Some P (b ∷ s) = P b ⊎ Some P s

-- a name that may stand behind its keyword: printable, without a blank at either end, in a line of at most 254 characters,
-- and not with capitals beside small letters
pub record Name (keyword : String) (name : List ℕ) : Type 0 where
  pub some : 1 ≤ length name
  pub line : length (ascii keyword ++ (ascii " = " ++ name)) ≤ 254
  pub printable : Every (Within 32 126) name
  pub begins : ¬ (get_or name 0 0 ≡ 32)
  pub ends : ¬ (get_or name (length name - 1) 0 ≡ 32)
  pub letters : ¬ (Some (Within 65 90) name × Some (Within 97 122) name)

-- the text of a moment of the calendar
pub record Time (s : List ℕ) : Type 0 where
  pub moment : Moment
  pub real : Real moment
  pub text : s ≡ time_text moment

abbrev pub last_moment : Moment
last_moment = record { year = 9999; month = 12; day = 31; hour = 23; minute = 59; second = 59 }

pub record Formed (r : Request) : Type 0 where
  pub originator : Name "ORIGINATOR" r.originator
  pub object : Name "OBJECT_NAME" r.object
  pub id : Name "OBJECT_ID" r.id
  pub center : Name "CENTER_NAME" r.center
  pub frame : Name "REF_FRAME" r.frame
  pub created : Time r.created
  pub start : Time r.start
  pub tick : r.tick ≤ 16
  pub step : Within 1 3600 r.step
  pub some : ¬ (length r.points ≡ 0)
  -- no point is later than the last moment
  pub times : (i : ℕ) → 12 * i + 12 ≤ length r.points → seconds_at r i ≤ seconds_of last_moment

-- ---- points

-- value k of point i, by its whole and its remainder
abbrev pub whole_at : List ℤ → ℕ → ℕ → ℤ
whole_at points i k = get_or points (12 * i + 2 * k) (pos 0)

abbrev pub rest_at : List ℤ → ℕ → ℕ → ℤ
rest_at points i k = get_or points (12 * i + 2 * k + 1) (pos 0)

abbrev pub Between : ℕ → ℤ → Type 0
Between h n = (neg_ℤ (pos h) ≤ℤ n) × (n <ℤ pos h)

pub record Points (tick step : ℕ) (points : List ℤ) : Type 0 where
  -- twelve numbers to each
  pub twelve : length points ≡ 12 * (length points / 12)
  pub remainders : (i k : ℕ) → i < length points / 12 → k < 6 → (pos 0 ≤ℤ rest_at points i k) × (rest_at points i k <ℤ pos 159667200)
  pub positions : (i k : ℕ) → i < length points / 12 → k < 3 → Between (2 ^ 52) (whole_at points i k)
  pub velocities : (i k : ℕ) → i < length points / 12 → 3 ≤ k → k < 6 → Between (2 ^ 40) (whole_at points i k)
  -- 16 digits: ten before the six decimals of a position, seven before the nine of a velocity
  pub ten : (i k : ℕ) → i < length points / 12 → k < 3
      → length (decimal (nat_abs (position_units tick (value_at points (12 * i + 2 * k))) / 10 ^ 6)) ≤ 10
  pub seven : (i k : ℕ) → i < length points / 12 → 3 ≤ k → k < 6
      → length (decimal (nat_abs (velocity_units tick step (value_at points (12 * i + 2 * k))) / 10 ^ 9)) ≤ 7

-- ---- the table

abbrev pub table : Request → ℕ → List Rule
table r room =
    rule 11 (¬ Formed r)
    ∷ rule 6 (¬ Points r.tick r.step r.points)
    ∷ rule 12 (room < length (message r))
    ∷ []
