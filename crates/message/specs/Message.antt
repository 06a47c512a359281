-- The whole text of a message, line by line in the standard's order. Definitions only.
use Rattle.std.specs.Prelude.{ℕ, zero, suc, ◌+◌, ◌-◌, ◌*◌, cond, ltb, ℤ}
use Prim.Native.String.{String}
use mathlib.Core.List.{List, [], ◌∷◌, ◌++◌, flatten}
use Rattle.exact.specs.declared.Exact.{Exact}
use Rattle.text.specs.Numbers.{ascii}
use Rattle.calendar.specs.Calendar.{moment_of}
use Rattle.calendar.specs.Text.{time_text}
use Rattle.decimal.specs.Text.{position_text, velocity_text}
use Rattle.message.specs.declared.Edition.{Edition}
use Rattle.message.specs.declared.Edition.TheVariants.{Two}
use Rattle.message.specs.Editions.{version_of}
use Rattle.message.specs.Request.{Request, count_of, place, value_at, seconds_at, seconds_in}

-- ---- lines of the header and the metadata

-- KEYWORD = value
unfoldable pub entry : List ℕ → List ℕ → List (List ℕ)
entry keyword value = keyword ∷ ascii " = " ∷ value ∷ ascii "\n" ∷ []

abbrev pub says : String → List ℕ → List ℕ
says keyword value = flatten (entry (ascii keyword) value)

abbrev pub time_after : ℕ → List ℕ
time_after seconds = time_text (moment_of seconds)

-- ---- data lines

-- f 0, .., f (n - 1), one after the other
unfoldable pub texts : (ℕ → List ℕ) → ℕ → List ℕ
texts f zero = []
texts f (suc n) = texts f n ++ f n

-- value k of a point: x, y, z in kilometres with six decimals, then vx, vy, vz in kilometres per second with nine
unfoldable pub value_text : ℕ → ℕ → ℕ → Exact → List ℕ
value_text tick step k e = cond (ltb k 3) (position_text tick e) (velocity_text tick step e)

module _ (tick step : ℕ) (points : List ℤ) where
  -- value k of point i, after a space
  unfoldable pub field : ℕ → ℕ → List ℕ
  field i k = ascii " " ++ value_text tick step k (value_at points (place i k))

  -- the time of point i and its six values
  unfoldable pub line : ℕ → ℕ → List (List ℕ)
  line seconds i = time_after seconds ∷ texts (field i) 6 ∷ ascii "\n" ∷ []

  -- the line of point i, where point 0 stands at `first`
  unfoldable pub line_from : ℕ → ℕ → List ℕ
  line_from first i = flatten (line (first + i * step) i)

-- ---- the message

-- of an edition: only the version differs
abbrev pub lines_as : Edition → Request → List (List ℕ)
lines_as e r =
    says "CCSDS_OEM_VERS" (version_of e)
    ∷ says "CREATION_DATE" r.created
    ∷ says "ORIGINATOR" r.originator
    ∷ ascii "META_START\n"
    ∷ says "OBJECT_NAME" r.object
    ∷ says "OBJECT_ID" r.id
    ∷ says "CENTER_NAME" r.center
    ∷ says "REF_FRAME" r.frame
    ∷ says "TIME_SYSTEM" (ascii "TAI")
    ∷ says "START_TIME" (time_after (seconds_at r 0))
    ∷ says "STOP_TIME" (time_after (seconds_at r (count_of r.points - 1)))
    ∷ ascii "META_STOP\n"
    ∷ texts (line_from r.tick r.step r.points (seconds_in r.start)) (count_of r.points)
    ∷ []

unfoldable pub message_as : Edition → Request → List ℕ
message_as e r = flatten (lines_as e r)

-- of version 2.0
abbrev pub message : Request → List ℕ
message r = message_as Two r
