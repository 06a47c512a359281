-- A worked message in both editions, every character of it, and a request for each refusal.
-- The texts are `scripts/leap_day.oem` and `scripts/leap_day_newer.oem`, which the independent peer wrote.
use Rattle.std.specs.Prelude.{ℕ, true, ◌≡◌, refl, ltb, ℤ, pos, negsuc, length}
use Prim.Native.String.{String}
use Rattle.std.proofs.Common.{◌∙◌, ap₂}
use Rattle.std.proofs.Math.Path.{ap}
use mathlib.Core.List.{List, [], ◌∷◌, ◌++◌, flatten}
use Rattle.integers.specs.Lines.{Line, line as row, All}
use Rattle.integers.specs.Nearest.{nearest_of}
use Rattle.exact.specs.Numerator.{numerator}
use Rattle.rules.specs.Rules.{first_of}
use Rattle.text.specs.Numbers.{ascii, decimal, digits, last_digits}
use Rattle.calendar.specs.declared.Moment.{Moment}
use Rattle.calendar.specs.Calendar.{leap, lengths, days_of_month, sum_to, days_of_year, days_before_year, days_before_month, is_real, days_of, seconds_of}
use Rattle.calendar.specs.Text.{time_text, value_at as number_at, moment_in, same_text, time_in}
use Rattle.calendar.proofs.Moments.{tested_real, moment-again}
use Rattle.decimal.specs.Units.{position_units, velocity_units}
use Rattle.decimal.specs.Text.{fixed, fixed_text, digits_before, few_digits}
use Rattle.message.specs.declared.Edition.{Edition}
use Rattle.message.specs.declared.Edition.TheVariants.{Two, Three}
use Rattle.message.specs.Editions.{version_of}
use Rattle.message.specs.Request.{Request, request, count_of, value_at, seconds_in, seconds_at}
use Rattle.message.specs.Message.{entry, says, time_after, texts, value_text, field, line, line_from, message_as, message}
use Rattle.message.specs.Form.{has_between, all_between, one_case, name_holds}
use Rattle.message.specs.Refusals.{is_time, names_hold, settings_hold, ends_in_time, well_formed, all_of, exact_at, position_holds, velocity_holds, holds_as, value_holds, point_holds, points_hold, refusal}

-- a tick of 1/16 metre and a minute between points: values on both sides of a tie, on ties, below zero and next to it; the second point stands
-- in the leap day
abbrev points : List ℤ
points =
    pos 1 ∷ pos 0 ∷ negsuc 0 ∷ pos 0 ∷ pos 3 ∷ pos 0 ∷ pos 1 ∷ pos 0 ∷ negsuc 0 ∷ pos 0 ∷ pos 7000000 ∷ pos 0
    ∷ pos 109227571 ∷ pos 0 ∷ pos 109227573 ∷ pos 1 ∷ negsuc 0 ∷ pos 159667199 ∷ pos 0 ∷ pos 79833600 ∷ negsuc 999999 ∷ pos 1 ∷ pos 24 ∷ pos 0
    ∷ []

abbrev asked : Request
asked =
    request (ascii "DURUNGKILAT") (ascii "LOW ORBIT") (ascii "2026-001A") (ascii "EARTH") (ascii "EME2000")
    (ascii "0004-02-28T12:00:00") (ascii "0004-02-28T23:59:30") 4 60 points

-- the times of its two points

abbrev first_moment : Moment
first_moment = record { year = 4; month = 2; day = 28; hour = 23; minute = 59; second = 30 }

abbrev last_moment : Moment
last_moment = record { year = 4; month = 2; day = 29; hour = 0; minute = 0; second = 30 }

-- what both need is worked out by itself
module _ (m : Moment) (text : List ℕ) (n : ℕ) where
  told : is_real m ≡ true → time_text m ≡ text → n ≡ seconds_of m → time_after n ≡ text
  told real written e = ap time_after e ∙ ap time_text (moment-again m (tested_real m real)) ∙ written

first-time : time_after (seconds_at asked 0) ≡ ascii "0004-02-28T23:59:30"
unfolding leap lengths days_of_month sum_to days_of_year days_before_year days_before_month is_real days_of seconds_of last_digits time_text number_at moment_in same_text time_in ascii seconds_in seconds_at
first-time = told first_moment _ (seconds_at asked 0) refl refl refl

last-time : time_after (seconds_at asked 1) ≡ ascii "0004-02-29T00:00:30"
unfolding leap lengths days_of_month sum_to days_of_year days_before_year days_before_month is_real days_of seconds_of last_digits time_text number_at moment_in same_text time_in ascii seconds_in seconds_at
last-time = told last_moment _ (seconds_at asked 1) refl refl refl

-- the message with its two times left open
abbrev with_times : Edition → List ℕ → List ℕ → List ℕ
with_times e first last =
    flatten (
    says "CCSDS_OEM_VERS" (version_of e)
    ∷ says "CREATION_DATE" asked.created
    ∷ says "ORIGINATOR" asked.originator
    ∷ ascii "META_START\n"
    ∷ says "OBJECT_NAME" asked.object
    ∷ says "OBJECT_ID" asked.id
    ∷ says "CENTER_NAME" asked.center
    ∷ says "REF_FRAME" asked.frame
    ∷ says "TIME_SYSTEM" (ascii "TAI")
    ∷ says "START_TIME" first
    ∷ says "STOP_TIME" last
    ∷ ascii "META_STOP\n"
    ∷ ([] ++ flatten (first ∷ texts (field 4 60 points 0) 6 ∷ ascii "\n" ∷ []) ++ flatten (last ∷ texts (field 4 60 points 1) 6 ∷ ascii "\n" ∷ []))
    ∷ []
    )

in-times : (e : Edition) → message_as e asked ≡ with_times e (time_after (seconds_at asked 0)) (time_after (seconds_at asked 1))
unfolding message_as texts line_from line seconds_at count_of
in-times e = refl

-- every character behind the version line
abbrev rest : List ℕ
rest =
    ascii "CREATION_DATE = 0004-02-28T12:00:00\n"
    ++ ascii "ORIGINATOR = DURUNGKILAT\n"
    ++ ascii "META_START\n"
    ++ ascii "OBJECT_NAME = LOW ORBIT\n"
    ++ ascii "OBJECT_ID = 2026-001A\n"
    ++ ascii "CENTER_NAME = EARTH\n"
    ++ ascii "REF_FRAME = EME2000\n"
    ++ ascii "TIME_SYSTEM = TAI\n"
    ++ ascii "START_TIME = 0004-02-28T23:59:30\n"
    ++ ascii "STOP_TIME = 0004-02-29T00:00:30\n"
    ++ ascii "META_STOP\n"
    ++ ascii "0004-02-28T23:59:30 0.000062 -0.000062 0.000188 0.000001042 -0.000001042 7.291666667\n"
    ++ ascii "0004-02-29T00:00:30 6826.723188 6826.723313 0.000000 0.000000521 -1.041666667 0.000025000\n"

abbrev written_out : List ℕ
written_out = ascii "CCSDS_OEM_VERS = 2.0\n" ++ rest

abbrev written-out-3 : List ℕ
written-out-3 = ascii "CCSDS_OEM_VERS = 3.0\n" ++ rest

abbrev out_of : Edition → List ℕ
out_of Two = written_out
out_of Three = written-out-3

with-times : (e : Edition) → with_times e (ascii "0004-02-28T23:59:30") (ascii "0004-02-29T00:00:30") ≡ out_of e
unfolding position_units velocity_units nearest_of numerator fixed_text fixed last_digits decimal digits ascii flatten entry texts field value_text value_at
with-times Two = refl
with-times Three = refl

-- the whole message
written_as : (e : Edition) → message_as e asked ≡ out_of e
written_as e = in-times e ∙ ap₂ (with_times e) first-time last-time ∙ with-times e

pub as_written : message asked ≡ written_out
as_written = written_as Two

pub as-written-3 : message_as Three asked ≡ written-out-3
as-written-3 = written_as Three

-- ---- refusals

-- the request with another object, time of creation, start, tick, step and points
abbrev other : List ℕ → List ℕ → List ℕ → ℕ → ℕ → List ℤ → Request
other object created start tick step given = request asked.originator object asked.id asked.center asked.frame created start tick step given

abbrev named : String → Request
named object = other (ascii object) asked.created asked.start 4 60 points

abbrev timed : String → String → Request
timed created start = other asked.object (ascii created) (ascii start) 4 60 points

abbrev set : ℕ → ℕ → List ℤ → Request
set tick step given = other asked.object asked.created asked.start tick step given

-- eleven zeros behind the first number of a point
abbrev eleven : List ℤ
eleven = pos 0 ∷ pos 0 ∷ pos 0 ∷ pos 0 ∷ pos 0 ∷ pos 0 ∷ pos 0 ∷ pos 0 ∷ pos 0 ∷ pos 0 ∷ pos 0 ∷ []

-- a point of one velocity
abbrev moving : ℤ → ℤ → List ℤ
moving whole rest = pos 0 ∷ pos 0 ∷ pos 0 ∷ pos 0 ∷ pos 0 ∷ pos 0 ∷ pos 0 ∷ pos 0 ∷ pos 0 ∷ pos 0 ∷ whole ∷ rest ∷ []

abbrev refusals : List Line
refusals =
    -- a name with small letters beside capitals, none, a blank at either end, a tab, a byte past the printable ones
    row ℕ (refusal (named "Low ORBIT") 1000) 11
    ∷ row ℕ (refusal (named "") 1000) 11
    ∷ row ℕ (refusal (named " LOW ORBIT") 1000) 11
    ∷ row ℕ (refusal (named "LOW ORBIT ") 1000) 11
    ∷ row ℕ (refusal (other (9 ∷ []) asked.created asked.start 4 60 points) 1000) 11
    ∷ row ℕ (refusal (other (127 ∷ []) asked.created asked.start 4 60 points) 1000) 11
    -- times
    ∷ row ℕ (refusal (timed "0004-02-30T12:00:00" "0004-02-28T23:59:30") 1000) 11
    ∷ row ℕ (refusal (timed "0004-02-28T12:00:00" "0003-02-29T23:59:30") 1000) 11
    -- k 17, a step of 0 and of 3601, no points; also where the numbers fill no point
    ∷ row ℕ (refusal (set 17 60 points) 1000) 11
    ∷ row ℕ (refusal (set 4 0 points) 1000) 11
    ∷ row ℕ (refusal (set 4 3601 points) 1000) 11
    ∷ row ℕ (refusal (set 4 60 []) 1000) 11
    ∷ row ℕ (refusal (set 17 60 eleven) 1000) 11
    -- eleven numbers; remainders out of range; positions and velocities out of range, on either side
    ∷ row ℕ (refusal (set 4 60 eleven) 1000) 6
    ∷ row ℕ (refusal (set 4 60 (moving (pos 0) (pos 159667200))) 1000) 6
    ∷ row ℕ (refusal (set 4 60 (moving (pos 0) (negsuc 0))) 1000) 6
    ∷ row ℕ (refusal (set 16 60 (pos 4503599627370496 ∷ eleven)) 1000) 6
    ∷ row ℕ (refusal (set 16 60 (negsuc 4503599627370496 ∷ eleven)) 1000) 6
    ∷ row ℕ (refusal (set 16 60 (moving (pos 1099511627776) (pos 0))) 1000) 6
    ∷ row ℕ (refusal (set 16 60 (moving (negsuc 1099511627776) (pos 0))) 1000) 6
    -- a position of 10,000,000,000 kilometres, and just below; a velocity of 10,000,000 kilometres per second; with too little room as well
    ∷ row ℕ (refusal (set 0 60 (pos 10000000000000 ∷ eleven)) 0) 6
    ∷ row ℕ (refusal (set 0 1 (moving (pos 10000000000) (pos 0))) 0) 6
    ∷ []

pub as-refused : All refusals
unfolding position_units velocity_units nearest_of numerator decimal digits digits_before few_digits ascii leap lengths days_of_month sum_to days_of_year days_before_year days_before_month is_real days_of seconds_of last_digits time_text number_at moment_in same_text time_in seconds_in seconds_at count_of value_at has_between all_between one_case name_holds is_time names_hold settings_hold ends_in_time well_formed all_of exact_at position_holds velocity_holds holds_as value_holds point_holds points_hold first_of refusal
as-refused = (refl, (refl, (refl, (refl, (refl, (refl, (refl, (refl, (refl, (refl, (refl, (refl, (refl, (refl, (refl, (refl, (refl, (refl, (refl, (refl, (refl, (refl, tt))))))))))))))))))))))

-- room for every byte, and one byte less
module _ (room : ℕ) where
  by-room : refusal asked room ≡ first_of ((ltb room (length written_out), 12) ∷ [])
  unfolding position_units velocity_units nearest_of numerator decimal digits digits_before few_digits ascii leap lengths days_of_month sum_to days_of_year days_before_year days_before_month is_real days_of seconds_of last_digits time_text number_at moment_in same_text time_in seconds_in seconds_at count_of value_at has_between all_between one_case name_holds is_time names_hold settings_hold ends_in_time well_formed all_of exact_at position_holds velocity_holds holds_as value_holds point_holds points_hold first_of refusal
  by-room = ap (λ text. first_of ((ltb room (length text), 12) ∷ [])) as_written

pub room-enough : (refusal asked 447 ≡ 0) × (refusal asked 446 ≡ 12)
unfolding first_of ascii
room-enough = (by-room 447, by-room 446)
