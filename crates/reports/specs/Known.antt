-- What is known of a text that was read: its six values stand where their lines do and are short, each point has six numbers, and the text
-- is long enough for so many.
use Rattle.std.specs.Prelude.{◌≡◌, refl, Bool, true, false, ℕ, suc, ◌+◌, ◌*◌, ◌≤◌, length}
use Rattle.std.proofs.Common.{sym, ◌∙◌, ap, arith, length-append, leb-true}
use mathlib.Core.List.{List, [], ◌∷◌, ◌++◌, flatten}
use Rattle.integers.specs.Tests.{joined}
use Rattle.text.specs.Numbers.{ascii}
use Rattle.calendar.specs.Text.{same_text}
use Rattle.message.specs.declared.Edition.{Edition}
use Rattle.message.specs.Message.{time_after}
use Rattle.message.specs.Form.{name_holds, fits}
use Rattle.message.specs.Refusals.{is_time}
use Rattle.received.specs.Lines.{lines_in}
use Rattle.received.specs.Slots.{Walked, Through, Stopped, walk, FillAll}
use Rattle.received.specs.Profile.{saying, slots}
use Rattle.received.specs.Data.{Point, datum_in, first_ones, point_in, accepts, points_in, first_seconds, last_seconds}
use Rattle.received.specs.Reading.{start_slot, stop_slot, data_slot, rest_at, number_at, Read, Reads, Stops, unless, all_read, read_behind, read_by, read_lines, read_of}
use Rattle.reports.specs.Rooms.{Six}
use Rattle.reports.specs.DataLines.{time-long, few-points}
use Rattle.reports.specs.Heads.{lines-text, flatten-append, Splits, splits, Filled, filled, Standing, standing}

pub record Found (text : List ℕ) (groups : List (List (List ℕ))) : Type 0 where
  pub created : Standing text groups 3
  pub originator : Standing text groups 4
  pub object : Standing text groups 8
  pub id : Standing text groups 9
  pub center : Standing text groups 10
  pub frame : Standing text groups 11

-- and there is no point for which the text is too short
pub record OfMessage (text : List ℕ) (groups : List (List (List ℕ))) (points : List Point) : Type 0 where
  pub found : Found text groups
  pub six : Six points
  pub few : 83 * length points ≤ length text

abbrev pub Known : List ℕ → Read → Type 0
Known text (Stops line) = Unit {0}
Known text (Reads groups points) = OfMessage text groups points

-- ---- values are short

name-short : (keyword : ℕ) (name : List ℕ) → name_holds keyword name ≡ true → length name ≤ 254
unfolding name_holds
name-short keyword name h = let (a, (b, c)) = simp joined at h in omega (arith, leb-true (keyword + 3 + length name) 254 b)

time-short : (s : List ℕ) → is_time s ≡ true → length s ≤ 254
time-short s h = omega (arith, time-long s h)

found : (e : Edition) (text : List ℕ) (groups : List (List (List ℕ))) (rest : List (List ℕ)) → Splits (Through groups rest) (lines_in text) → FillAll (slots e) groups
    → Found text groups
found e text groups rest s h =
    record {
      created = standing e text groups rest s h 3 (saying "CREATION_DATE" is_time) (omega arith) refl refl time-short;
      originator = standing e text groups rest s h 4 (saying "ORIGINATOR" (fits "ORIGINATOR")) (omega arith) refl refl (name-short (length (ascii "ORIGINATOR")));
      object = standing e text groups rest s h 8 (saying "OBJECT_NAME" (fits "OBJECT_NAME")) (omega arith) refl refl (name-short (length (ascii "OBJECT_NAME")));
      id = standing e text groups rest s h 9 (saying "OBJECT_ID" (fits "OBJECT_ID")) (omega arith) refl refl (name-short (length (ascii "OBJECT_ID")));
      center = standing e text groups rest s h 10 (saying "CENTER_NAME" (fits "CENTER_NAME")) (omega arith) refl refl (name-short (length (ascii "CENTER_NAME")));
      frame = standing e text groups rest s h 11 (saying "REF_FRAME" (fits "REF_FRAME")) (omega arith) refl refl (name-short (length (ascii "REF_FRAME")));
    }

-- ---- points have six values

six-values : (line : List ℕ) → length (point_in line).values ≡ 6
unfolding datum_in first_ones
six-values line = refl

six-in : (earliest : ℕ) (lines : List (List ℕ)) → Six (points_in earliest lines)
unfolding points_in
six-in earliest [] = tt
six-in earliest (line ∷ lines) = by (accepts earliest (datum_in line)) (six-in (suc (datum_in line).seconds) lines)
  where
    by : (t : Bool) → Six (points_in (suc (datum_in line).seconds) lines)
        → Six (elim t as (λ _. List Point) [ true ↦ point_in line ∷ points_in (suc (datum_in line).seconds) lines | false ↦ [] ])
    by true h = (six-values line, h)
    by false h = tt

-- ---- the data lines are part of the text

few : (text : List ℕ) (groups : List (List (List ℕ))) (rest : List (List ℕ)) → flatten groups ++ rest ≡ lines_in text
    → 83 * length (points_in 0 rest) ≤ length text
few text groups rest s =
    omega (
      arith,
      few-points 0 rest,
      ap length (sym (lines-text text) ∙ ap flatten (sym s) ∙ flatten-append (flatten groups) rest),
      length-append (flatten (flatten groups)) (flatten rest),
    )

-- ---- whatever is read

unless-known : (text : List ℕ) (t : Bool) (line : ℕ) (r : Read) → Known text r → Known text (unless t line r)
unfolding unless
unless-known text true line r k = k
unless-known text false line r k = tt

known_by : (e : Edition) (text : List ℕ) (w : Walked) → Splits w (lines_in text) → Filled (slots e) w → Known text (read_by w)
unfolding read_by read_behind
known_by e text (Stopped lines) s h = tt
known_by e text (Through groups rest) s h =
    let points = points_in 0 rest in
    let start = same_text (rest_at groups start_slot) (time_after (first_seconds points)) in
    let stop = same_text (rest_at groups stop_slot) (time_after (last_seconds points)) in
    let last = unless stop (number_at groups stop_slot) (Reads groups points) in
    unless-known text (all_read points rest) (number_at groups data_slot + length points) (unless start (number_at groups start_slot) last)
    (unless-known text start (number_at groups start_slot) last
    (unless-known text stop (number_at groups stop_slot) (Reads groups points)
    (record { found = found e text groups rest s h; six = six-in 0 rest; few = few text groups rest s })))

pub known : (e : Edition) (text : List ℕ) → Known text (read_of e text)
unfolding read_of read_lines
known e text = known_by e text (walk (slots e) (lines_in text)) (splits (slots e) (lines_in text)) (filled (slots e) (lines_in text))
