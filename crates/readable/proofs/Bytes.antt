-- The two times by the bytes of the data lines: a data line begins with its time, so no calendar is needed to compare them. By this examples are computed.
use mathlib.Core.Path.{◌≡◌, refl, sym, ◌∙◌, ap, ap₂}
use mathlib.Core.Bool.{Bool, true, false, cond}
use mathlib.Core.List.{List, [], ◌∷◌, ◌++◌, flatten, map}
use Prim.Native.Nat.{ℕ, ◌+◌}
use lib.ListN.{length, take, set}
use Rattle.calendar.specs.Text.{same_text}
use Rattle.message.specs.Message.{says, time_after}
use Rattle.message.specs.declared.Edition.{Edition}
use Rattle.received.specs.Lines.{lines_in}
use Rattle.received.specs.Slots.{Walked, Through, Stopped, walk}
use Rattle.received.specs.Profile.{slots}
use Rattle.received.specs.Data.{Point, line_of, point_in, points_in, kept_of, first_seconds, last_from, last_seconds}
use Rattle.received.specs.Reading.{Read, Reads, Stops, start_slot, stop_slot, data_slot, rest_at, number_at, unless, all_read, read_behind, read_by, read_lines, read_of}
use Rattle.received.specs.Mending.{Change, change, drops_from, time_change, Mend, Mends, Cannot, mend_with, mend_by, mend_of}
use Rattle.readable.proofs.Points.{time-first}
use Rattle.readable.proofs.Runs.{KeptAs, kept-points}
use Rattle.readable.proofs.Outcomes.{all-of-them}

-- ---- the first and the last of some lines

abbrev first_line : List (List ℕ) → List ℕ
first_line [] = []
first_line (line ∷ lines) = line

abbrev last_after : List ℕ → List (List ℕ) → List ℕ
last_after line [] = line
last_after line (next ∷ lines) = last_after next lines

abbrev pub first_time : List (List ℕ) → List ℕ
first_time lines = take 19 (first_line lines)

abbrev pub last_time : List (List ℕ) → List ℕ
last_time lines = take 19 (last_after [] lines)

last-after : (n : ℕ) (line : List ℕ) (points : List Point) → time_after n ≡ take 19 line → time_after (last_from n points) ≡ take 19 (last_after line (map line_of points))
unfolding last_from
last-after n line [] e = e
last-after n line (p ∷ points) e = last-after p.seconds (line_of p) points (sym (time-first p))

times-in : (p : Point) (points : List Point)
    → (time_after (first_seconds (p ∷ points)) ≡ first_time (map line_of (p ∷ points))) × (time_after (last_seconds (p ∷ points)) ≡ last_time (map line_of (p ∷ points)))
unfolding last_from
times-in p points = (sym (time-first p), last-after p.seconds (line_of p) points (sym (time-first p)))

-- ---- reading

abbrev pub behind_bytes : List (List (List ℕ)) → List (List ℕ) → List Point → Read
behind_bytes groups rest points =
    unless (all_read points rest) (number_at groups data_slot + length points)
    (unless (same_text (rest_at groups start_slot) (first_time rest)) (number_at groups start_slot)
    (unless (same_text (rest_at groups stop_slot) (last_time rest)) (number_at groups stop_slot)
    (Reads groups points)))

abbrev pub read_bytes : Walked → Read
read_bytes (Stopped lines) = Stops (length lines + 1)
read_bytes (Through groups rest) = behind_bytes groups rest (points_in 0 rest)

same-behind : (groups : List (List (List ℕ))) (rest : List (List ℕ)) (points : List Point) → rest ≡ map line_of points → read_behind groups rest points ≡ behind_bytes groups rest points
unfolding read_behind unless all_read
same-behind groups rest [] e = refl
same-behind groups rest (p ∷ points) e =
    let (first, last) = times-in p points in
    rw (first ∙ ap first_time (sym e), last ∙ ap last_time (sym e)) refl

same_read : (w : Walked) → read_by w ≡ read_bytes w
unfolding read_by read_behind unless
same_read (Stopped lines) = refl
same_read (Through groups rest) = by (all_read (points_in 0 rest) rest) refl
  where
    by : (t : Bool) → all_read (points_in 0 rest) rest ≡ t → read_behind groups rest (points_in 0 rest) ≡ behind_bytes groups rest (points_in 0 rest)
    by true t = same-behind groups rest (points_in 0 rest) (all-of-them rest t).1
    by false t = rw t refl

pub read-bytes : (e : Edition) (text : List ℕ) {r : Read} → read_bytes (walk (slots e) (lines_in text)) ≡ r → read_of e text ≡ r
unfolding read_of read_lines
read-bytes e text q = same_read (walk (slots e) (lines_in text)) ∙ q

-- ---- mending

abbrev change_bytes : List (List (List ℕ)) → ℕ → ℕ → List ℕ → List Change
change_bytes groups slot what time = cond (same_text (rest_at groups slot) time) [] (change (number_at groups slot) what ∷ [])

abbrev with_bytes : List (List (List ℕ)) → List (List ℕ) → List (List ℕ) → List ℕ → List ℕ → Mend
with_bytes groups rest kept first last =
    Mends
    (flatten (set (set groups start_slot (says "START_TIME" first ∷ [])) stop_slot (says "STOP_TIME" last ∷ [])) ++ kept)
    (change_bytes groups start_slot 2 first ++ (change_bytes groups stop_slot 3 last ++ drops_from (number_at groups data_slot) 0 rest))

abbrev pub some_bytes : List (List (List ℕ)) → List (List ℕ) → List (List ℕ) → Mend
some_bytes groups rest [] = Cannot
some_bytes groups rest (line ∷ lines) = with_bytes groups rest (line ∷ lines) (first_time (line ∷ lines)) (last_time (line ∷ lines))

abbrev pub mend_bytes : Walked → Mend
mend_bytes (Stopped lines) = Cannot
mend_bytes (Through groups rest) = some_bytes groups rest (kept_of 0 rest)

same_some : (groups : List (List (List ℕ))) (rest kept : List (List ℕ)) → KeptAs 0 kept (map point_in kept) → mend_with groups rest kept ≡ some_bytes groups rest kept
unfolding mend_with time_change
same_some groups rest [] k = refl
same_some groups rest (line ∷ lines) k =
    let (first, last) = times-in (point_in line) (map point_in lines) in
    ap₂ (with_bytes groups rest (line ∷ lines)) (first ∙ ap first_time (sym k.lines_are)) (last ∙ ap last_time (sym k.lines_are))

same-mend : (w : Walked) → mend_by w ≡ mend_bytes w
unfolding mend_by
same-mend (Stopped lines) = refl
same-mend (Through groups rest) = same_some groups rest (kept_of 0 rest) (kept-points 0 rest)

pub mend-bytes : (e : Edition) (text : List ℕ) {m : Mend} → mend_bytes (walk (slots e) (lines_in text)) ≡ m → mend_of e text ≡ m
unfolding mend_of
mend-bytes e text q = same-mend (walk (slots e) (lines_in text)) ∙ q
