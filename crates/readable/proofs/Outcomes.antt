-- What becomes of lines: their walk stops, or it goes through the head of a message, and then the data lines are read.
use mathlib.Core.Path.{◌≡◌, refl, sym, ◌∙◌, ap, subst}
use mathlib.Core.Bool.{Bool, true, false}
use mathlib.Core.List.{List, [], ◌∷◌, ◌++◌, flatten, map, append-nil}
use Prim.Native.Nat.{ℕ, ◌+◌, ◌/◌, ◌%◌, ◌<◌}
use native.Mathlib.Omega.{arith}
use lib.ListN.{length, get_or, length-append, length-map}
use borrow.Author.Tests.{lt-ltb, ltb-true, eq-eqb, eqb-true}
use Rattle.integers.specs.Tests.{joined, fails}
use Rattle.text.specs.Numbers.{ascii, last_digits}
use Rattle.calendar.specs.Calendar.{moment_of}
use Rattle.calendar.specs.Text.{same_text, time_text}
use Rattle.message.specs.Message.{entry, says, time_after}
use Rattle.message.specs.declared.Edition.{Edition}
use Rattle.received.specs.Slots.{Form, has_front, is_of, FillAll, Walked, Through, Stopped, walk}
use Rattle.received.specs.Profile.{saying, text_behind, comment_form, has_more, slots}
use Rattle.received.specs.Data.{Point, data_line, line_of, points_in, first_seconds, last_seconds}
use Rattle.received.specs.Messages.{Every, IsPoint, Rising, Holds, ButForTimes}
use Rattle.received.specs.Reading.{Read, Reads, Stops, start_slot, stop_slot, data_slot, number_at, unless, all_read, read_behind, read_by, read_lines}
use Rattle.readable.proofs.Forms.{form_of, groups-fill, fill-groups}
use Rattle.readable.proofs.Walks.{Past, Done, Clear, goes_through, Halts, Means, walk-means}
use Rattle.readable.proofs.Runs.{runs, all-points}
use Rattle.readable.proofs.Heads.{Parts, message_of, parts_of, head_from, parts, rests, head-is, start-found, stop-found}

-- ---- no line of a message is of the form of the comments before it

first-digit : (p : Point) → (n : ℕ) × (get_or (line_of p) 0 0 ≡ 48 + n % 10)
unfolding data_line flatten time_text last_digits
first-digit p = ((moment_of p.seconds).year / 10 / 10 / 10, refl)

pub data-no-comment : (p : Point) → is_of comment_form (line_of p) ≡ false
unfolding ascii
data-no-comment p =
    fails (is_of comment_form (line_of p))
    (λ t.
    let (e, _) = form_of comment_form (line_of p) t in
    let (n, d) = first-digit p in
    omega (arith, ap (λ l. get_or l 0 0) e, d))

pub past_points : (points : List Point) → Past comment_form (map line_of points)
past_points [] = tt
past_points (p ∷ points) = data-no-comment p

created-no-comment : (value : List ℕ) → is_of comment_form (says "CREATION_DATE" value) ≡ false
unfolding is_of has_front same_text entry flatten ascii
created-no-comment value = refl

object-no-comment : (value : List ℕ) → is_of comment_form (says "OBJECT_NAME" value) ≡ false
unfolding is_of has_front same_text entry flatten ascii
object-no-comment value = refl

class-no-comment : (value : List ℕ) → is_of comment_form (says "CLASSIFICATION" value) ≡ false
unfolding is_of has_front same_text entry flatten ascii
class-no-comment value = refl

class-past : (values : List (List ℕ)) (line : List ℕ) (more rest : List (List ℕ)) → is_of comment_form line ≡ false
    → Past comment_form ((map (says "CLASSIFICATION") values ++ (line ∷ more)) ++ rest)
class-past [] line more rest h = h
class-past (value ∷ values) line more rest h = class-no-comment value

-- ---- nor of the form of a line that is left out before it

created-no-class : (value : List ℕ) → is_of (saying "CLASSIFICATION" (text_behind "CLASSIFICATION")) (says "CREATION_DATE" value) ≡ false
unfolding is_of has_front same_text entry flatten ascii
created-no-class value = refl

start-no-id : is_of (saying "MESSAGE_ID" (text_behind "MESSAGE_ID")) (ascii "META_START\n") ≡ false
unfolding is_of has_front same_text ascii
start-no-id = refl

done-by : (may : Bool) (f : Form) (group : List (List ℕ)) (line : List ℕ) (lines : List (List ℕ)) → is_of f line ≡ false → Done may f group (line ∷ lines)
done-by false f group line lines h = tt
done-by true f [] line lines h = h
done-by true f (g ∷ group) line lines h = tt

pub clear-head-of : {e : Edition} (p : Parts e) (rest : List (List ℕ)) → Past comment_form rest → Clear (slots e) (head_from p) rest
unfolding flatten
clear-head-of {e} p rest h = (
  class-past p.classification.0 _ _ rest (created-no-comment p.created.0),
  (
    done-by (has_more e) _ (map (says "CLASSIFICATION") p.classification.0) _ _ (created-no-class p.created.0),
    (done-by (has_more e) _ (map (says "MESSAGE_ID") p.identifier.0) _ _ start-no-id, (object-no-comment p.object.0, (h, tt))),
  ),
)

-- ---- points that a message may have

pub record Good (points : List Point) : Type 0 where
  pub some : 0 < length points
  pub are-points : Every IsPoint points
  pub rising : Rising 0 points

pub holds_of : {e : Edition} (p : Parts e) (points : List Point) → Good points → Holds e (message_of p points)
holds_of p points g =
    record {
      on_message = p.on_message.1;
      classification = p.classification.1;
      created = p.created.1;
      originator = p.originator.1;
      identifier = p.identifier.1;
      on_object = p.on_object.1;
      object = p.object.1;
      id = p.id.1;
      center = p.center.1;
      frame = p.frame.1;
      on_data = p.on_data.1;
      some = g.some;
      points = g.are-points;
      rising = g.rising;
    }

abbrev pub lines_from : {e : Edition} → Parts e → List Point → List (List ℕ)
lines_from p points = flatten (head_from p) ++ map line_of points

-- lines that are readable but for the two times, by their parts
pub record But (e : Edition) (lines : List (List ℕ)) : Type 0 where
  pub head : Parts e
  pub points : List Point
  pub good : Good points
  pub lines_are : lines ≡ lines_from head points

abbrev pub but-to : {e : Edition} (lines : List (List ℕ)) → ButForTimes e lines → But e lines
but-to lines b =
    let h = b.holds in
    record {
      head = parts_of b.message h b.start b.stop b.start-holds b.stop-holds;
      points = b.message.points;
      good = record { some = h.some; are-points = h.points; rising = h.rising };
      lines_are = b.lines_are;
    }

abbrev pub but-from : {e : Edition} (lines : List (List ℕ)) → But e lines → ButForTimes e lines
but-from lines b =
    record {
      message = message_of b.head b.points;
      start = b.head.start.0;
      stop = b.head.stop.0;
      holds = holds_of b.head b.points b.good;
      start-holds = b.head.start.1;
      stop-holds = b.head.stop.1;
      lines_are = b.lines_are;
    }

-- ---- walks over them

pub head-fills : {e : Edition} (p : Parts e) → FillAll (slots e) (head_from p)
head-fills {e} p = subst (FillAll (slots e)) (head-is e (rests p)) (groups-fill (slots e) (rests p))

pub walk-head : {e : Edition} (p : Parts e) (rest : List (List ℕ)) → Clear (slots e) (head_from p) rest → walk (slots e) (flatten (head_from p) ++ rest) ≡ Through (head_from p) rest
walk-head {e} p rest c = goes_through (slots e) (head_from p) rest (head-fills p) c

pub walk-but : {e : Edition} (lines : List (List ℕ)) (b : But e lines) → walk (slots e) lines ≡ Through (head_from b.head) (map line_of b.points)
walk-but {e} lines b =
    ap (walk (slots e)) b.lines_are
    ∙ walk-head b.head (map line_of b.points) (clear-head-of b.head (map line_of b.points) (past_points b.points))

pub data Outcome (e : Edition) (lines : List (List ℕ)) : Type 0 where
  halts : (before : List (List ℕ)) → walk (slots e) lines ≡ Stopped before → Halts (slots e) lines before → Outcome e lines
  goes : (p : Parts e) (rest : List (List ℕ)) → walk (slots e) lines ≡ Through (head_from p) rest → lines ≡ flatten (head_from p) ++ rest
      → Clear (slots e) (head_from p) rest → Outcome e lines

pub outcome : (e : Edition) (lines : List (List ℕ)) → Outcome e lines
outcome e lines = by (walk (slots e) lines) refl (walk-means (slots e) lines)
  where
    by : (w : Walked) → walk (slots e) lines ≡ w → Means (slots e) lines w → Outcome e lines
    by (Through groups rest) w m =
        let (h, q) = fill-groups (slots e) groups m.fills in
        let g : groups ≡ head_from {e = e} (parts {e = e} h) = q ∙ head-is e h in
        goes (parts h) rest (w ∙ ap (λ x. Through x rest) g) (m.lines_are ∙ ap (λ x. flatten x ++ rest) g) (subst (λ x. Clear (slots e) x rest) g m.clear)
    by (Stopped before) w m = halts before w m

-- ---- the data lines behind a head

none_left : (xs : List (List ℕ)) → length xs ≡ 0 → xs ≡ []
none_left [] e = refl
none_left (x ∷ xs) e = absurd (omega (arith, e))

-- every line is read exactly where they are the lines of points that a message may have
pub all-of-them : (rest : List (List ℕ)) → all_read (points_in 0 rest) rest ≡ true → Good (points_in 0 rest) × (rest ≡ map line_of (points_in 0 rest))
unfolding all_read
all-of-them rest h =
    let points = points_in 0 rest in
    let (some, all) = simp joined at h in
    let r = runs 0 rest in
    let n : length r.rest ≡ 0 =
    omega (arith, eqb-true (length points) (length rest) all, ap length r.lines_are, length-append (map line_of points) r.rest, length-map points line_of) in (
      record { some = ltb-true 0 (length points) some; are-points = r.are-points; rising = r.rising },
      r.lines_are ∙ ap (λ x. map line_of points ++ x) (none_left r.rest n) ∙ append-nil (map line_of points),
    )

pub all-of-good : (points : List Point) → Good points → all_read points (map line_of points) ≡ true
unfolding all_read
all-of-good points g =
    simp joined (lt-ltb 0 (length points) g.some, eq-eqb (length points) (length (map line_of points)) (sym (length-map points line_of)))

-- ---- what is read

-- the two times, tested in this order
abbrev pub tested : {e : Edition} → Parts e → List Point → Read
tested p points =
    unless (same_text p.start.0 (time_after (first_seconds points))) (number_at (head_from p) start_slot)
    (unless (same_text p.stop.0 (time_after (last_seconds points))) (number_at (head_from p) stop_slot)
    (Reads (head_from p) points))

times-last : {e : Edition} (p : Parts e) (rest : List (List ℕ)) (points : List Point) → all_read points rest ≡ true → read_behind (head_from p) rest points ≡ tested p points
unfolding read_behind unless
times-last p rest points h = rw (h, start-found p, stop-found p)

pub read-but : {e : Edition} (lines : List (List ℕ)) (b : But e lines) → read_lines e lines ≡ tested b.head b.points
unfolding read_lines read_by
read-but lines b =
    let rest = map line_of b.points in
    ap read_by (walk-but lines b)
    ∙ ap (read_behind (head_from b.head) rest) (all-points 0 b.points b.good.are-points b.good.rising)
    ∙ times-last b.head rest b.points (all-of-good b.points b.good)

-- or it stops behind a head, at the first data line that is not read
pub data Behind {e : Edition} (p : Parts e) (rest : List (List ℕ)) : Type 0 where
  all_read_lem : all_read (points_in 0 rest) rest ≡ true → Behind p rest
  not-all : all_read (points_in 0 rest) rest ≡ false → read_behind (head_from p) rest (points_in 0 rest) ≡ Stops (number_at (head_from p) data_slot + length (points_in 0 rest))
      → Behind p rest

pub behind-head : {e : Edition} (p : Parts e) (rest : List (List ℕ)) → Behind p rest
unfolding read_behind unless
behind-head p rest = by (all_read (points_in 0 rest) rest) refl
  where
    by : (t : Bool) → all_read (points_in 0 rest) rest ≡ t → Behind p rest
    by true e = all_read_lem e
    by false e = not-all e (rw e)
