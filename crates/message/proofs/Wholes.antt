-- Laws of a whole request and of its message: what it is to be well formed, how long the text is, and its parts.
use Rattle.std.specs.Prelude.{Option, Some, None, is_some}
use mathlib.Core.Path.{◌≡◌, refl, sym, ◌∙◌, ap, ap₂}
use mathlib.Core.Bool.{true, false, and-eq-true_iff}
use mathlib.Core.List.{List, [], ◌∷◌, ◌++◌, flatten, append-nil, append_assoc}
use Prim.Native.Nat.{ℕ, ◌+◌, ◌-◌, ◌*◌, ◌/◌, ◌%◌, ◌^◌, ◌≤◌, ◌<◌}
use native.Mathlib.Nat.{mul-le-mul_left}
use native.Mathlib.Omega.{arith}
use lib.Dec.{eqb}
use lib.IntN.{ℤ}
use lib.ListN.{length, length-append}
use borrow.Author.Tests.{leb-true, ne_eqb, eq-eqb}
use Rattle.integers.specs.Tests.{◌and◌, joined, fails, clash}
use Rattle.text.specs.Numbers.{ascii}
use Rattle.text.proofs.Pieces.{length-flatten}
use Rattle.calendar.specs.Calendar.{most_seconds, moment_of}
use Rattle.calendar.specs.Text.{time_in, time_text}
use Rattle.calendar.proofs.Back.{time-exactly, text-long}
use Rattle.message.specs.declared.Edition.{Edition}
use Rattle.message.specs.declared.Edition.TheVariants.{Two}
use Rattle.message.specs.Editions.{version_of}
use Rattle.message.specs.Request.{Request, count_of, seconds_in, seconds_at}
use Rattle.message.specs.Message.{entry, texts, line_from, lines_as, message_as, message}
use Rattle.message.specs.Parts.{header_lines, name_lines, time_lines}
use Rattle.message.specs.Form.{name_holds}
use Rattle.message.specs.Refusals.{is_time, names_hold, settings_hold, ends_in_time, well_formed, all_of, point_holds, points_hold}
use Rattle.message.specs.Measures.{data_length}
use Rattle.message.proofs.Runs.{as_long, texts-room}
use Rattle.message.proofs.Formed.{settings}
use Rattle.message.proofs.Values.{length-line, fails-at, holds_at}

-- ---- well formed

pub record Well (r : Request) : Type 0 where
  pub names : names_hold r.originator r.object r.id r.center r.frame ≡ true
  pub created : is_time r.created ≡ true
  pub start : is_time r.start ≡ true
  pub settings : settings_hold r.tick r.step ≡ true
  pub some : eqb (length r.points) 0 ≡ false
  pub ends : ends_in_time r ≡ true

pub well : (r : Request) → well_formed r ≡ true → Well r
unfolding well_formed
well r h =
    let (a, (b, (c, (d, (e, f))))) = simp joined at h in
    record { names = a; created = b; start = c; settings = d; some = e; ends = f }

name-short : (keyword : ℕ) (name : List ℕ) → name_holds keyword name ≡ true → length name ≤ 251
unfolding name_holds
name-short keyword name h =
    let (_, (b, _)) = simp joined at h in
    omega (arith, leb-true (keyword + 3 + length name) 254 b)

pub record Short (r : Request) : Type 0 where
  pub originator : length r.originator ≤ 251
  pub object : length r.object ≤ 251
  pub id : length r.id ≤ 251
  pub center : length r.center ≤ 251
  pub frame : length r.frame ≤ 251

pub short : (r : Request) → Well r → Short r
unfolding names_hold
short r w =
    let (a, (b, (c, (d, e)))) = simp joined at w.names in
    record {
      originator = name-short (length (ascii "ORIGINATOR")) r.originator a;
      object = name-short (length (ascii "OBJECT_NAME")) r.object b;
      id = name-short (length (ascii "OBJECT_ID")) r.id c;
      center = name-short (length (ascii "CENTER_NAME")) r.center d;
      frame = name-short (length (ascii "REF_FRAME")) r.frame e;
    }

time-long-by : (s : List ℕ) (t : Option ℕ) → time_in s ≡ t → is_some t ≡ true → length s ≡ 19
time-long-by s (Some n) e h = ap length ((time-exactly s n).0 e).1 ∙ text-long (moment_of n)
time-long-by s None e h = clash h refl

pub time-long : (s : List ℕ) → is_time s ≡ true → length s ≡ 19
unfolding is_time
time-long s h = time-long-by s (time_in s) refl h

-- the last point's time
pub last-time : (r : Request) → Well r → seconds_in r.start + (length r.points / 12 - 1) * r.step ≤ most_seconds
unfolding ends_in_time seconds_at count_of
last-time r w = leb-true (seconds_in r.start + (length r.points / 12 - 1) * r.step) most_seconds w.ends

-- and so there are not too many
pub points-few : (r : Request) → Well r → length r.points ≤ 2 ^ 48
points-few r w =
    let n = length r.points / 12 - 1 in
    let s = settings w.settings in
    omega (arith, last-time r w, mul-le-mul_left {m = 1} {n = r.step} n s.1)

-- ---- how long

length-says : (keyword value : List ℕ) → length (flatten (entry keyword value)) ≡ length keyword + 4 + length value
unfolding entry ascii
length-says keyword value = omega (arith, length-flatten (entry keyword value))

pub message-long : (r : Request) → Well r
    → length (message r)
    ≡ 231 + (length r.originator + length r.object + length r.id + length r.center + length r.frame)
    + length (texts (line_from r.tick r.step r.points 0) (count_of r.points))
unfolding message_as ascii
message-long r w =
    let f = line_from r.tick r.step r.points in
    let alike = as_long (f (seconds_in r.start)) (f 0)
    (λ i. length-line r.tick r.step r.points i (seconds_in r.start) ∙ sym (length-line r.tick r.step r.points i 0))
    (count_of r.points) in
    omega (
      arith,
      length-flatten (lines_as Two r),
      length-says (ascii "CCSDS_OEM_VERS") (version_of Two),
      length-says (ascii "CREATION_DATE") r.created,
      length-says (ascii "ORIGINATOR") r.originator,
      length-says (ascii "OBJECT_NAME") r.object,
      length-says (ascii "OBJECT_ID") r.id,
      length-says (ascii "CENTER_NAME") r.center,
      length-says (ascii "REF_FRAME") r.frame,
      length-says (ascii "TIME_SYSTEM") (ascii "TAI"),
      length-says (ascii "START_TIME") (time_text (moment_of (seconds_at r 0))),
      length-says (ascii "STOP_TIME") (time_text (moment_of (seconds_at r (count_of r.points - 1)))),
      text-long (moment_of (seconds_at r 0)),
      text-long (moment_of (seconds_at r (count_of r.points - 1))),
      time-long r.created w.created,
      alike,
    )

-- ---- parts

flatten-append : (xs ys : List (List ℕ)) → flatten (xs ++ ys) ≡ flatten xs ++ flatten ys
unfolding flatten
flatten-append [] ys = refl
flatten-append (x ∷ xs) ys = ap (λ t. x ++ t) (flatten-append xs ys) ∙ sym (append_assoc x (flatten xs) (flatten ys))

pub in_parts : (e : Edition) (r : Request)
    → message_as e r
    ≡ flatten (header_lines e r.created r.originator)
    ++ (flatten (name_lines r.object r.id r.center r.frame)
    ++ (flatten (time_lines (seconds_at r 0) (seconds_at r (count_of r.points - 1)))
    ++ texts (line_from r.tick r.step r.points (seconds_in r.start)) (count_of r.points)))
unfolding message_as header_lines name_lines time_lines flatten
in_parts e r =
    let header = header_lines e r.created r.originator in
    let names = name_lines r.object r.id r.center r.frame in
    let times = time_lines (seconds_at r 0) (seconds_at r (count_of r.points - 1)) in
    let points = texts (line_from r.tick r.step r.points (seconds_in r.start)) (count_of r.points) in
    flatten-append header (names ++ (times ++ (points ∷ [])))
    ∙ ap (λ t. flatten header ++ t)
    (flatten-append names (times ++ (points ∷ []))
    ∙ ap (λ t. flatten names ++ t) (flatten-append times (points ∷ []) ∙ ap (λ t. flatten times ++ t) (append-nil points)))

-- how long the parts are
pub parts-long : (e : Edition) (r : Request)
    → length (message_as e r)
    ≡ length (flatten (header_lines e r.created r.originator))
    + (length (flatten (name_lines r.object r.id r.center r.frame))
    + (length (flatten (time_lines (seconds_at r 0) (seconds_at r (count_of r.points - 1))))
    + length (texts (line_from r.tick r.step r.points (seconds_in r.start)) (count_of r.points))))
parts-long e r =
    let header = flatten (header_lines e r.created r.originator) in
    let names = flatten (name_lines r.object r.id r.center r.frame) in
    let times = flatten (time_lines (seconds_at r 0) (seconds_at r (count_of r.points - 1))) in
    let points = texts (line_from r.tick r.step r.points (seconds_in r.start)) (count_of r.points) in
    omega (
      arith,
      ap length (in_parts e r),
      length-append header (names ++ (times ++ points)),
      length-append names (times ++ points),
      length-append times points,
    )

-- the times of the first and the last point, as they are worked out
pub times-are : (r : Request) {first last : ℕ} → first ≡ seconds_in r.start → last ≡ length r.points / 12 - 1
    → time_lines first (first + last * r.step) ≡ time_lines (seconds_at r 0) (seconds_at r (count_of r.points - 1))
unfolding seconds_at count_of
times-are r e l =
    let z : seconds_in r.start ≡ seconds_in r.start + 0 * r.step = omega arith in
    ap₂ time_lines (e ∙ z) (ap₂ (λ f n. f + n * r.step) e l)

-- ---- points

module _ (tick step : ℕ) (points : List ℤ) where
  pub points-odd : (length points % 12 ≡ 0 → ⊥) → points_hold tick step points ≡ false
  unfolding points_hold
  points-odd h = rw (ne_eqb (length points % 12) 0 h)

  pub points-even : length points % 12 ≡ 0 → all_of (point_holds tick step points) (count_of points) ≡ true → points_hold tick step points ≡ true
  unfolding points_hold
  points-even e h = rw (eq-eqb (length points % 12) 0 e, h)

  pub points-out : all_of (point_holds tick step points) (count_of points) ≡ false → points_hold tick step points ≡ false
  unfolding points_hold
  points-out h =
      fails (eqb (length points % 12) 0 and all_of (point_holds tick step points) (count_of points))
      (λ e. clash ((and-eq-true_iff (eqb (length points % 12) 0) (all_of (point_holds tick step points) (count_of points))).0 e).1 h)

  pub all_hold : points_hold tick step points ≡ true → all_of (point_holds tick step points) (count_of points) ≡ true
  unfolding points_hold
  all_hold h = ((and-eq-true_iff (eqb (length points % 12) 0) (all_of (point_holds tick step points) (count_of points))).0 h).1

  -- some whole point has a line
  some-line : (length points ≡ 0 → ⊥) → length points % 12 ≡ 0 → 0 < length (texts (line_from tick step points 0) (count_of points))
  unfolding count_of
  some-line z e =
      let f = line_from tick step points 0 in
      omega (arith, texts-room f 0 (length points / 12) (omega (arith, z)), length-line tick step points 0 0)

  module _ {n : ℕ} (m : n ≡ data_length tick step points) (e : length points % 12 ≡ 0) where
    pub data-none : (length points ≡ 0 → ⊥) → n ≡ 0 → points_hold tick step points ≡ false
    unfolding data_length
    data-none z o =
        points-out
        (fails-at (all_of (point_holds tick step points) (count_of points)) (texts (line_from tick step points 0) (count_of points)) m (some-line z e) o)

    pub data-long : (n ≡ 0 → ⊥) → (points_hold tick step points ≡ true) × (n ≡ length (texts (line_from tick step points 0) (count_of points)))
    unfolding data_length
    data-long o =
        let (t, l) = holds_at (all_of (point_holds tick step points) (count_of points)) (texts (line_from tick step points 0) (count_of points)) m o in
        (points-even e t, l)
