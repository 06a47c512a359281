-- What is printed of what the reader answers: it has room, and where the rooms held every point it is what the definition of reading gives.
use Rattle.std.proofs.Math.Path.{◌≡◌, ap, ap₂}
use Rattle.std.specs.Prelude.{refl, Bool, cond, ℕ, suc, ◌+◌, ◌*◌, ◌≤◌, ℤ, drop}
use Rattle.std.proofs.Common.{sym, ◌∙◌, subst, arith, leb-true, le-leb}
use Rattle.std.proofs.Math.Bool.{true, false}
use mathlib.Core.List.{List, [], ◌∷◌, ◌++◌, append-nil, append_assoc, flatten}
use Rattle.std.proofs.Math.ListN.{length, length-append}
use Rattle.integers.specs.Tests.{joined}
use Rattle.message.specs.declared.Edition.{Edition}
use Rattle.received.specs.Versions.{is_other, edition_in}
use Rattle.received.specs.declared.Received.{Received}
use Rattle.received.specs.Data.{Point}
use Rattle.received.specs.Reading.{rest_at, Read, Reads, Stops, read_of}
use Rattle.received.specs.Answer.{nowhere, refused_by, place_at, received, has_room, seconds_of, values_of, answer_by, epochs_by, values_by, answer_to, epochs_after, values_after}
use Rattle.reports.specs.Reports.{Within, AllWithin, part_of, sender_lines, object_lines, sender_in, object_in, names_in, points_text}
use Rattle.reports.specs.Reports.{refused_line, report_of, report_for, report_by, read_as, read_text}
use Rattle.reports.specs.Rooms.{Six, points-back}
use Rattle.reports.specs.Lengths.{AllShort, report-short}
use Rattle.reports.specs.Heads.{value-at, value-within, value-short}
use Rattle.reports.specs.Known.{Known, known}

-- ---- what is needed to print

pub record Printable (text : List ℕ) (r : Received) (epochs : List ℕ) (values : List ℤ) : Type 0 where
  pub within : AllWithin text r
  pub short : AllShort r
  pub in-epochs : r.count ≤ length epochs
  pub in-values : 6 * r.count ≤ length values

nowhere-within : (text : List ℕ) → Within text nowhere
nowhere-within text = record { ends = omega arith }

refused-printable : (text : List ℕ) (number line : ℕ) (epochs : List ℕ) (values : List ℤ) → Printable text (refused_by number line) epochs values
refused-printable text number line epochs values =
    record {
      within = record {
        created = nowhere-within text;
        originator = nowhere-within text;
        object = nowhere-within text;
        id = nowhere-within text;
        center = nowhere-within text;
        frame = nowhere-within text;
      };
      short = record { created = omega arith; originator = omega arith; object = omega arith; id = omega arith; center = omega arith; frame = omega arith };
      in-epochs = omega arith;
      in-values = omega arith;
    }

length-seconds : (points : List Point) → length (seconds_of points) ≡ length points
length-seconds [] = refl
length-seconds (p ∷ points) = ap suc (length-seconds points)

length-values : (points : List Point) → Six points → length (values_of points) ≡ 6 * length points
unfolding flatten
length-values [] six = refl
length-values (p ∷ points) (s, six) = omega (arith, length-append p.values (values_of points), s, length-values points six)

module _ (text : List ℕ) (groups : List (List (List ℕ))) (points : List Point) (k : Known text (Reads groups points)) (epochs : List ℕ) (values : List ℤ) where
  received-printable : Printable text (received groups (length points)) (seconds_of points ++ drop (length points) epochs) (values_of points ++ drop (6 * length points) values)
  unfolding received
  received-printable =
      let f = k.found in
      record {
        within = record {
          created = value-within f.created;
          originator = value-within f.originator;
          object = value-within f.object;
          id = value-within f.id;
          center = value-within f.center;
          frame = value-within f.frame;
        };
        short = record {
          created = value-short f.created;
          originator = value-short f.originator;
          object = value-short f.object;
          id = value-short f.id;
          center = value-short f.center;
          frame = value-short f.frame;
        };
        in-epochs = omega (arith, length-append (seconds_of points) (drop (length points) epochs), length-seconds points);
        in-values = omega (arith, length-append (values_of points) (drop (6 * length points) values), length-values points k.six);
      }

  read-printable : (t : Bool)
      → Printable text (cond t (received groups (length points)) (refused_by 12 0))
      (cond t (seconds_of points ++ drop (length points) epochs) epochs)
      (cond t (values_of points ++ drop (6 * length points) values) values)
  read-printable true = received-printable
  read-printable false = refused-printable text 12 0 epochs values

printable-by : (text : List ℕ) (r : Read) (epochs : List ℕ) (values : List ℤ) → Known text r
    → Printable text (answer_by r epochs values) (epochs_by r epochs values) (values_by r epochs values)
printable-by text (Stops line) epochs values k = refused-printable text 15 line epochs values
printable-by text (Reads groups points) epochs values k =
    read-printable text groups points k epochs values (has_room (length points) (length epochs) (length values))

pub printable : (e : Edition) (text epochs : List ℕ) (values : List ℤ)
    → Printable text (answer_to e text epochs values) (epochs_after e text epochs values) (values_after e text epochs values)
unfolding answer_to epochs_after values_after
printable e text epochs values = by (is_other e text)
  where
    by : (t : Bool)
        → Printable text (cond t (refused_by 17 0) (answer_by (read_of e text) epochs values)) (cond t epochs (epochs_by (read_of e text) epochs values))
        (cond t values (values_by (read_of e text) epochs values))
    by true = refused-printable text 17 0 epochs values
    by false = printable-by text (read_of e text) epochs values (known e text)

-- what a reader answered that meets its contract
module _ (e : Edition) (text epochs : List ℕ) (values : List ℤ) {r : Received} {es : List ℕ} {vs : List ℤ}
    (q : r ≡ answer_to e text epochs values) (a : es ≡ epochs_after e text epochs values) (b : vs ≡ values_after e text epochs values) where
  pub ready : Printable text r es vs
  ready =
      subst (λ x. Printable text x es vs) (sym q)
      (subst (λ x. Printable text (answer_to e text epochs values) x vs) (sym a)
      (subst (λ x. Printable text (answer_to e text epochs values) (epochs_after e text epochs values) x) (sym b) (printable e text epochs values)))

  pub reported : report_of text r es vs ≡ report_for e text epochs values
  unfolding report_for
  reported = λ i. report_of text (q i) (a i) (b i)

-- ---- as many points as the rooms can hold, at most

count_held : (groups : List (List (List ℕ))) (n epochs values : ℕ) (t : Bool) → has_room n epochs values ≡ t
    → (cond t (received groups n) (refused_by 12 0)).count ≤ epochs
unfolding has_room received
count_held groups n epochs values true e = let (a, _) = simp joined at e in leb-true n epochs a
count_held groups n epochs values false e = omega arith

count_by : (r : Read) (epochs : List ℕ) (values : List ℤ) → (answer_by r epochs values).count ≤ length epochs
count_by (Stops line) epochs values = omega arith
count_by (Reads groups points) epochs values =
    let n = length points in
    count_held groups n (length epochs) (length values) (has_room n (length epochs) (length values)) refl

count-within : (e : Edition) (text epochs : List ℕ) (values : List ℤ) → (answer_to e text epochs values).count ≤ length epochs
unfolding answer_to
count-within e text epochs values = by (is_other e text)
  where
    by : (t : Bool) → (cond t (refused_by 17 0) (answer_by (read_of e text) epochs values)).count ≤ length epochs
    by true = omega arith
    by false = count_by (read_of e text) epochs values

pub report-fits : (e : Edition) (text epochs : List ℕ) (values : List ℤ) → length (report_for e text epochs values) ≤ 1599 + 153 * length epochs
unfolding report_for
report-fits e text epochs values =
    let p = printable e text epochs values in
    omega (
      arith,
      report-short text (answer_to e text epochs values) p.short (epochs_after e text epochs values) (values_after e text epochs values),
      count-within e text epochs values,
    )

-- ---- with room for all, it is what the definition of reading gives

-- every point that was read has room
abbrev pub RoomFor : Read → ℕ → ℕ → Type 0
RoomFor (Stops line) epochs values = Unit {0}
RoomFor (Reads groups points) epochs values = has_room (length points) epochs values ≡ true

module _ (text : List ℕ) (groups : List (List (List ℕ))) (points : List Point) (k : Known text (Reads groups points)) (epochs : List ℕ) (values : List ℤ) where
  names-are : flatten (names_in text (received groups (length points)))
      ≡ flatten (sender_lines (rest_at groups 3) (rest_at groups 4))
      ++ flatten (object_lines (rest_at groups 8) (rest_at groups 9) (rest_at groups 10) (rest_at groups 11))
  unfolding names_in sender_in object_in received flatten
  names-are =
      let f = k.found in
      let sender : flatten (sender_lines (part_of text (place_at groups 3)) (part_of text (place_at groups 4))) ≡ flatten (sender_lines (rest_at groups 3) (rest_at groups 4)) =
      λ i. flatten (sender_lines (value-at f.created i) (value-at f.originator i)) in
      let object : flatten (object_lines (part_of text (place_at groups 8)) (part_of text (place_at groups 9)) (part_of text (place_at groups 10)) (part_of text (place_at groups 11)))
      ≡ flatten (object_lines (rest_at groups 8) (rest_at groups 9) (rest_at groups 10) (rest_at groups 11)) =
      λ i. flatten (object_lines (value-at f.object i) (value-at f.id i) (value-at f.center i) (value-at f.frame i)) in
      ap₂ (λ s o. s ++ (o ++ [])) sender object
      ∙ ap (λ o. flatten (sender_lines (rest_at groups 3) (rest_at groups 4)) ++ o)
      (append-nil (flatten (object_lines (rest_at groups 8) (rest_at groups 9) (rest_at groups 10) (rest_at groups 11))))

  read_as_lem : (t : Bool) → t ≡ true
      → report_of text (cond t (received groups (length points)) (refused_by 12 0))
      (cond t (seconds_of points ++ drop (length points) epochs) epochs)
      (cond t (values_of points ++ drop (6 * length points) values) values)
      ≡ report_by (Reads groups points)
  unfolding report_of report_by received
  read_as_lem true e =
      let sender = flatten (sender_lines (rest_at groups 3) (rest_at groups 4)) in
      let object = flatten (object_lines (rest_at groups 8) (rest_at groups 9) (rest_at groups 10) (rest_at groups 11)) in
      ap₂ (λ names ps. names ++ points_text ps) names-are (points-back points (drop (length points) epochs) (drop (6 * length points) values) k.six)
      ∙ append_assoc sender object (points_text points)
  read_as_lem false e = absurd (let z : ◌≡◌ {A = ℕ} 0 1 = cc in omega arith)

as-read-by : (text : List ℕ) (r : Read) (epochs : List ℕ) (values : List ℤ) → Known text r → RoomFor r (length epochs) (length values)
    → report_of text (answer_by r epochs values) (epochs_by r epochs values) (values_by r epochs values) ≡ report_by r
unfolding report_of report_by
as-read-by text (Stops line) epochs values k room = refl
as-read-by text (Reads groups points) epochs values k room =
    read_as_lem text groups points k epochs values (has_room (length points) (length epochs) (length values)) room

pub as_read : (e : Edition) (text epochs : List ℕ) (values : List ℤ) → RoomFor (read_of e text) (length epochs) (length values) → report_for e text epochs values ≡ read_as e text
unfolding report_for report_of answer_to epochs_after values_after read_as
as_read e text epochs values room = by (is_other e text)
  where
    by : (t : Bool)
        → report_of text (cond t (refused_by 17 0) (answer_by (read_of e text) epochs values)) (cond t epochs (epochs_by (read_of e text) epochs values))
        (cond t values (values_by (read_of e text) epochs values))
        ≡ cond t (flatten (refused_line 17)) (report_by (read_of e text))
    by true = refl
    by false = as-read-by text (read_of e text) epochs values (known e text) room

-- ---- a text of at most 1,100,000 characters, with rooms for 13,253 points

enough-by : (text : List ℕ) (r : Read) → Known text r → length text ≤ 1100000 → RoomFor r 13253 79518
unfolding has_room
enough-by text (Stops line) k h = tt
enough-by text (Reads groups points) k h =
    let n = length points in
    simp joined (le-leb n 13253 (omega (arith, k.few, h)), le-leb (6 * n) 79518 (omega (arith, k.few, h)))

pub always-enough : (e : Edition) (text : List ℕ) → length text ≤ 1100000 → RoomFor (read_of e text) 13253 79518
always-enough e text h = enough-by text (read_of e text) (known e text) h

pub as-printed : (text epochs : List ℕ) (values : List ℤ) → length text ≤ 1100000 → length epochs ≡ 13253 → length values ≡ 79518
    → report_for (edition_in text) text epochs values ≡ read_text text
unfolding read_text
as-printed text epochs values h l v =
    let e = edition_in text in
    as_read e text epochs values (subst (λ n. RoomFor (read_of e text) (length epochs) n) (sym v) (subst (λ n. RoomFor (read_of e text) n 79518) (sym l) (always-enough e text h)))
