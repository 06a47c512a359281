-- The line at which the reader stops is the first that no lines behind it can mend.
use mathlib.Core.Path.{◌≡◌, refl, sym, ◌∙◌, ap, ap₂, subst}
use mathlib.Core.Logic.{◌⊎◌, inl, inr}
use mathlib.Core.List.{List, [], ◌∷◌, ◌++◌, flatten, map, append_assoc, append-nil}
use Prim.Native.Nat.{ℕ, suc, ◌+◌, ◌-◌, ◌≤◌, ◌<◌}
use native.Mathlib.Omega.{arith}
use lib.IntN.{pos}
use lib.Dec.{leb}
use lib.ListN.{length, take, drop, length-append, length-map}
use lib.Seq.{take_at, take-add}
use borrow.Author.Tests.{leb-true, leb-false}
use Rattle.integers.specs.Tests.{clash, passes}
use Rattle.text.specs.Numbers.{ascii}
use Rattle.message.specs.Message.{time_after}
use Rattle.message.specs.Form.{has_between, all_between, one_case, name_holds}
use Rattle.message.specs.declared.Edition.{Edition}
use Rattle.received.specs.Lines.{lines_in}
use Rattle.received.specs.Slots.{Walked, Through, Stopped, walk}
use Rattle.received.specs.Profile.{slots}
use Rattle.received.specs.Data.{Point, line_of, points_in}
use Rattle.received.specs.Messages.{Every, IsPoint, Rising, ButForTimes}
use Rattle.received.specs.Reading.{Stops, data_slot, number_at, all_read, read_by, read_lines, read_of}
use Rattle.readable.specs.Stopping.{StopsAt}
use Rattle.readable.proofs.Forms.{fill-groups}
use Rattle.readable.proofs.Walks.{Clear, clear-head, Halts}
use Rattle.readable.proofs.Walks as W
use Rattle.readable.proofs.Points.{time-held}
use Rattle.readable.proofs.Runs.{runs, all-points}
use Rattle.readable.proofs.Runs as R
use Rattle.readable.proofs.Heads.{Parts, head_from, parts, rests, head-is}
use Rattle.readable.proofs.Ended.{start-printable, stop-printable}
use Rattle.readable.proofs.Outcomes.{Good, lines_from, but-to, but-from, walk-head, walk-but, Outcome, halts, goes, outcome, all-of-them, all-of-good, Behind, all_read_lem, not-all, behind-head}
use Rattle.readable.proofs.Readers.{same_stop}

-- ---- two walks

abbrev is_through : Walked → ℕ
is_through (Through groups rest) = 1
is_through (Stopped lines) = 0

abbrev rest_of : Walked → List (List ℕ)
rest_of (Through groups rest) = rest
rest_of (Stopped lines) = []

-- ---- a message that begins as the lines do may go on as this one

abbrev some_part : {e : Edition} → Parts e
unfolding has_between all_between one_case name_holds ascii
some_part =
    record {
      on_message = ([], tt);
      classification = ([], tt);
      created = (time_after 0, (time-held 0 (omega arith)).0);
      originator = (ascii "A", refl);
      identifier = ([], tt);
      on_object = ([], tt);
      object = (ascii "A", refl);
      id = (ascii "A", refl);
      center = (ascii "A", refl);
      frame = (ascii "A", refl);
      start = (time_after 0, start-printable 0);
      stop = (time_after 0, stop-printable 0);
      on_data = ([], tt);
    }

abbrev some_point : Point
some_point = record { seconds = 0; values = pos 0 ∷ pos 0 ∷ pos 0 ∷ pos 0 ∷ pos 0 ∷ pos 0 ∷ [] }

some_good : Good (some_point ∷ [])
some_good =
    record {
      some = omega arith;
      are-points =
          (record { in_time = omega arith; six = refl; digits = (omega arith, (omega arith, (omega arith, (omega arith, (omega arith, (omega arith, tt)))))) }, tt);
      rising = (omega arith, tt);
    }

-- ---- lines cut behind some of them

cut : (before rest lines : List (List ℕ)) (n : ℕ) → lines ≡ before ++ rest → n ≡ length before + 1 → take (n - 1) lines ≡ before
cut before rest lines n e h = ap (take (n - 1)) e ∙ take_at before rest (n - 1) (omega (arith, h))

cut-more : (before : List (List ℕ)) (line : List ℕ) (rest lines more : List (List ℕ)) (n : ℕ) → lines ≡ before ++ (line ∷ rest) → n ≡ length before + 1
    → take n lines ++ more ≡ before ++ (line ∷ more)
cut-more before line rest lines more n e h =
    let l : length (before ++ (line ∷ [])) ≡ n = omega (arith, h, length-append before (line ∷ [])) in
    ap (λ x. x ++ more) (ap (take n) (e ∙ sym (append_assoc before (line ∷ []) rest)) ∙ take_at (before ++ (line ∷ [])) rest n l)
    ∙ append_assoc before (line ∷ []) more

inside : (before rest lines : List (List ℕ)) (n : ℕ) → lines ≡ before ++ rest → n ≡ length before + 1 → (1 ≤ n) × (n ≤ suc (length lines))
inside before rest lines n e h = (omega (arith, h), omega (arith, h, ap length e, length-append before rest))

-- there is a line n only where some line is left
none_left : (before lines : List (List ℕ)) (n : ℕ) → lines ≡ before ++ [] → n ≡ length before + 1 → n ≤ length lines → ⊥
none_left before lines n e h l = omega (arith, h, ap length (e ∙ append-nil before))

-- ---- in the head

head-stops : {e : Edition} (lines before : List (List ℕ)) (n : ℕ) → n ≡ length before + 1 → Halts (slots e) lines before → StopsAt e lines n
head-stops {e} lines before n h m =
    record {
      counted = (inside before m.rest lines n m.lines_are h).0;
      within = (inside before m.rest lines n m.lines_are h).1;
      begins = go_on;
      settles = settled m.rest m.lines_are m.settles;
    }
  where
    go_on : (more : List (List ℕ)) × ButForTimes e (take (n - 1) lines ++ more)
    go_on =
        let (groups, more, a, f) = m.begins (rests {e = e} some_part) in
        let (r, q) = fill-groups (slots e) groups a in
        let data-line = map line_of (some_point ∷ []) in
        let all : take (n - 1) lines ++ (more ++ data-line) ≡ lines_from {e = e} (parts {e = e} r) (some_point ∷ []) =
        ap (λ x. x ++ (more ++ data-line)) (cut before m.rest lines n m.lines_are h)
        ∙ sym (append_assoc before more data-line)
        ∙ ap (λ x. x ++ data-line) (sym f ∙ ap flatten (q ∙ head-is e r)) in
        (more ++ data-line, but-from _ (record { head = parts {e = e} r; points = some_point ∷ []; good = some_good; lines_are = all }))

    settled : (rest : List (List ℕ)) → lines ≡ before ++ rest → W.Settles (slots e) before rest → n ≤ length lines
        → (more : List (List ℕ)) → ¬ ButForTimes e (take n lines ++ more)
    settled [] f s l more b = none_left before lines n f h l
    settled (line ∷ rest) f s l more b =
        let w = walk-but (take n lines ++ more) (but-to _ b) in
        let v = ap (walk (slots e)) (cut-more before line rest lines more n f h) ∙ s more in
        omega (arith, ap is_through (sym w ∙ v))

-- ---- at a data line

clear-after : {e : Edition} (p : Parts e) (points : List Point) (line : List ℕ) (rest more : List (List ℕ))
    → Clear (slots e) (head_from p) (map line_of points ++ (line ∷ rest)) → Clear (slots e) (head_from p) (map line_of points ++ (line ∷ more))
clear-after {e} p [] line rest more c = clear-head (slots e) (head_from p) line rest more c
clear-after {e} p (q ∷ points) line rest more c = clear-head (slots e) (head_from p) (line_of q) (map line_of points ++ (line ∷ rest)) (map line_of points ++ (line ∷ more)) c

data-stops : {e : Edition} (lines : List (List ℕ)) (p : Parts e) (rest : List (List ℕ)) (n : ℕ) → lines ≡ flatten (head_from p) ++ rest → Clear (slots e) (head_from p) rest
    → n ≡ number_at (head_from p) data_slot + length (points_in 0 rest) → StopsAt e lines n
unfolding number_at
data-stops {e} lines p rest n l c h =
    let r = runs 0 rest in
    let before = lines_from p (points_in 0 rest) in
    let f : lines ≡ before ++ r.rest =
    l ∙ ap (λ x. flatten (head_from p) ++ x) r.lines_are ∙ sym (append_assoc (flatten (head_from p)) (map line_of (points_in 0 rest)) r.rest) in
    let k : n ≡ length before + 1 =
    omega (arith, h, length-append (flatten (head_from p)) (map line_of (points_in 0 rest)), length-map (points_in 0 rest) line_of) in
    let at = cut before r.rest lines n f k in
    record {
      counted = (inside before r.rest lines n f k).0;
      within = (inside before r.rest lines n f k).1;
      begins = go_on (points_in 0 rest) r.are-points r.rising at;
      settles = settled (points_in 0 rest) r.rest f k (subst (Clear (slots e) (head_from p)) r.lines_are c) r.settles;
    }
  where
    go_on : (points : List Point) → Every IsPoint points → Rising 0 points → take (n - 1) lines ≡ lines_from p points
        → (more : List (List ℕ)) × ButForTimes e (take (n - 1) lines ++ more)
    go_on [] a i at =
        let more = map line_of (some_point ∷ []) in
        let all : take (n - 1) lines ++ more ≡ lines_from p (some_point ∷ []) =
        ap (λ x. x ++ more) (at ∙ append-nil (flatten (head_from p))) in
        (more, but-from _ (record { head = p; points = some_point ∷ []; good = some_good; lines_are = all }))
    go_on (q ∷ points) a i at =
        let good : Good (q ∷ points) = record { some = omega arith; are-points = a; rising = i } in
        ([], but-from _ (record { head = p; points = q ∷ points; good = good; lines_are = append-nil (take (n - 1) lines) ∙ at }))

    settled : (points : List Point) (behind : List (List ℕ)) → lines ≡ lines_from p points ++ behind → n ≡ length (lines_from p points) + 1
        → Clear (slots e) (head_from p) (map line_of points ++ behind) → R.Settles 0 points behind → n ≤ length lines
        → (more : List (List ℕ)) → ¬ ButForTimes e (take n lines ++ more)
    settled points [] d k c s m more b = none_left (lines_from p points) lines n d k m
    settled points (line ∷ behind) d k c s m more b =
        let f = but-to _ b in
        let w = walk-but (take n lines ++ more) f in
        let v =
        ap (walk (slots e)) (cut-more (lines_from p points) line behind lines more n d k ∙ append_assoc (flatten (head_from p)) (map line_of points) (line ∷ more))
        ∙ walk-head p (map line_of points ++ (line ∷ more)) (clear-after p points line behind more c) in
        let same : map line_of f.points ≡ map line_of points ++ (line ∷ more) = ap rest_of (sym w ∙ v) in
        let read = sym (all-points 0 f.points f.good.are-points f.good.rising) ∙ ap (points_in 0) same ∙ s more in
        omega (arith, ap length read, ap length same, length-map f.points line_of, length-map points line_of, length-append (map line_of points) (line ∷ more))

-- ---- both

pub stops : (e : Edition) (text : List ℕ) (n : ℕ) → read_of e text ≡ Stops n → ¬ ButForTimes e (lines_in text) → StopsAt e (lines_in text) n
unfolding read_of read_lines read_by
stops e text n q not = by (outcome e (lines_in text))
  where
    behind : (p : Parts e) (rest : List (List ℕ)) → walk (slots e) (lines_in text) ≡ Through (head_from p) rest → lines_in text ≡ flatten (head_from p) ++ rest
        → Clear (slots e) (head_from p) rest → Behind p rest → StopsAt e (lines_in text) n
    behind p rest w l c (all_read_lem a) =
        let (g, r) = all-of-them rest a in
        absurd (not (but-from (lines_in text) (record { head = p; points = points_in 0 rest; good = g; lines_are = l ∙ ap (λ x. flatten (head_from p) ++ x) r })))
    behind p rest w l c (not-all a s) = data-stops (lines_in text) p rest n l c (same_stop (sym q ∙ ap read_by w ∙ s))

    by : Outcome e (lines_in text) → StopsAt e (lines_in text) n
    by (halts before w h) = head-stops (lines_in text) before n (same_stop (sym q ∙ ap read_by w)) h
    by (goes p rest w l c) = behind p rest w l c (behind-head p rest)

-- and there is one such line only

not-before : {e : Edition} (lines : List (List ℕ)) (m n : ℕ) → StopsAt e lines m → StopsAt e lines n → n ≤ m
not-before {e} lines m n s t = leb-true n m (passes (leb n m) (λ f. none (leb-false n m f)))
  where
    none : m < n → ⊥
    none l =
        let (more, b) = t.begins in
        let k : m + (n - 1 - m) ≡ n - 1 = omega arith in
        let cut : take (n - 1) lines ≡ take m lines ++ take (n - 1 - m) (drop m lines) = ap (λ i. take i lines) (sym k) ∙ take-add m (n - 1 - m) lines in
        let all = ap (λ x. x ++ more) cut ∙ append_assoc (take m lines) (take (n - 1 - m) (drop m lines)) more in
        s.settles (omega (arith, t.within)) (take (n - 1 - m) (drop m lines) ++ more) (subst (ButForTimes e) all b)

pub one-stop : (e : Edition) (lines : List (List ℕ)) (m n : ℕ) → StopsAt e lines m → StopsAt e lines n → m ≡ n
one-stop e lines m n s t = omega (arith, not-before lines m n s t, not-before lines n m t s)

-- lines are readable but for the two times, or they are not
pub decided : (e : Edition) (lines : List (List ℕ)) → ButForTimes e lines ⊎ (¬ ButForTimes e lines)
decided e lines = by (outcome e lines)
  where
    behind : (p : Parts e) (rest : List (List ℕ)) → walk (slots e) lines ≡ Through (head_from p) rest → lines ≡ flatten (head_from p) ++ rest → Behind p rest
        → ButForTimes e lines ⊎ (¬ ButForTimes e lines)
    behind p rest w l (all_read_lem a) =
        let (g, q) = all-of-them rest a in
        inl (but-from lines (record { head = p; points = points_in 0 rest; good = g; lines_are = l ∙ ap (λ x. flatten (head_from p) ++ x) q }))
    behind p rest w l (not-all a s) =
        inr (λ b.
        let f = but-to lines b in
        let same : map line_of f.points ≡ rest = ap rest_of (sym (walk-but lines f) ∙ w) in
        let read : f.points ≡ points_in 0 rest = sym (all-points 0 f.points f.good.are-points f.good.rising) ∙ ap (points_in 0) same in
        clash (sym (ap₂ all_read read same) ∙ all-of-good f.points f.good) a)

    by : Outcome e lines → ButForTimes e lines ⊎ (¬ ButForTimes e lines)
    by (halts before w h) = inr (λ b. omega (arith, ap is_through (sym (walk-but lines (but-to lines b)) ∙ w)))
    by (goes p rest w l c) = behind p rest w l (behind-head p rest)
