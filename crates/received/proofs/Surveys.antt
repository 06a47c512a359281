-- The data lines of a text one after another: which are kept and which are dropped, how many, and the times of the first and the last kept.
use mathlib.Core.Path.{◌≡◌, refl, sym, ◌∙◌, ap}
use mathlib.Core.Bool.{Bool, true, false}
use mathlib.Core.List.{List, [], ◌∷◌, ◌++◌, map, flatten, append-nil, append_assoc}
use Prim.Native.Nat.{ℕ, suc, ◌+◌, ◌-◌, ◌≤◌, ◌<◌}
use native.Mathlib.Nat.{add-zero}
use native.Mathlib.Numerals.{add-one}
use native.Mathlib.Omega.{arith}
use lib.ListN.{length, drop, length-append}
use Rattle.calendar.specs.Calendar.{most_seconds}
use Rattle.received.specs.declared.surveying.Step.{Step}
use Rattle.received.specs.declared.surveying.Surveyed.{Surveyed}
use Rattle.received.specs.Lines.{lines_in}
use Rattle.received.specs.Data.{datum_in, point_in, accepts, kept_of, first_seconds, last_from, last_seconds}
use Rattle.received.specs.Mending.{Change, change, drops_from}
use Rattle.received.specs.Finding.{bytes_of}
use Rattle.received.specs.Planning.{line_from, Looked, surveyed_by, survey_of}
use Rattle.received.proofs.Cuts.{between, past_end, at-line, line-long, bytes-append}

-- ---- a line that is accepted, and one that is not

module _ (earliest : ℕ) (line : List ℕ) (lines : List (List ℕ)) where
  kept-yes : accepts earliest (datum_in line) ≡ true → kept_of earliest (line ∷ lines) ≡ line ∷ kept_of (suc (datum_in line).seconds) lines
  unfolding kept_of
  kept-yes e = ap (λ t. elim t as (λ _. List (List ℕ)) [ true ↦ line ∷ kept_of (suc (datum_in line).seconds) lines | false ↦ kept_of earliest lines ]) e

  kept-no : accepts earliest (datum_in line) ≡ false → kept_of earliest (line ∷ lines) ≡ kept_of earliest lines
  unfolding kept_of
  kept-no e = ap (λ t. elim t as (λ _. List (List ℕ)) [ true ↦ line ∷ kept_of (suc (datum_in line).seconds) lines | false ↦ kept_of earliest lines ]) e

  module _ (n : ℕ) where
    abbrev drops_by : Bool → List Change
    drops_by t =
        elim t as (λ _. List Change) [ true ↦ drops_from (suc n) (suc (datum_in line).seconds) lines | false ↦ change n 1 ∷ drops_from (suc n) earliest lines ]

    drops-yes : accepts earliest (datum_in line) ≡ true → drops_from n earliest (line ∷ lines) ≡ drops_from (suc n) (suc (datum_in line).seconds) lines
    unfolding drops_from
    drops-yes e = ap drops_by e

    drops-no : accepts earliest (datum_in line) ≡ false → drops_from n earliest (line ∷ lines) ≡ change n 1 ∷ drops_from (suc n) earliest lines
    unfolding drops_from
    drops-no e = ap drops_by e

kept-none : (earliest : ℕ) → kept_of earliest [] ≡ []
unfolding kept_of
kept-none earliest = refl

drops-none : (n earliest : ℕ) → drops_from n earliest [] ≡ []
unfolding drops_from
drops-none n earliest = refl

-- how many are dropped is the same for every first number
pub drops-count : (n m earliest : ℕ) (lines : List (List ℕ)) → length (drops_from n earliest lines) ≡ length (drops_from m earliest lines)
drops-count n m earliest [] = ap length (drops-none n earliest ∙ sym (drops-none m earliest))
drops-count n m earliest (line ∷ lines) =
    by (accepts earliest (datum_in line)) refl (drops-count (suc n) (suc m) (suc (datum_in line).seconds) lines) (drops-count (suc n) (suc m) earliest lines)
  where
    by : (t : Bool) → accepts earliest (datum_in line) ≡ t
        → length (drops_from (suc n) (suc (datum_in line).seconds) lines) ≡ length (drops_from (suc m) (suc (datum_in line).seconds) lines)
        → length (drops_from (suc n) earliest lines) ≡ length (drops_from (suc m) earliest lines)
        → length (drops_from n earliest (line ∷ lines)) ≡ length (drops_from m earliest (line ∷ lines))
    by true e ih _ = ap length (drops-yes earliest line lines n e) ∙ ih ∙ sym (ap length (drops-yes earliest line lines m e))
    by false e _ ih = ap length (drops-no earliest line lines n e) ∙ ap suc ih ∙ sym (ap length (drops-no earliest line lines m e))

-- ---- the line at a place

module _ (text : List ℕ) (at earliest : ℕ) (over : length text ≤ at) where
  pub none_kept : kept_of earliest (lines_in (drop at text)) ≡ []
  none_kept = ap (kept_of earliest) (past_end text at over) ∙ kept-none earliest

  pub none_dropped : (n : ℕ) → drops_from n earliest (lines_in (drop at text)) ≡ []
  none_dropped n = ap (drops_from n earliest) (past_end text at over) ∙ drops-none n earliest

module _ (text : List ℕ) {at earliest : ℕ} {r : Step} (l : Looked text at earliest r) where
  abbrev line : List ℕ
  line = line_from text at

  abbrev others : List (List ℕ)
  others = lines_in (drop r.end text)

  inside : at < length text
  inside = omega (arith, l.more, l.within)

  lines_at : lines_in (drop at text) ≡ line ∷ others
  lines_at = at-line text at inside ∙ ap (λ e. line ∷ lines_in (drop e text)) (sym l.past)

  pub line-size : length line ≡ r.end - at
  line-size = line-long text at inside ∙ ap (λ e. e - at) (sym l.past)

  later : r.good ≡ true → suc (datum_in line).seconds ≡ r.seconds + 1
  later g = ap suc (sym (l.time g)) ∙ sym (add-one r.seconds)

  pub kept_here : r.good ≡ true → kept_of earliest (lines_in (drop at text)) ≡ line ∷ kept_of (r.seconds + 1) others
  kept_here g =
      ap (kept_of earliest) lines_at
      ∙ kept-yes earliest line others (sym l.taken ∙ g)
      ∙ ap (λ e. line ∷ kept_of e others) (later g)

  -- the bytes of the lines kept
  pub bytes-here : r.good ≡ true
      → flatten (kept_of earliest (lines_in (drop at text))) ≡ between text at r.end ++ flatten (kept_of (r.seconds + 1) others)
  unfolding flatten
  bytes-here g =
      ap flatten (kept_here g) ∙ ap (λ e. between text at e ++ flatten (kept_of (r.seconds + 1) others)) (sym l.past)

  pub kept-gone : r.good ≡ false → kept_of earliest (lines_in (drop at text)) ≡ kept_of earliest others
  kept-gone g = ap (kept_of earliest) lines_at ∙ kept-no earliest line others (sym l.taken ∙ g)

  pub drops-here : (n : ℕ) → r.good ≡ true → drops_from n earliest (lines_in (drop at text)) ≡ drops_from (n + 1) (r.seconds + 1) others
  drops-here n g =
      ap (drops_from n earliest) lines_at
      ∙ drops-yes earliest line others n (sym l.taken ∙ g)
      ∙ (λ i. drops_from (sym (add-one n) i) (later g i) others)

  pub drops-gone : (n : ℕ) → r.good ≡ false → drops_from n earliest (lines_in (drop at text)) ≡ change n 1 ∷ drops_from (n + 1) earliest others
  drops-gone n g =
      ap (drops_from n earliest) lines_at
      ∙ drops-no earliest line others n (sym l.taken ∙ g)
      ∙ ap (λ m. change n 1 ∷ drops_from m earliest others) (sym (add-one n))

-- ---- the times of lines with one more

last_more : (n : ℕ) (lines : List (List ℕ)) (line : List ℕ) → last_from n (map point_in (lines ++ (line ∷ []))) ≡ (datum_in line).seconds
unfolding last_from
last_more n [] one = refl
last_more n (other ∷ lines) one = last_more (datum_in other).seconds lines one

first-of : (lines : List (List ℕ)) (line : List ℕ) → length lines ≡ 0 → (datum_in line).seconds ≡ first_seconds (map point_in (lines ++ (line ∷ [])))
first-of [] one e = refl
first-of (other ∷ lines) one e = absurd (omega arith)

first-stays : (lines : List (List ℕ)) (line : List ℕ) → (length lines ≡ 0 → ⊥) → first_seconds (map point_in lines) ≡ first_seconds (map point_in (lines ++ (line ∷ [])))
first-stays [] one n = absurd (n refl)
first-stays (other ∷ lines) one n = refl

-- ---- some lines were kept and dropped, and what is left gives the rest

pub record Surveying (text : List ℕ) (from at kept bytes dropped first last earliest : ℕ) : Type 0 where
  pub done : List (List ℕ)
  pub keeps : kept_of 0 (lines_in (drop from text)) ≡ done ++ kept_of earliest (lines_in (drop at text))
  pub drops : length (drops_from 0 0 (lines_in (drop from text))) ≡ dropped + length (drops_from 0 earliest (lines_in (drop at text)))
  pub counted : kept ≡ length done
  pub sized : bytes ≡ bytes_of done
  pub starts : first ≡ first_seconds (map point_in done)
  pub ends : last ≡ last_seconds (map point_in done)
  pub within : at ≤ length text
  pub room : from + bytes + dropped ≤ at
  pub some : kept ≤ bytes
  pub early : first ≤ most_seconds
  pub late : last ≤ most_seconds

pub begun : (text : List ℕ) (from : ℕ) → from ≤ length text → Surveying text from from 0 0 0 0 0 0
unfolding last_from flatten
begun text from h =
    record {
      done = [];
      keeps = refl;
      drops = omega arith;
      counted = refl;
      sized = refl;
      starts = refl;
      ends = refl;
      within = h;
      room = omega arith;
      some = omega arith;
      early = omega arith;
      late = omega arith;
    }

module _ (text : List ℕ) (from : ℕ) {at kept bytes dropped first last earliest : ℕ} (s : Surveying text from at kept bytes dropped first last earliest) where
  abbrev whole : List (List ℕ)
  whole = lines_in (drop from text)

  pub over : length text ≤ at → ◌≡◌ {A = Surveyed} record { kept = kept; bytes = bytes; dropped = dropped; first = first; last = last } (survey_of whole)
  unfolding surveyed_by
  over h =
      let d : s.done ≡ kept_of 0 whole = sym (s.keeps ∙ ap (λ ls. s.done ++ ls) (none_kept text at earliest h) ∙ append-nil s.done) in
      let n : dropped ≡ length (drops_from 0 0 whole) =
      sym (s.drops ∙ ap (λ ls. dropped + length ls) (none_dropped text at earliest h 0) ∙ add-zero dropped) in
      λ i. record {
        kept = (s.counted ∙ ap length d) i;
        bytes = (s.sized ∙ ap bytes_of d) i;
        dropped = n i;
        first = (s.starts ∙ ap (λ ls. first_seconds (map point_in ls)) d) i;
        last = (s.ends ∙ ap (λ ls. last_seconds (map point_in ls)) d) i;
      }

  module _ {r : Step} (l : Looked text at earliest r) where
    pub dropping : r.good ≡ false → Surveying text from r.end kept bytes (dropped + 1) first last earliest
    dropping g =
        record {
          done = s.done;
          keeps = s.keeps ∙ ap (λ ls. s.done ++ ls) (kept-gone text l g);
          drops = omega (arith, s.drops, ap length (drops-gone text l 0 g), drops-count 1 0 earliest (others text l));
          counted = s.counted;
          sized = s.sized;
          starts = s.starts;
          ends = s.ends;
          within = l.within;
          room = omega (arith, s.room, l.more);
          some = s.some;
          early = s.early;
          late = s.late;
        }

    pub keeping : r.good ≡ true → {f : ℕ} → f ≡ first_seconds (map point_in (s.done ++ (line_from text at ∷ []))) → f ≤ most_seconds
        → Surveying text from r.end (kept + 1) (bytes + (r.end - at)) dropped f r.seconds (r.seconds + 1)
    unfolding flatten
    keeping g {f} e y =
        let here = line_from text at in
        let size = line-size text l in
        let more : bytes_of (s.done ++ (here ∷ [])) ≡ bytes_of s.done + length here =
        bytes-append s.done (here ∷ []) ∙ ap (λ t. bytes_of s.done + length t) (append-nil here) in
        record {
          done = s.done ++ (here ∷ []);
          keeps =
              s.keeps
              ∙ ap (λ ls. s.done ++ ls) (kept_here text l g)
              ∙ sym (append_assoc s.done (here ∷ []) (kept_of (r.seconds + 1) (others text l)));
          drops = omega (arith, s.drops, ap length (drops-here text l 0 g), drops-count 1 0 (r.seconds + 1) (others text l));
          counted = omega (arith, s.counted, length-append s.done (here ∷ []));
          sized = sym (more ∙ (λ i. sym s.sized i + size i));
          starts = e;
          ends = l.time g ∙ sym (last_more 0 s.done here);
          within = l.within;
          room = omega (arith, s.room, l.more);
          some = omega (arith, s.some, l.more);
          early = y;
          late = l.early;
        }

    pub first-here : r.good ≡ true → kept ≡ 0 → r.seconds ≡ first_seconds (map point_in (s.done ++ (line_from text at ∷ [])))
    first-here g z = l.time g ∙ first-of s.done (line_from text at) (sym s.counted ∙ z)

    pub first-before : (kept ≡ 0 → ⊥) → first ≡ first_seconds (map point_in (s.done ++ (line_from text at ∷ [])))
    first-before n = s.starts ∙ first-stays s.done (line_from text at) (λ z. n (s.counted ∙ z))
