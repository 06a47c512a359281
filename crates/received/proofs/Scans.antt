-- The data lines of a text one after another: how many are accepted, and the times of the first and the last.
use mathlib.Core.Path.{◌≡◌, refl, sym, ◌∙◌, ap}
use mathlib.Core.Bool.{Bool, true, false, cond}
use Rattle.std.specs.Prelude.{Ok, Err}
use mathlib.Core.List.{List, [], ◌∷◌, ◌++◌, append-nil, append_assoc}
use Prim.Native.Nat.{ℕ, suc, ◌+◌, ◌≤◌, ◌<◌}
use native.Mathlib.Nat.{add-zero}
use native.Mathlib.Numerals.{add-one}
use native.Mathlib.Omega.{arith}
use lib.Dec.{ltb}
use lib.ListN.{length, drop, length-append}
use borrow.Author.Tests.{eq-eqb, ne_eqb, lt-ltb, le-ltb}
use Rattle.integers.specs.Tests.{◌and◌}
use Rattle.calendar.specs.Calendar.{most_seconds}
use Rattle.received.specs.Lines.{lines_in, past_line}
use Rattle.received.specs.Data.{Point, datum_in, point_in, accepts, points_in, first_seconds, last_from, last_seconds}
use Rattle.received.specs.Reading.{all_read}
use Rattle.received.specs.Finding.{scanned_by, scanned_of}
use Rattle.received.proofs.Cuts.{between, past_end, past-within, past_more, at-line}

-- ---- times of points with one more

last_more : (n : ℕ) (points : List Point) (p : Point) → last_from n (points ++ (p ∷ [])) ≡ p.seconds
unfolding last_from
last_more n [] p = refl
last_more n (q ∷ points) p = last_more q.seconds points p

first-of : (points : List Point) (p : Point) → length points ≡ 0 → p.seconds ≡ first_seconds (points ++ (p ∷ []))
first-of [] p e = refl
first-of (q ∷ points) p e = absurd (omega arith)

first-stays : (points : List Point) (p : Point) → (length points ≡ 0 → ⊥) → first_seconds points ≡ first_seconds (points ++ (p ∷ []))
first-stays [] p n = absurd (n refl)
first-stays (q ∷ points) p n = refl

-- ---- points by their lines

module _ (earliest : ℕ) (line : List ℕ) (lines : List (List ℕ)) where
  pub taken : accepts earliest (datum_in line) ≡ true → points_in earliest (line ∷ lines) ≡ point_in line ∷ points_in (suc (datum_in line).seconds) lines
  unfolding points_in
  taken e = ap (λ t. elim t as (λ _. List Point) [ true ↦ point_in line ∷ points_in (suc (datum_in line).seconds) lines | false ↦ [] ]) e

  pub not_taken : accepts earliest (datum_in line) ≡ false → points_in earliest (line ∷ lines) ≡ []
  unfolding points_in
  not_taken e = ap (λ t. elim t as (λ _. List Point) [ true ↦ point_in line ∷ points_in (suc (datum_in line).seconds) lines | false ↦ [] ]) e

none-taken : (earliest : ℕ) → points_in earliest [] ≡ []
unfolding points_in
none-taken earliest = refl

-- ---- every line is read

both : (t : Bool) → (t and true) ≡ t
both true = refl
both false = refl

neither : (t : Bool) → (t and false) ≡ false
neither true = refl
neither false = refl

every : (points : List Point) (lines : List (List ℕ)) → length points ≡ length lines → ltb 0 (length points) ≡ all_read points lines
unfolding all_read
every points lines n = sym (rw (eq-eqb (length points) (length lines) n) (both (ltb 0 (length points))))

not-every : (points : List Point) (lines : List (List ℕ)) → (length points ≡ length lines → ⊥) → false ≡ all_read points lines
unfolding all_read
not-every points lines n = sym (rw (ne_eqb (length points) (length lines) n) (neither (ltb 0 (length points))))

-- ---- some were accepted, and what is left to read gives the rest

pub record Scanning (text : List ℕ) (from at count first last earliest : ℕ) : Type 0 where
  pub done : List Point
  pub points : points_in 0 (lines_in (drop from text)) ≡ done ++ points_in earliest (lines_in (drop at text))
  pub lines : length (lines_in (drop from text)) ≡ length done + length (lines_in (drop at text))
  pub counted : count ≡ length done
  pub starts : first ≡ first_seconds done
  pub ends : last ≡ last_seconds done
  pub within : at ≤ length text
  pub room : from + count ≤ at
  pub early : first ≤ most_seconds
  pub late : last ≤ most_seconds

pub begun : (text : List ℕ) (from : ℕ) → from ≤ length text → Scanning text from from 0 0 0 0
unfolding last_from
begun text from h =
    record {
      done = [];
      points = refl;
      lines = omega arith;
      counted = refl;
      starts = refl;
      ends = refl;
      within = h;
      room = omega arith;
      early = omega arith;
      late = omega arith;
    }

module _ (text : List ℕ) (from : ℕ) {at count first last earliest : ℕ} (s : Scanning text from at count first last earliest) where
  abbrev whole : List (List ℕ)
  whole = lines_in (drop from text)

  -- no more is accepted
  module _ (e : points_in earliest (lines_in (drop at text)) ≡ []) where
    all_done : s.done ≡ points_in 0 whole
    all_done = sym (s.points ∙ ap (λ ps. s.done ++ ps) e ∙ append-nil s.done)

    some-read : all_read s.done whole ≡ true → Ok (record { count = count; first = first; last = last }) ≡ scanned_of whole
    unfolding scanned_by
    some-read a =
        (λ i. Ok (record { count = s.counted i; first = s.starts i; last = s.ends i }))
        ∙ sym (ap (λ t. cond t (Ok (record { count = length s.done; first = first_seconds s.done; last = last_seconds s.done })) (Err (length s.done))) a)
        ∙ ap (λ ps. scanned_by ps whole) all_done

    not-read : all_read s.done whole ≡ false → Err count ≡ scanned_of whole
    unfolding scanned_by
    not-read a =
        ap Err s.counted
        ∙ sym (ap (λ t. cond t (Ok (record { count = length s.done; first = first_seconds s.done; last = last_seconds s.done })) (Err (length s.done))) a)
        ∙ ap (λ ps. scanned_by ps whole) all_done

  module _ (h : length text ≤ at) where
    over : points_in earliest (lines_in (drop at text)) ≡ []
    over = ap (points_in earliest) (past_end text at h) ∙ none-taken earliest

    every-done : ltb 0 (length s.done) ≡ all_read s.done whole
    every-done = every s.done whole (sym (s.lines ∙ ap (λ ls. length s.done + length ls) (past_end text at h) ∙ add-zero (length s.done)))

    pub all-over : (count ≡ 0 → ⊥) → Ok (record { count = count; first = first; last = last }) ≡ scanned_of whole
    all-over n = some-read over (sym every-done ∙ lt-ltb 0 (length s.done) (omega (arith, s.counted, n)))

    pub none-over : count ≡ 0 → Err 0 ≡ scanned_of whole
    none-over z = ap Err (sym z) ∙ not-read over (sym every-done ∙ le-ltb 0 (length s.done) (omega (arith, s.counted, z)))

  module _ (h : at < length text) where
    abbrev line : List ℕ
    line = between text at (past_line text at)

    abbrev others : List (List ℕ)
    others = lines_in (drop (past_line text at) text)

    pub stops : accepts earliest (datum_in line) ≡ false → Err count ≡ scanned_of whole
    stops e =
        not-read (ap (points_in earliest) (at-line text at h) ∙ not_taken earliest line others e)
        (sym (not-every s.done whole (λ n. omega (arith, n, s.lines ∙ ap (λ ls. length s.done + length ls) (at-line text at h)))))

    pub goes_on : accepts earliest (datum_in line) ≡ true → {end : ℕ} → end ≡ past_line text at → {n : ℕ} → n ≡ (datum_in line).seconds → n ≤ most_seconds
        → {f : ℕ} → f ≡ first_seconds (s.done ++ (point_in line ∷ [])) → f ≤ most_seconds → Scanning text from end (count + 1) f n (n + 1)
    goes_on e {end} q {n} d m {f} g y =
        let p = point_in line in
        record {
          done = s.done ++ (p ∷ []);
          points =
              s.points
              ∙ ap (λ ls. s.done ++ points_in earliest ls) (at-line text at h)
              ∙ ap (λ ps. s.done ++ ps) (taken earliest line others e)
              ∙ ap (λ j. s.done ++ (p ∷ points_in j others)) (sym (add-one n ∙ ap suc d))
              ∙ sym (append_assoc s.done (p ∷ []) (points_in (n + 1) others))
              ∙ ap (λ x. s.done ++ (p ∷ []) ++ points_in (n + 1) (lines_in (drop x text))) (sym q);
          lines =
              omega (arith, s.lines, ap length (at-line text at h), length-append s.done (p ∷ []), ap (λ x. length (lines_in (drop x text))) q);
          counted = omega (arith, s.counted, length-append s.done (p ∷ []));
          starts = g;
          ends = d ∙ sym (last_more 0 s.done p);
          within = omega (arith, q, past-within text at s.within);
          room = omega (arith, q, s.room, past_more text at h);
          early = y;
          late = m;
        }

    pub first-here : count ≡ 0 → (datum_in line).seconds ≡ first_seconds (s.done ++ (point_in line ∷ []))
    first-here z = first-of s.done (point_in line) (sym s.counted ∙ z)

    pub first-before : (count ≡ 0 → ⊥) → first ≡ first_seconds (s.done ++ (point_in line ∷ []))
    first-before n = s.starts ∙ first-stays s.done (point_in line) (λ z. n (s.counted ∙ z))
