-- What is found in a whole text, by what its parts gave.
use mathlib.Core.Path.{◌≡◌, refl, sym, ◌∙◌, ap}
use mathlib.Core.Bool.{Bool, true, false, cond}
use mathlib.Core.List.{List, flatten}
use Prim.Native.Nat.{ℕ, ◌+◌}
use lib.ListN.{length, take, drop}
use Rattle.std.specs.Prelude.{Ok, Err}
use Rattle.calendar.specs.Text.{same_text}
use Rattle.message.specs.declared.Edition.{Edition}
use Rattle.message.specs.Message.{time_after}
use Rattle.received.specs.declared.heads.Spot.{Spot}
use Rattle.received.specs.declared.data.Scanned.{Scanned}
use Rattle.received.specs.Lines.{lines_in}
use Rattle.received.specs.Data.{Point, points_in, first_seconds, last_seconds}
use Rattle.received.specs.Reading.{Read, Stops, rest_at, number_at, unless, all_read, read_behind, read_by, read_lines, read_of}
use Rattle.received.specs.Finding.{begin_at, groups_of, walk_over, scanned_by, scanned_of, judged_by}
use Rattle.received.proofs.Headed.{Headed, behind}

unless-no : {t : Bool} (n : ℕ) (r : Read) → t ≡ false → unless t n r ≡ Stops n
unfolding unless
unless-no n r e = rw e refl

unless-yes : {t : Bool} (n : ℕ) (r : Read) → t ≡ true → unless t n r ≡ r
unfolding unless
unless-yes n r e = rw e refl

-- ---- what the data gave

pub record AllRead (points : List Point) (lines : List (List ℕ)) (s : Scanned) : Type 0 where
  pub all : all_read points lines ≡ true
  pub count-is : s.count ≡ length points
  pub first-is : s.first ≡ first_seconds points
  pub last-is : s.last ≡ last_seconds points

module _ (points : List Point) (lines : List (List ℕ)) where
  abbrev found : Scanned
  found = record { count = length points; first = first_seconds points; last = last_seconds points }

  read-by : (t : Bool) → all_read points lines ≡ t → (s : Scanned) → Ok s ≡ cond t (Ok found) (Err (length points)) → AllRead points lines s
  read-by true a s e =
      let same : s ≡ found = cc in
      record { all = a; count-is = ap (λ x. x.count) same; first-is = ap (λ x. x.first) same; last-is = ap (λ x. x.last) same }
  read-by false a s e = cc

  all-read : (s : Scanned) → Ok s ≡ scanned_by points lines → AllRead points lines s
  unfolding scanned_by
  all-read s e = read-by (all_read points lines) refl s e

  stops-by : (t : Bool) → all_read points lines ≡ t → (n : ℕ) → Err n ≡ cond t (Ok found) (Err (length points)) → (all_read points lines ≡ false) × (n ≡ length points)
  stops-by true a n e = cc
  stops-by false a n e = (a, (cc))

  not-read : (n : ℕ) → Err n ≡ scanned_by points lines → (all_read points lines ≡ false) × (n ≡ length points)
  unfolding scanned_by
  not-read n e = stops-by (all_read points lines) refl n e

-- ---- the head is read

module _ (e : Edition) (text : List ℕ) {head : Spot} (h : Headed e text head) where
  abbrev groups : List (List (List ℕ))
  groups = groups_of (walk_over e text)

  abbrev points : List Point
  points = points_in 0 h.rest

  is_read : read_of e text ≡ read_behind groups h.rest points
  unfolding read_of read_lines read_by
  is_read = ap read_by h.walked

  pub data-stops : (n : ℕ) → Err n ≡ scanned_of (lines_in (drop head.at text)) → Err (head.line + n) ≡ judged_by (read_of e text)
  unfolding read_behind judged_by
  data-stops n d =
      let (a, m) = not-read points h.rest n (d ∙ ap scanned_of (behind e text h)) in
      (λ i. Err (h.line-is i + m i)) ∙ sym (ap judged_by (is_read ∙ unless-no (number_at groups 17 + length points) _ a))

  pub data-read : (s : Scanned) → Ok s ≡ scanned_of (lines_in (drop head.at text)) → AllRead points h.rest s
  data-read s d = all-read points h.rest s (d ∙ ap scanned_of (behind e text h))

  module _ {s : Scanned} (d : AllRead points h.rest s) where
    pub start-stops : same_text (rest_at groups 13) (time_after s.first) ≡ false → {start : Spot} → start ≡ begin_at groups 13 → Err start.line ≡ judged_by (read_of e text)
    unfolding read_behind judged_by number_at
    start-stops b {start} there =
        ap (λ x. Err x.line) there
        ∙ sym (ap judged_by (is_read
        ∙ unless-yes (1 + length (flatten (take 17 groups)) + length points) _ d.all
        ∙ unless-no (1 + length (flatten (take 13 groups))) _ (ap (λ x. same_text (rest_at groups 13) (time_after x)) (sym d.first-is) ∙ b)))

    module _ (b : same_text (rest_at groups 13) (time_after s.first) ≡ true) where
      pub stop-stops : same_text (rest_at groups 14) (time_after s.last) ≡ false → {stop : Spot} → stop ≡ begin_at groups 14 → Err stop.line ≡ judged_by (read_of e text)
      unfolding read_behind judged_by number_at
      stop-stops f {stop} there =
          ap (λ x. Err x.line) there
          ∙ sym (ap judged_by (is_read
          ∙ unless-yes (1 + length (flatten (take 17 groups)) + length points) _ d.all
          ∙ unless-yes (1 + length (flatten (take 13 groups))) _ (ap (λ x. same_text (rest_at groups 13) (time_after x)) (sym d.first-is) ∙ b)
          ∙ unless-no (1 + length (flatten (take 14 groups))) _ (ap (λ x. same_text (rest_at groups 14) (time_after x)) (sym d.last-is) ∙ f)))

      pub all_read_lem : same_text (rest_at groups 14) (time_after s.last) ≡ true → Ok (record { at = head.at; count = s.count }) ≡ judged_by (read_of e text)
      unfolding read_behind judged_by number_at
      all_read_lem f =
          (λ i. Ok (record { at = h.at-is i; count = d.count-is i }))
          ∙ sym (ap judged_by (is_read
          ∙ unless-yes (1 + length (flatten (take 17 groups)) + length points) _ d.all
          ∙ unless-yes (1 + length (flatten (take 13 groups))) _ (ap (λ x. same_text (rest_at groups 13) (time_after x)) (sym d.first-is) ∙ b)
          ∙ unless-yes (1 + length (flatten (take 14 groups))) _ (ap (λ x. same_text (rest_at groups 14) (time_after x)) (sym d.last-is) ∙ f)))
