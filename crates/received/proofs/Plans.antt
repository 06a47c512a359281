-- A plan of what is written is what mending gives: the head with two times, the lines kept, and the changes.
use mathlib.Core.Path.{◌≡◌, refl, sym, ◌∙◌, ap}
use mathlib.Core.Bool.{Bool}
use mathlib.Core.List.{List, [], ◌∷◌, ◌++◌, flatten, map, append-nil, append_assoc}
use Prim.Native.Nat.{ℕ, zero, suc, ◌+◌, ◌-◌, ◌≤◌, ◌<◌}
use native.Mathlib.Omega.{arith}
use lib.ListN.{length, take, drop, get_or, set, length-append, take-append-drop}
use lib.Seq.{take_at, take-suc, drop_at}
use Rattle.text.specs.Numbers.{ascii}
use Rattle.calendar.specs.Calendar.{most_seconds}
use Rattle.calendar.specs.Text.{same_text}
use Rattle.message.specs.declared.Edition.{Edition}
use Rattle.message.specs.Message.{says, time_after}
use Rattle.received.specs.declared.heads.Spot.{Spot}
use Rattle.received.specs.declared.surveying.Surveyed.{Surveyed}
use Rattle.received.specs.declared.planning.Plan.{Plan}
use Rattle.received.specs.Lines.{lines_in}
use Rattle.received.specs.Slots.{line_with}
use Rattle.received.specs.Profile.{slots}
use Rattle.received.specs.Data.{point_in, kept_of, first_seconds, last_seconds}
use Rattle.received.specs.Reading.{front_at, rest_at, number_at}
use Rattle.received.specs.Mending.{drops_from, time_change, with_times, Mends, Cannot, mend_with, mend_by, mend_of}
use Rattle.received.specs.Finding.{begin_at, Inside, groups_of, walk_over}
use Rattle.received.specs.Planning.{surveyed_by, survey_of, change_unless, head_of, planned_text, planned_list, PlanOf}
use Rattle.received.proofs.Cuts.{lines-back, flatten-append}
use Rattle.received.proofs.Reached.{filled, next-begins, line-long}
use Rattle.received.proofs.Headed.{Headed, behind}
use Rattle.received.proofs.Groups.{group-is}
use Rattle.received.proofs.Surveys.{drops-count}

-- ---- two neighbours set anew

two-set : {A : Type 0} (a b : A) (l : List A) (i : ℕ) → i + 1 < length l → set (set l i a) (suc i) b ≡ take i l ++ (a ∷ b ∷ drop (suc (suc i)) l)
two-set a b [] i h = absurd (omega arith)
two-set a b (x ∷ []) zero h = absurd (omega arith)
two-set a b (x ∷ y ∷ l) zero h = refl
two-set a b (x ∷ l) (suc i) h = ap (λ r. x ∷ r) (two-set a b l i (omega arith))

flat-two : (s t : List ℕ) (before behind : List (List (List ℕ)))
    → flatten (flatten (before ++ ((s ∷ []) ∷ (t ∷ []) ∷ behind))) ≡ flatten (flatten before) ++ (s ++ (t ++ flatten (flatten behind)))
unfolding flatten
flat-two s t before behind =
    ap flatten (flatten-append before ((s ∷ []) ∷ (t ∷ []) ∷ behind)) ∙ flatten-append (flatten before) (s ∷ t ∷ flatten behind)

-- ---- what mending gives, by the lines kept

module _ (groups : List (List (List ℕ))) (rest : List (List ℕ)) where
  none-by : (kept : List (List ℕ)) → length kept ≡ 0 → mend_with groups rest kept ≡ Cannot
  unfolding mend_with
  none-by [] z = refl
  none-by (line ∷ lines) z = absurd (omega arith)

  some-by : (kept : List (List ℕ)) → (length kept ≡ 0 → ⊥)
      → mend_with groups rest kept
      ≡ Mends (flatten (with_times groups (first_seconds (map point_in kept)) (last_seconds (map point_in kept))) ++ kept)
      (time_change groups 13 2 (first_seconds (map point_in kept))
      ++ (time_change groups 14 3 (last_seconds (map point_in kept)) ++ drops_from (number_at groups 17) 0 rest))
  unfolding mend_with
  some-by [] n = absurd (n refl)
  some-by (line ∷ lines) n = refl

-- ---- the parts of the text

module _ (e : Edition) (text : List ℕ) {head : Spot} (h : Headed e text head) where
  abbrev groups : List (List (List ℕ))
  groups = groups_of (walk_over e text)

  seventeen : length groups ≡ 17
  seventeen = filled (slots e) groups h.fill

  abbrev behind_head : lines_in (drop head.at text) ≡ h.rest
  behind_head = behind e text h

  pub none_left : length (kept_of 0 (lines_in (drop head.at text))) ≡ 0 → mend_of e text ≡ Cannot
  unfolding mend_of mend_by
  none_left z = ap mend_by h.walked ∙ none-by groups h.rest (kept_of 0 h.rest) (ap (λ ls. length (kept_of 0 ls)) (sym behind_head) ∙ z)

  module _ (k : ℕ) where
    abbrev up_to : List ℕ
    up_to = flatten (flatten (take k groups))

    abbrev onward : List ℕ
    onward = flatten (flatten (drop k groups))

    halves : flatten (flatten groups) ≡ up_to ++ onward
    halves =
        ap (λ gs. flatten (flatten gs)) (sym (take-append-drop k groups))
        ∙ ap flatten (flatten-append (take k groups) (drop k groups))
        ∙ flatten-append (flatten (take k groups)) (flatten (drop k groups))

    parted : text ≡ up_to ++ (onward ++ flatten h.rest)
    parted =
        sym (lines-back text)
        ∙ ap flatten h.lines_are
        ∙ flatten-append (flatten groups) h.rest
        ∙ ap (λ s. s ++ flatten h.rest) halves
        ∙ append_assoc up_to onward (flatten h.rest)

    sizes : length (flatten (flatten groups)) ≡ length up_to + length onward
    sizes = ap length halves ∙ length-append up_to onward

    front-part : take (length up_to) text ≡ up_to
    front-part = ap (take (length up_to)) parted ∙ take_at up_to (onward ++ flatten h.rest) (length up_to) refl

    back-part : take (length (flatten (flatten groups)) - length up_to) (drop (length up_to) text) ≡ onward
    back-part =
        let m = length (flatten (flatten groups)) - length up_to in
        ap (λ s. take m (drop (length up_to) s)) parted
        ∙ ap (take m) (drop_at up_to (onward ++ flatten h.rest) (length up_to) refl)
        ∙ take_at onward (flatten h.rest) m (omega (arith, sizes))

  -- START_TIME and STOP_TIME are a line each
  next-number : number_at groups 14 ≡ number_at groups 13 + 1
  unfolding number_at flatten
  next-number =
      let one : take 14 groups ≡ take 13 groups ++ (get_or groups 13 [] ∷ []) = take-suc groups 13 [] (omega (arith, seventeen)) in
      let n : length (flatten (take 14 groups)) ≡ length (flatten (take 13 groups)) + 1 =
      ap (λ gs. length (flatten gs)) one
      ∙ ap length (flatten-append (take 13 groups) (get_or groups 13 [] ∷ []))
      ∙ ap (λ g. length (flatten (take 13 groups) ++ g)) (append-nil (get_or groups 13 []) ∙ group-is e groups h.fill 13 (omega arith) refl)
      ∙ length-append (flatten (take 13 groups)) (line_with (front_at 13) (rest_at groups 13) ∷ []) in
      omega (arith, n)

  both_long : length (flatten (flatten (take 13 groups))) + 26 ≤ length (flatten (flatten (take 15 groups)))
  unfolding ascii
  both_long =
      omega (
        arith,
        next-begins e text h.through 13 (omega arith) refl,
        line-long e text h.through 13 (omega arith) refl,
        next-begins e text h.through 14 (omega arith) refl,
        line-long e text h.through 14 (omega arith) refl,
      )

  -- ---- the plan

  module _ {d : Surveyed} (survey : d ≡ survey_of (lines_in (drop head.at text))) where
    abbrev kept : List (List ℕ)
    kept = kept_of 0 (lines_in (drop head.at text))

    pub none_kept : d.kept ≡ 0 → mend_of e text ≡ Cannot
    unfolding surveyed_by
    none_kept z = none_left (sym (ap (λ x. x.kept) survey) ∙ z)

    first-is : d.first ≡ first_seconds (map point_in kept)
    unfolding surveyed_by
    first-is = ap (λ x. x.first) survey

    last-is : d.last ≡ last_seconds (map point_in kept)
    unfolding surveyed_by
    last-is = ap (λ x. x.last) survey

    some-kept : (d.kept ≡ 0 → ⊥) → length (kept_of 0 h.rest) ≡ 0 → ⊥
    unfolding surveyed_by
    some-kept n z = n (ap (λ x. x.kept) survey ∙ ap (λ ls. length (kept_of 0 ls)) behind_head ∙ z)

    module _ (n : d.kept ≡ 0 → ⊥) {start stop : Spot} (b : start ≡ begin_at groups 13) (f : stop ≡ begin_at groups 15) {starts stops : Bool} (u : starts ≡ same_text (rest_at groups 13) (time_after d.first))
        (v : stops ≡ same_text (rest_at groups 14) (time_after d.last)) where
      abbrev plan : Plan
      plan =
          record {
            start = start.at;
            stop = stop.at;
            from = head.at;
            line = start.line;
            number = head.line;
            first = d.first;
            last = d.last;
            starts = starts;
            stops = stops;
            bytes = d.bytes;
            dropped = d.dropped;
          }

      start-at : start.at ≡ length (up_to 13)
      start-at = omega (arith, ap (λ p. p.at) b)

      stop-at : stop.at ≡ length (up_to 15)
      stop-at = omega (arith, ap (λ p. p.at) f)

      start-line : start.line ≡ number_at groups 13
      unfolding number_at
      start-line = ap (λ p. p.line) b

      -- the head with its two times
      abbrev times : List (List (List ℕ))
      times = with_times groups d.first d.last

      head-is : flatten (flatten times) ≡ flatten (head_of text plan)
      unfolding head_of flatten
      head-is =
          let s = says "START_TIME" (time_after d.first) in
          let t = says "STOP_TIME" (time_after d.last) in
          ap (λ gs. flatten (flatten gs)) (two-set (s ∷ []) (t ∷ []) groups 13 (omega (arith, seventeen)))
          ∙ flat-two s t (take 13 groups) (drop 15 groups)
          ∙ sym (λ i. (ap (λ k. take k text) start-at ∙ front-part 13) i
          ++ (s ++ (t ++ (append-nil (take (head.at - stop.at) (drop stop.at text))
          ∙ (λ j. take (h.at-is j - stop-at j) (drop (stop-at j) text))
          ∙ back-part 15) i)))

      abbrev out : List (List ℕ)
      out = flatten times ++ kept_of 0 h.rest

      text-is : flatten out ≡ planned_text text plan
      unfolding planned_text
      text-is =
          flatten-append (flatten times) (kept_of 0 h.rest)
          ∙ (λ i. head-is i ++ flatten (kept_of 0 (sym behind_head i)))

      list-is : time_change groups 13 2 d.first ++ (time_change groups 14 3 d.last ++ drops_from (number_at groups 17) 0 h.rest) ≡ planned_list text plan
      unfolding time_change planned_list change_unless
      list-is =
          λ i. change_unless (sym u i) (sym start-line i) 2
          ++ (change_unless (sym v i) ((next-number ∙ ap (λ k. k + 1) (sym start-line)) i) 3 ++ drops_from (sym h.line-is i) 0 (sym behind_head i))

      gives : mend_of e text ≡ Mends out (planned_list text plan)
      unfolding mend_of mend_by
      gives =
          let first = first-is ∙ ap (λ ls. first_seconds (map point_in (kept_of 0 ls))) behind_head in
          let last = last-is ∙ ap (λ ls. last_seconds (map point_in (kept_of 0 ls))) behind_head in
          ap mend_by h.walked
          ∙ some-by groups h.rest (kept_of 0 h.rest) (some-kept n)
          ∙ (λ i. Mends (flatten (with_times groups (sym first i) (sym last i)) ++ kept_of 0 h.rest)
          (time_change groups 13 2 (sym first i) ++ (time_change groups 14 3 (sym last i) ++ drops_from (number_at groups 17) 0 h.rest)))
          ∙ ap (Mends out) list-is

      pub planned : head.at + d.bytes + d.dropped ≤ length text → d.first ≤ most_seconds → d.last ≤ most_seconds → Inside text head
          → Inside text start → PlanOf e text plan
      unfolding surveyed_by
      planned room early late i j =
          record {
            lines = out;
            gives = gives;
            text-is = text-is;
            planned = record {
              kept = ap (λ x. x.bytes) survey;
              dropped = ap (λ x. x.dropped) survey ∙ drops-count 0 head.line 0 (lines_in (drop head.at text));
              starts-early = early;
              ends-early = late;
              in_order = omega (arith, start-at, stop-at, both_long);
              head-ends = omega (arith, stop-at, h.at-is, sizes 15);
              within = room;
              few = i.few;
              early = j.few;
            };
          }
