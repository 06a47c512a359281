-- How long the text and the list of a plan are, and what is answered by it.
use mathlib.Core.Path.{◌≡◌, refl, sym, ◌∙◌, ap}
use mathlib.Core.Bool.{Bool, true, false, cond}
use mathlib.Core.List.{List, [], ◌∷◌, ◌++◌, flatten}
use Prim.Native.Nat.{ℕ, ◌+◌, ◌-◌, ◌*◌, ◌/◌, ◌≤◌}
use native.Mathlib.Omega.{arith}
use lib.Dec.{leb}
use lib.ListN.{length, take, drop, length-append, length-drop}
use lib.Seq.{length-take-le}
use borrow.Author.Tests.{leb-true}
use Rattle.integers.specs.Tests.{◌and◌, joined}
use Rattle.text.specs.Numbers.{ascii}
use Rattle.text.specs.Places.{written, Wrote}
use Rattle.text.proofs.Pieces.{length-flatten}
use Rattle.calendar.specs.Calendar.{moment_of}
use Rattle.calendar.proofs.Back.{text-long}
use Rattle.message.specs.declared.Edition.{Edition}
use Rattle.message.specs.Message.{entry, says, time_after}
use Rattle.received.specs.declared.Mended.{Mended}
use Rattle.received.specs.declared.planning.Plan.{Plan}
use Rattle.received.specs.Versions.{is_other}
use Rattle.received.specs.Data.{kept_of}
use Rattle.received.specs.Mending.{Change, drops_from, Cannot, mend_of, words}
use Rattle.received.specs.MendAnswer.{unmended, has_rooms, mended_by, out_by, changes_by, mended_to, out_after, changes_after}
use Rattle.received.specs.Planning.{data_lines, change_unless, head_of, planned_text, planned_list, room_in, Planned, PlanOf}

-- ---- two words a change

pub words_append : (xs ys : List Change) → words (xs ++ ys) ≡ words xs ++ words ys
unfolding flatten
words_append [] ys = refl
words_append (x ∷ xs) ys = ap (λ r. x.line ∷ x.what ∷ r) (words_append xs ys)

pub words_long : (xs : List Change) → length (words xs) ≡ 2 * length xs
unfolding flatten
words_long [] = refl
words_long (x ∷ xs) = omega (arith, words_long xs)

one-long : (same : Bool) (line what : ℕ) → length (change_unless same line what) ≡ cond same 0 1
unfolding change_unless
one-long true line what = refl
one-long false line what = refl

pub at_most_one : (same : Bool) → cond same 0 1 ≤ 1
at_most_one true = omega arith
at_most_one false = omega arith

-- ---- the lines of the two times

pub start-long : (seconds : ℕ) → length (says "START_TIME" (time_after seconds)) ≡ 33
unfolding entry ascii
start-long seconds = omega (arith, length-flatten (entry (ascii "START_TIME") (time_after seconds)), text-long (moment_of seconds))

pub stop-long : (seconds : ℕ) → length (says "STOP_TIME" (time_after seconds)) ≡ 32
unfolding entry ascii
stop-long seconds = omega (arith, length-flatten (entry (ascii "STOP_TIME") (time_after seconds)), text-long (moment_of seconds))

-- ---- a plan

module _ (text : List ℕ) (p : Plan) (h : Planned text p) where
  pub front_long : length (take p.start text) ≡ p.start
  front_long = length-take-le p.start text (omega (arith, h.in_order, h.head-ends, h.within))

  pub back_long : length (take (p.from - p.stop) (drop p.stop text)) ≡ p.from - p.stop
  back_long = length-take-le (p.from - p.stop) (drop p.stop text) (omega (arith, length-drop p.stop text, h.within))

  pub head-long : length (flatten (head_of text p)) ≡ p.start + 65 + (p.from - p.stop)
  unfolding head_of
  head-long = omega (arith, length-flatten (head_of text p), front_long, back_long, start-long p.first, stop-long p.last)

  pub whole_long : length (planned_text text p) ≡ length (flatten (head_of text p)) + length (flatten (kept_of 0 (data_lines text p)))
  unfolding planned_text
  whole_long = length-append (flatten (head_of text p)) (flatten (kept_of 0 (data_lines text p)))

  pub planned-long : length (planned_text text p) ≡ p.start + 65 + (p.from - p.stop) + p.bytes
  planned-long = omega (arith, whole_long, head-long, h.kept)

  pub list-long : length (words (planned_list text p)) ≡ 2 * (p.dropped + cond p.starts 0 1 + cond p.stops 0 1)
  unfolding planned_list
  list-long =
      let a = change_unless p.starts p.line 2 in
      let b = change_unless p.stops (p.line + 1) 3 in
      let c = drops_from p.number 0 (data_lines text p) in
      omega (
        arith,
        words_long (a ++ (b ++ c)),
        length-append a (b ++ c),
        length-append b c,
        one-long p.starts p.line 2,
        one-long p.stops (p.line + 1) 3,
        h.dropped,
      )

  -- the words of the list, part by part
  pub list-parts : words (planned_list text p)
      ≡ words (change_unless p.starts p.line 2)
      ++ (words (change_unless p.stops (p.line + 1) 3) ++ words (drops_from p.number 0 (data_lines text p)))
  unfolding planned_list
  list-parts =
      let a = change_unless p.starts p.line 2 in
      let b = change_unless p.stops (p.line + 1) 3 in
      let c = drops_from p.number 0 (data_lines text p) in
      words_append a (b ++ c) ∙ ap (λ r. words a ++ r) (words_append b c)

-- ---- the answers

from_start : (before text after : List ℕ) (end : ℕ) → Wrote before 0 text after end → after ≡ text ++ drop (length text) before
unfolding written
from_start before text after end w =
    let n : 0 + length text ≡ length text = omega arith in
    w.holds ∙ ap (λ k. text ++ drop k before) n

module _ (e : Edition) (text out changes : List ℕ) where
  abbrev Answered : Mended → List ℕ → List ℕ → Type 0
  Answered r o c = (r ≡ mended_to e text out changes) × (o ≡ out_after e text out changes) × (c ≡ changes_after e text out changes)

  abbrev Answers : Mended → List ℕ → List ℕ → Type 0
  Answers r o c =
      (r ≡ mended_by (mend_of e text) out changes) × (o ≡ out_by (mend_of e text) out changes) × (c ≡ changes_by (mend_of e text) out changes)

  -- the text names another version
  pub other : is_other e text ≡ true → Answered (unmended 17) out changes
  unfolding mended_to out_after changes_after
  other n = (
    sym (ap (λ t. cond t (unmended 17) (mended_by (mend_of e text) out changes)) n),
    sym (ap (λ t. cond t out (out_by (mend_of e text) out changes)) n),
    sym (ap (λ t. cond t changes (changes_by (mend_of e text) out changes)) n),
  )

  -- it does not
  pub own : is_other e text ≡ false → {r : Mended} {o c : List ℕ} → Answers r o c → Answered r o c
  unfolding mended_to out_after changes_after
  own n a = (
    a.0 ∙ sym (ap (λ t. cond t (unmended 17) (mended_by (mend_of e text) out changes)) n),
    a.1 ∙ sym (ap (λ t. cond t out (out_by (mend_of e text) out changes)) n),
    a.2 ∙ sym (ap (λ t. cond t changes (changes_by (mend_of e text) out changes)) n),
  )

  pub cannot : mend_of e text ≡ Cannot → Answers (unmended 16) out changes
  cannot m = (
    sym (ap (λ x. mended_by x out changes) m),
    sym (ap (λ x. out_by x out changes) m),
    sym (ap (λ x. changes_by x out changes) m),
  )

  module _ (p : Plan) (h : PlanOf e text p) where
    abbrev list : List Change
    list = planned_list text p

    same-room : has_rooms h.lines list (length out) (length changes) ≡ room_in text p (length out) (length changes)
    unfolding has_rooms room_in
    same-room = ap (λ s. leb (length s) (length out) and leb (length (words list)) (length changes)) h.text-is

    pub no_room : room_in text p (length out) (length changes) ≡ false → Answers (unmended 12) out changes
    no_room f =
        let n = same-room ∙ f in (
          sym (ap (λ m. mended_by m out changes) h.gives ∙ ap (λ t. cond t (record { number = 0; length = length (flatten h.lines); changes = length list }) (unmended 12)) n),
          sym (ap (λ m. out_by m out changes) h.gives ∙ ap (λ t. cond t (flatten h.lines ++ drop (length (flatten h.lines)) out) out) n),
          sym (ap (λ m. changes_by m out changes) h.gives ∙ ap (λ t. cond t (words list ++ drop (length (words list)) changes) changes) n),
        )

    module _ (f : room_in text p (length out) (length changes) ≡ true) where
      pub rooms : (length (planned_text text p) ≤ length out) × (length (words list) ≤ length changes)
      unfolding room_in
      rooms =
          let (a, b) = simp joined at f in
          (leb-true (length (planned_text text p)) (length out) a, leb-true (length (words list)) (length changes) b)

      pub mends : {o : List ℕ} {n : ℕ} → Wrote out 0 (planned_text text p) o n → {c : List ℕ} {k : ℕ} → Wrote changes 0 (words list) c k
          → Answers (record { number = 0; length = n; changes = k / 2 }) o c
      mends {o} {n} v {c} {k} w =
          let t = same-room ∙ f in
          let size : n ≡ length (flatten h.lines) = omega (arith, v.ends, ap length h.text-is) in
          let count : k / 2 ≡ length list = omega (arith, w.ends, words_long list) in (
            (λ i. record { number = 0; length = size i; changes = count i })
                ∙ sym (ap (λ m. mended_by m out changes) h.gives ∙ ap (λ b. cond b (record { number = 0; length = length (flatten h.lines); changes = length list }) (unmended 12)) t),
            from_start out (planned_text text p) o n v
                ∙ ap (λ s. s ++ drop (length s) out) (sym h.text-is)
                ∙ sym (ap (λ m. out_by m out changes) h.gives ∙ ap (λ b. cond b (flatten h.lines ++ drop (length (flatten h.lines)) out) out) t),
            from_start changes (words list) c k w
                ∙ sym (ap (λ m. changes_by m out changes) h.gives ∙ ap (λ b. cond b (words list ++ drop (length (words list)) changes) changes) t),
          )
