-- What a walk over the lines of a text gives: groups that are the lines one after another, and for a slot of one line just that line.
use Rattle.std.specs.Prelude.{◌≡◌, refl, Bool, true, false, cond, ℕ, zero, suc, ◌+◌, ◌≤◌, ◌<◌, eqb, drop}
use Rattle.std.proofs.Common.{sym, ◌∙◌}
use Rattle.std.proofs.Math.Path.{ap, subst}
use mathlib.Core.List.{List, [], ◌∷◌, ◌++◌, append-nil, append_assoc, flatten}
use native.Mathlib.Omega.{arith}
use Rattle.std.proofs.Math.ListN.{length, take, get_or, length-append}
use Rattle.std.proofs.Math.Seq.{drop-append-add, drop-append_seam, take-append_seam}
use Rattle.integers.specs.Tests.{joined}
use Rattle.calendar.proofs.Back.{same_true}
use Rattle.message.specs.declared.Edition.{Edition}
use Rattle.received.specs.Lines.{newline, in_front, lines_in}
use Rattle.received.specs.Slots.{Form, Slot, one, perhaps, any, line_with, rest_in, has_front, is_of, AllOf, Fills, FillAll}
use Rattle.received.specs.Slots.{Walked, Through, Stopped, leading, behind, first_of, past_first, after, walk}
use Rattle.received.specs.Profile.{comment_form, slots}
use Rattle.received.specs.Reading.{slot_at, front_at, line_at, rest_at}
use Rattle.received.specs.Answer.{place_at}
use Rattle.reports.specs.Reports.{part_of, Within}

-- ---- the lines of a text are the text

in-front : (b : ℕ) (lines : List (List ℕ)) → flatten (in_front b lines) ≡ b ∷ flatten lines
unfolding in_front flatten
in-front b [] = refl
in-front b (line ∷ lines) = refl

own_line : (b : ℕ) (lines : List (List ℕ)) → flatten ((b ∷ []) ∷ lines) ≡ b ∷ flatten lines
unfolding flatten
own_line b lines = refl

pub lines-text : (text : List ℕ) → flatten (lines_in text) ≡ text
unfolding lines_in flatten
lines-text [] = refl
lines-text (b ∷ text) = by (eqb b newline) (lines-text text)
  where
    by : (t : Bool) → flatten (lines_in text) ≡ text → flatten (cond t ((b ∷ []) ∷ lines_in text) (in_front b (lines_in text))) ≡ b ∷ text
    by true e = own_line b (lines_in text) ∙ ap (λ s. b ∷ s) e
    by false e = in-front b (lines_in text) ∙ ap (λ s. b ∷ s) e

-- ---- the groups and what stands behind them are the lines

abbrev pub Splits : Walked → List (List ℕ) → Type 0
Splits (Through groups rest) lines = flatten groups ++ rest ≡ lines
Splits (Stopped before) lines = Unit {0}

after-splits : (group : List (List ℕ)) (w : Walked) (lines : List (List ℕ)) → Splits w lines → Splits (after group w) (group ++ lines)
unfolding after flatten
after-splits group (Through groups rest) lines e = append_assoc group (flatten groups) rest ∙ ap (λ ls. group ++ ls) e
after-splits group (Stopped before) lines e = tt

leads : (f : Form) (lines : List (List ℕ)) → leading f lines ++ behind f lines ≡ lines
unfolding leading behind
leads f [] = refl
leads f (line ∷ lines) = by (is_of f line) (leads f lines)
  where
    by : (t : Bool) → leading f lines ++ behind f lines ≡ lines
        → elim t as (λ _. List (List ℕ)) [ true ↦ line ∷ leading f lines | false ↦ [] ]
        ++ elim t as (λ _. List (List ℕ)) [ true ↦ behind f lines | false ↦ line ∷ lines ]
        ≡ line ∷ lines
    by true e = ap (λ ls. line ∷ ls) e
    by false e = refl

firsts : (may : Bool) (f : Form) (lines : List (List ℕ)) → first_of may f lines ++ past_first may f lines ≡ lines
unfolding first_of past_first
firsts false f lines = refl
firsts true f [] = refl
firsts true f (line ∷ lines) = by (is_of f line)
  where
    by : (t : Bool)
        → elim t as (λ _. List (List ℕ)) [ true ↦ line ∷ [] | false ↦ [] ] ++ elim t as (λ _. List (List ℕ)) [ true ↦ lines | false ↦ line ∷ lines ]
        ≡ line ∷ lines
    by true = refl
    by false = refl

pub splits : (slots : List Slot) (lines : List (List ℕ)) → Splits (walk slots lines) lines
unfolding walk flatten
splits [] lines = refl
splits (one f ∷ slots) [] = tt
splits (one f ∷ slots) (line ∷ lines) = by (is_of f line) (splits slots lines)
  where
    by : (t : Bool) → Splits (walk slots lines) lines
        → Splits (elim t as (λ _. Walked) [ true ↦ after (line ∷ []) (walk slots lines) | false ↦ Stopped [] ]) (line ∷ lines)
    by true h = after-splits (line ∷ []) (walk slots lines) lines h
    by false h = tt
splits (perhaps may f ∷ slots) lines =
    subst (Splits (after (first_of may f lines) (walk slots (past_first may f lines)))) (firsts may f lines)
    (after-splits (first_of may f lines) (walk slots (past_first may f lines)) (past_first may f lines) (splits slots (past_first may f lines)))
splits (any f ∷ slots) lines =
    subst (Splits (after (leading f lines) (walk slots (behind f lines)))) (leads f lines)
    (after-splits (leading f lines) (walk slots (behind f lines)) (behind f lines) (splits slots (behind f lines)))

-- ---- each group is its slot's

abbrev pub Filled : List Slot → Walked → Type 0
Filled slots (Through groups rest) = FillAll slots groups
Filled slots (Stopped before) = Unit {0}

after_filled : (s : Slot) (slots : List Slot) (group : List (List ℕ)) (w : Walked) → Fills s group → Filled slots w → Filled (s ∷ slots) (after group w)
unfolding after
after_filled s slots group (Through groups rest) g h = (g, h)
after_filled s slots group (Stopped before) g h = tt

leads-of : (f : Form) (lines : List (List ℕ)) → AllOf f (leading f lines)
unfolding leading
leads-of f [] = tt
leads-of f (line ∷ lines) = by (is_of f line) refl (leads-of f lines)
  where
    by : (t : Bool) → is_of f line ≡ t → AllOf f (leading f lines)
        → AllOf f (elim t as (λ _. List (List ℕ)) [ true ↦ line ∷ leading f lines | false ↦ [] ])
    by true e h = (e, h)
    by false e h = tt

firsts-of : (may : Bool) (f : Form) (lines : List (List ℕ)) → Fills (perhaps may f) (first_of may f lines)
unfolding first_of
firsts-of false f lines = tt
firsts-of true f [] = tt
firsts-of true f (line ∷ lines) = by (is_of f line) refl
  where
    by : (t : Bool) → is_of f line ≡ t → Fills (perhaps true f) (elim t as (λ _. List (List ℕ)) [ true ↦ line ∷ [] | false ↦ [] ])
    by true e = (refl, e)
    by false e = tt

pub filled : (slots : List Slot) (lines : List (List ℕ)) → Filled slots (walk slots lines)
unfolding walk
filled [] lines = tt
filled (one f ∷ slots) [] = tt
filled (one f ∷ slots) (line ∷ lines) = by (is_of f line) refl (filled slots lines)
  where
    by : (t : Bool) → is_of f line ≡ t → Filled slots (walk slots lines)
        → Filled (one f ∷ slots) (elim t as (λ _. Walked) [ true ↦ after (line ∷ []) (walk slots lines) | false ↦ Stopped [] ])
    by true e h = after_filled (one f) slots (line ∷ []) (walk slots lines) e h
    by false e h = tt
filled (perhaps may f ∷ slots) lines =
    after_filled (perhaps may f) slots (first_of may f lines) (walk slots (past_first may f lines)) (firsts-of may f lines) (filled slots (past_first may f lines))
filled (any f ∷ slots) lines =
    after_filled (any f) slots (leading f lines) (walk slots (behind f lines)) (leads-of f lines) (filled slots (behind f lines))

as_many : (slots : List Slot) (groups : List (List (List ℕ))) → FillAll slots groups → length slots ≡ length groups
as_many [] [] h = refl
as_many [] (g ∷ groups) h = absurd h
as_many (s ∷ slots) [] h = absurd h
as_many (s ∷ slots) (g ∷ groups) (a, h) = ap suc (as_many slots groups h)

-- the group of a slot for one line is one line, of its form
fill-at : (slots : List Slot) (groups : List (List (List ℕ))) (k : ℕ) (f : Form) → FillAll slots groups → k < length slots
    → get_or slots k (any comment_form) ≡ one f → Fills (one f) (get_or groups k [])
fill-at [] groups k f h l e = absurd (omega arith)
fill-at (s ∷ slots) [] k f h l e = absurd h
fill-at (s ∷ slots) (g ∷ groups) zero f (a, h) l e = subst (λ t. Fills t g) e a
fill-at (s ∷ slots) (g ∷ groups) (suc k) f (a, h) l e = fill-at slots groups k f h (omega arith) e

one_line : (f : Form) (group : List (List ℕ)) → Fills (one f) group → (group ≡ get_or group 0 [] ∷ []) × (is_of f (get_or group 0 []) ≡ true)
one_line f [] h = absurd h
one_line f (line ∷ []) h = (refl, h)
one_line f (line ∷ more ∷ lines) h = absurd h

-- ---- where a value stands in the text

pub flatten-append : (xs ys : List (List ℕ)) → flatten (xs ++ ys) ≡ flatten xs ++ flatten ys
unfolding flatten
flatten-append [] ys = refl
flatten-append (x ∷ xs) ys = ap (λ t. x ++ t) (flatten-append xs ys) ∙ sym (append_assoc x (flatten xs) (flatten ys))

group_at : (groups : List (List (List ℕ))) (k : ℕ) → k < length groups
    → flatten groups ≡ flatten (take k groups) ++ (get_or groups k [] ++ flatten (drop (suc k) groups))
unfolding flatten
group_at [] k h = absurd (omega arith)
group_at (g ∷ groups) zero h = refl
group_at (g ∷ groups) (suc k) h =
    ap (λ ls. g ++ ls) (group_at groups k (omega arith))
    ∙ sym (append_assoc g (flatten (take k groups)) (get_or groups k [] ++ flatten (drop (suc k) groups)))

-- the characters before the group of a slot
abbrev before : List (List (List ℕ)) → ℕ → List ℕ
before groups k = flatten (flatten (take k groups))

-- the value of a slot's line stands behind its front, and is short
pub record Standing (text : List ℕ) (groups : List (List (List ℕ))) (k : ℕ) : Type 0 where
  pub more : List ℕ
  pub is : text ≡ before groups k ++ (front_at k ++ (rest_at groups k ++ more))
  pub short : length (rest_at groups k) ≤ 254

-- a line with text behind it
line-behind : (f : Form) (line more : List ℕ) → is_of f line ≡ true → line ++ more ≡ f.front ++ (rest_in f.front line ++ (newline ∷ more))
unfolding is_of has_front
line-behind f line more h =
    let (p, _) = simp joined at h in
    let rest = rest_in f.front line in
    ap (λ l. l ++ more) (same_true line (line_with f.front rest) p)
    ∙ append_assoc f.front (rest ++ (newline ∷ [])) more
    ∙ ap (λ l. f.front ++ l) (append_assoc rest (newline ∷ []) more)

passes-test : (f : Form) (line : List ℕ) → is_of f line ≡ true → f.test (rest_in f.front line) ≡ true
unfolding is_of
passes-test f line h = let (_, q) = simp joined at h in q

module _ (e : Edition) (text : List ℕ) (groups : List (List (List ℕ))) (rest : List (List ℕ))
    (s : flatten groups ++ rest ≡ lines_in text) (h : FillAll (slots e) groups) where
  -- the text, taken apart at a group
  at-group : (k : ℕ) → k < length groups
      → text ≡ before groups k ++ (flatten (get_or groups k []) ++ (flatten (flatten (drop (suc k) groups)) ++ flatten rest))
  at-group k l =
      let b = flatten (take k groups) in
      let g = get_or groups k [] in
      let a = flatten (drop (suc k) groups) in
      sym (lines-text text)
      ∙ ap flatten (sym s)
      ∙ flatten-append (flatten groups) rest
      ∙ ap (λ ls. flatten ls ++ flatten rest) (group_at groups k l)
      ∙ ap (λ t. t ++ flatten rest) (flatten-append b (g ++ a) ∙ ap (λ t. flatten b ++ t) (flatten-append g a))
      ∙ append_assoc (flatten b) (flatten g ++ flatten a) (flatten rest)
      ∙ ap (λ t. flatten b ++ t) (append_assoc (flatten g) (flatten a) (flatten rest))

  pub standing : (k : ℕ) (f : Form) → k < 17 → slot_at e k ≡ one f → f.front ≡ front_at k → ((v : List ℕ) → f.test v ≡ true → length v ≤ 254) → Standing text groups k
  unfolding line_at rest_at flatten
  standing k f l q front short =
      let (g, i) = one_line f (get_or groups k []) (fill-at (slots e) groups k f h l q) in
      let line = get_or (get_or groups k []) 0 [] in
      let behind = flatten (flatten (drop (suc k) groups)) ++ flatten rest in
      let lines : flatten (get_or groups k []) ≡ line = ap flatten g ∙ append-nil line in
      record {
        more = newline ∷ behind;
        is = at-group k (omega (arith, as_many (slots e) groups h))
            ∙ ap (λ t. before groups k ++ (t ++ behind)) lines
            ∙ ap (λ t. before groups k ++ t) (line-behind f line behind i)
            ∙ ap (λ t. before groups k ++ (t ++ (rest_in t line ++ (newline ∷ behind)))) front;
        short = subst (λ t. length (rest_in t line) ≤ 254) front (short (rest_in f.front line) (passes-test f line i));
      }

module _ {text : List ℕ} {groups : List (List (List ℕ))} {k : ℕ} (s : Standing text groups k) where
  pub value-at : part_of text (place_at groups k) ≡ rest_at groups k
  unfolding part_of place_at
  value-at =
      let b = before groups k in
      let front = front_at k in
      let rest = rest_at groups k in
      ap (λ t. take (length rest) (drop (length b + length front) t)) s.is
      ∙ ap (take (length rest)) (drop-append-add b (front ++ (rest ++ s.more)) (length front) ∙ drop-append_seam front (rest ++ s.more))
      ∙ take-append_seam rest s.more

  pub value-within : Within text (place_at groups k)
  unfolding place_at
  value-within =
      let b = before groups k in
      let front = front_at k in
      let rest = rest_at groups k in
      record {
        ends = omega (
          arith,
          ap length s.is,
          length-append b (front ++ (rest ++ s.more)),
          length-append front (rest ++ s.more),
          length-append rest s.more,
        );
      }

  pub value-short : (place_at groups k).length ≤ 254
  unfolding place_at
  value-short = s.short
