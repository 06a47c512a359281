-- A walk that goes through: where each slot begins, and where the value of a slot for one line stands.
use mathlib.Core.Path.{◌≡◌, refl, sym, ◌∙◌, ap}
use mathlib.Core.Bool.{true, false}
use mathlib.Core.List.{List, [], ◌∷◌, ◌++◌, flatten, append_assoc, append-nil}
use Prim.Native.Nat.{ℕ, zero, suc, ◌+◌, ◌-◌, ◌≤◌, ◌<◌}
use native.Mathlib.Numerals.{add-one}
use native.Mathlib.Omega.{arith}
use lib.ListN.{length, take, drop, get_or, length-append, length-drop, take-append-drop, drop_of_length-le}
use lib.Seq.{drop-cons, get_or-take, take_at, take-suc, length-take-le, drop_at, drop-drop, drop-append-le, take-append-le}
use Rattle.message.specs.declared.Edition.{Edition}
use Rattle.std.specs.Prelude.{Ok}
use Rattle.received.specs.declared.Place.{Place}
use Rattle.received.specs.declared.heads.Spot.{Spot}
use Rattle.received.specs.Lines.{lines_in}
use Rattle.received.specs.Slots.{Form, rest_in, has_front, is_of, Slot, one, perhaps, any, form_of, Fills, FillAll, Walked, Through, Stopped, after, walk}
use Rattle.received.specs.Profile.{comment_form, slots}
use Rattle.received.specs.Reading.{slot_at, front_at, line_at, rest_at}
use Rattle.received.specs.Answer.{place_at}
use Rattle.received.specs.Finding.{is_one, bytes_of, spot, spot_from, begin_at, groups_of, is_through, walk_over}
use Rattle.received.proofs.Cuts.{lines-back, bytes-append, flatten-append}
use Rattle.received.proofs.Walks.{Sound, walk-sound, after_all, next, walk-append, spot-none}
use Rattle.received.proofs.Fronts.{of-front, front_long}
use Rattle.received.proofs.Dispatch.{front_same}

no {ℓ} : {A : Type ℓ} → false ≡ true → A
no e = absurd (let z : ◌≡◌ {A = ℕ} 0 1 = cc in omega arith)

-- ---- as many groups as slots

pub filled : (slots : List Slot) (groups : List (List (List ℕ))) → FillAll slots groups → length groups ≡ length slots
filled [] [] f = refl
filled [] (group ∷ groups) f = absurd f
filled (s ∷ slots) [] f = absurd f
filled (s ∷ slots) (group ∷ groups) f = ap suc (filled slots groups f.1)

pub filled_at : (slots : List Slot) (groups : List (List (List ℕ))) (k : ℕ) (d : Slot) → FillAll slots groups → k < length slots → Fills (get_or slots k d) (get_or groups k [])
filled_at [] groups k d f h = absurd (omega arith)
filled_at (s ∷ slots) [] k d f h = absurd f
filled_at (s ∷ slots) (group ∷ groups) zero d f h = f.0
filled_at (s ∷ slots) (group ∷ groups) (suc k) d f h = filled_at slots groups k d f.1 (omega arith)

-- a line of slot k has its front
pub has-front : (e : Edition) (k : ℕ) (line : List ℕ) → is_of (form_of (slot_at e k)) line ≡ true → has_front (front_at k) line ≡ true
has-front e k line p = ap (λ f. has_front f line) (sym (front_same e k)) ∙ of-front (form_of (slot_at e k)) line p

-- ---- the first slots of a walk that goes through

all-through : (groups : List (List (List ℕ))) (w : Walked) → is_through (after_all groups w) ≡ true → groups_of (after_all groups w) ≡ groups ++ groups_of w
unfolding after
all-through [] w t = refl
all-through (group ∷ groups) w t = by (after_all groups w) t (all-through groups w)
  where
    by : (v : Walked) → is_through (after group v) ≡ true → (is_through v ≡ true → groups_of v ≡ groups ++ groups_of w)
        → groups_of (after group v) ≡ group ∷ (groups ++ groups_of w)
    by (Through gs rest) t ih = ap (λ r. group ∷ r) (ih refl)
    by (Stopped before) t ih = no t

module _ (first rest : List Slot) (lines : List (List ℕ)) (at line : ℕ) where
  reached-by : (w : Walked) → Sound first lines w → is_through (next rest w) ≡ true
      → spot_from at line w ≡ Ok (spot at line (flatten (take (length first) (groups_of (next rest w)))))
  unfolding spot_from
  reached-by (Through groups behind) (e, f) t =
      ap (λ gs. Ok (spot at line (flatten gs)))
      (sym (ap (take (length first)) (all-through groups (walk rest behind) t) ∙ take_at groups (groups_of (walk rest behind)) (length first) (filled first groups f)))
  reached-by (Stopped before) s t = no t

  pub reached : is_through (walk (first ++ rest) lines) ≡ true
      → spot_from at line (walk first lines) ≡ Ok (spot at line (flatten (take (length first) (groups_of (walk (first ++ rest) lines)))))
  reached t =
      reached-by (walk first lines) (walk-sound first lines) (ap is_through (sym (walk-append first rest lines)) ∙ t)
      ∙ ap (λ w. Ok (spot at line (flatten (take (length first) (groups_of w))))) (sym (walk-append first rest lines))

-- where slot k begins
pub slot-begins : (e : Edition) (text : List ℕ) (k : ℕ) → k ≤ 17 → is_through (walk_over e text) ≡ true
    → spot_from 0 1 (walk (take k (slots e)) (lines_in text)) ≡ Ok (begin_at (groups_of (walk_over e text)) k)
slot-begins e text k h t =
    let n : length (take k (slots e)) ≡ k = length-take-le k (slots e) h in
    let whole : take k (slots e) ++ drop k (slots e) ≡ slots e = take-append-drop k (slots e) in
    reached (take k (slots e)) (drop k (slots e)) (lines_in text) 0 1 (ap (λ ss. is_through (walk ss (lines_in text))) whole ∙ t)
    ∙ ap (λ ss. Ok (begin_at (groups_of (walk ss (lines_in text))) (length (take k (slots e))))) whole
    ∙ ap (λ j. Ok (begin_at (groups_of (walk_over e text)) j)) n

-- ---- the line of a slot for one line

pub record Single (f : Form) (group : List (List ℕ)) : Type 0 where
  pub line : List ℕ
  pub alone : group ≡ line ∷ []
  pub passes : is_of f line ≡ true

pub single : (s : Slot) (group : List (List ℕ)) → is_one s ≡ true → Fills s group → Single (form_of s) group
single (one f) [] a h = absurd h
single (one f) (line ∷ []) a h = record { line = line; alone = refl; passes = h }
single (one f) (line ∷ more ∷ group) a h = absurd h
single (perhaps may f) group a h = no a
single (any f) group a h = no a

module _ (e : Edition) (text : List ℕ) (t : is_through (walk_over e text) ≡ true) where
  abbrev groups : List (List (List ℕ))
  groups = groups_of (walk_over e text)

  sound-by : (w : Walked) → Sound (slots e) (lines_in text) w → is_through w ≡ true
      → FillAll (slots e) (groups_of w) × ((rest : List (List ℕ)) × (lines_in text ≡ flatten (groups_of w) ++ rest))
  sound-by (Through gs rest) (l, f) t = (f, (rest, l))
  sound-by (Stopped before) s t = no t

  pub all-filled : FillAll (slots e) groups
  all-filled = (sound-by (walk_over e text) (walk-sound (slots e) (lines_in text)) t).0

  pub lines-there : (rest : List (List ℕ)) × (lines_in text ≡ flatten groups ++ rest)
  lines-there = (sound-by (walk_over e text) (walk-sound (slots e) (lines_in text)) t).1

  module _ (k : ℕ) (h : k < 17) (a : is_one (slot_at e k) ≡ true) where
    abbrev before : List (List ℕ)
    before = flatten (take k groups)

    abbrev alone_at : Single (form_of (slot_at e k)) (get_or groups k [])
    alone_at = single (slot_at e k) (get_or groups k []) a (filled_at (slots e) groups k (any _) all-filled h)

    line-is : alone_at.line ≡ line_at groups k
    unfolding line_at
    line-is = ap (λ g. get_or g 0 []) (sym alone_at.alone)

    pub is-form : is_of (form_of (slot_at e k)) (line_at groups k) ≡ true
    is-form = ap (is_of (form_of (slot_at e k))) (sym line-is) ∙ alone_at.passes

    enough : k < length groups
    enough = omega (arith, filled (slots e) groups all-filled)

    one_more : flatten (take (k + 1) groups) ≡ before ++ (line_at groups k ∷ [])
    unfolding flatten
    one_more =
        ap (λ j. flatten (take j groups)) (add-one k)
        ∙ ap flatten (take-suc groups k [] enough)
        ∙ flatten-append (take k groups) (get_or groups k [] ∷ [])
        ∙ ap (λ g. before ++ g) (append-nil (get_or groups k []) ∙ alone_at.alone ∙ ap (λ l. l ∷ []) line-is)

    pub next-begins : bytes_of (flatten (take (k + 1) groups)) ≡ bytes_of before + length (line_at groups k)
    unfolding flatten
    next-begins =
        ap bytes_of one_more ∙ bytes-append before (line_at groups k ∷ []) ∙ ap (λ l. bytes_of before + length l) (append-nil (line_at groups k))

    pub line-long : length (line_at groups k) ≡ length (front_at k) + length (rest_at groups k) + 1
    unfolding rest_at
    line-long = front_long (front_at k) (line_at groups k) (has-front e k (line_at groups k) is-form)

    -- the text before the line, the line, and what stands behind it
    pub parted : (more : List ℕ) × (text ≡ flatten before ++ (line_at groups k ++ more))
    unfolding flatten
    parted =
        let (rest, there) = lines-there in
        let all : flatten groups ≡ before ++ ((line_at groups k ∷ []) ++ flatten (drop (k + 1) groups)) =
        ap flatten (sym (take-append-drop (k + 1) groups))
        ∙ flatten-append (take (k + 1) groups) (drop (k + 1) groups)
        ∙ ap (λ ls. ls ++ flatten (drop (k + 1) groups)) one_more
        ∙ append_assoc before (line_at groups k ∷ []) (flatten (drop (k + 1) groups)) in (
          flatten (flatten (drop (k + 1) groups)) ++ flatten rest,
          sym (lines-back text)
              ∙ ap flatten there
              ∙ flatten-append (flatten groups) rest
              ∙ ap (λ ls. flatten ls ++ flatten rest) all
              ∙ ap (λ s. s ++ flatten rest) (flatten-append before (line_at groups k ∷ flatten (drop (k + 1) groups)))
              ∙ append_assoc (flatten before) (line_at groups k ++ flatten (flatten (drop (k + 1) groups))) (flatten rest)
              ∙ ap (λ s. flatten before ++ s) (append_assoc (line_at groups k) (flatten (flatten (drop (k + 1) groups))) (flatten rest)),
        )

    -- where its value stands
    pub value_there : take (length (rest_at groups k)) (drop (bytes_of before + length (front_at k)) text) ≡ rest_at groups k
    unfolding rest_at rest_in
    value_there =
        let (more, cut) = parted in
        let line = line_at groups k in
        let n = length (front_at k) in
        let rest = take (length line - (n + 1)) (drop n line) in
        let long : length line ≡ n + length rest + 1 = line-long in
        let m : length rest ≡ length line - (n + 1) = omega (arith, long) in
        ap (λ s. take (length rest) (drop (bytes_of before + n) s)) cut
        ∙ ap (take (length rest)) (sym (drop-drop n (bytes_of before) (flatten before ++ (line ++ more))))
        ∙ ap (λ s. take (length rest) (drop n s)) (drop_at (flatten before) (line ++ more) (bytes_of before) refl)
        ∙ ap (take (length rest)) (drop-append-le n line more (omega (arith, long)))
        ∙ take-append-le (length rest) (drop n line) more (omega (arith, m, length-drop n line))
        ∙ ap (λ j. take j (drop n line)) m

    pub value-within : bytes_of before + length (front_at k) + length (rest_at groups k) + 1 ≤ length text
    value-within =
        let (more, cut) = parted in
        omega (arith, line-long, ap length cut, length-append (flatten before) (line_at groups k ++ more), length-append (line_at groups k) more)

-- ---- the place of a value, by where its slot and the next one begin

pub record Placed (e : Edition) (text : List ℕ) (k front here next : ℕ) : Type 0 where
  pub starts : here + front ≡ bytes_of (flatten (take k (groups_of (walk_over e text)))) + length (front_at k)
  pub ends : next ≡ here + front + length (rest_at (groups_of (walk_over e text)) k) + 1
  pub within : here + front + length (rest_at (groups_of (walk_over e text)) k) + 1 ≤ length text

module _ (e : Edition) (text : List ℕ) (t : is_through (walk_over e text) ≡ true) (k : ℕ) (h : k < 17) (a : is_one (slot_at e k) ≡ true) where
  abbrev heads : List (List (List ℕ))
  heads = groups_of (walk_over e text)

  pub placed : {front : ℕ} → front ≡ length (front_at k) → {p q : Spot} → p ≡ begin_at heads k → q ≡ begin_at heads (k + 1) → Placed e text k front p.at q.at
  placed {front} f {p} {q} here then =
      let x : p.at ≡ 0 + bytes_of (flatten (take k heads)) = ap (λ s. s.at) here in
      let y : q.at ≡ 0 + bytes_of (flatten (take (k + 1) heads)) = ap (λ s. s.at) then in
      let z = next-begins e text t k h a in
      let l = line-long e text t k h a in
      record {
        starts = omega (arith, x, f);
        ends = omega (arith, x, y, z, l, f);
        within = omega (arith, x, f, value-within e text t k h a);
      }

  pub place_is : {front here next : ℕ} → Placed e text k front here next → record { start = here + front; length = next - 1 - (here + front) } ≡ place_at heads k
  unfolding place_at
  place_is {front} {here} {next} p =
      let n : next - 1 - (here + front) ≡ length (rest_at heads k) = omega (arith, p.ends) in
      λ i. record { start = p.starts i; length = n i }

  pub value-is : {place : Place} → place ≡ place_at heads k → take (place.start + place.length - place.start) (drop place.start text) ≡ rest_at heads k
  unfolding place_at
  value-is {place} p-is =
      let n : place.start + place.length - place.start ≡ place.length = omega arith in
      ap (λ j. take j (drop place.start text)) n ∙ ap (λ p. take p.length (drop p.start text)) p-is ∙ value_there e text t k h a

-- ---- slot by slot

pub slot_next : (e : Edition) (k j : ℕ) → j < k → k ≤ 17 → drop j (take k (slots e)) ≡ slot_at e j ∷ drop (j + 1) (take k (slots e))
slot_next e k j l h =
    drop-cons (take k (slots e)) j (any comment_form) (omega (arith, length-take-le k (slots e) h))
    ∙ (λ i. get_or-take k (slots e) j (any comment_form) l i ∷ drop (sym (add-one j) i) (take k (slots e)))

pub none_left : (e : Edition) (text : List ℕ) (at line k j : ℕ) → k ≤ j → k ≤ 17
    → Ok (record { at = at; line = line }) ≡ spot_from at line (walk (drop j (take k (slots e))) (lines_in (drop at text)))
unfolding walk spot_from flatten
none_left e text at line k j l h =
    sym (ap (λ ss. spot_from at line (walk ss (lines_in (drop at text)))) (drop_of_length-le (take k (slots e)) {i = j} (omega (arith, length-take-le k (slots e) h)))
    ∙ ap Ok (spot-none at line))
