-- A walk over lines goes through exactly where the lines fill the slots, and where it stops no lines behind can mend it.
use mathlib.Core.Path.{◌≡◌, refl, sym, ◌∙◌, ap, ap₂}
use mathlib.Core.Bool.{Bool, true, false}
use mathlib.Core.List.{List, [], ◌∷◌, ◌++◌, flatten, append_assoc}
use Prim.Native.Nat.{ℕ}
use Rattle.integers.specs.Tests.{clash}
use Rattle.received.specs.Slots.{Form, is_of, Slot, one, perhaps, any, AllOf, Fills, FillAll, Walked, Through, Stopped, leading, behind, first_of, past_first, after, walk}
use Rattle.readable.proofs.Forms.{Rests, groups_of, groups-fill}

-- ---- the lines of a form that stand first

-- the first line, if there is one, is not of a form
abbrev pub Past : Form → List (List ℕ) → Type 0
Past f [] = Unit {0}
Past f (line ∷ lines) = is_of f line ≡ false

module _ (f : Form) (line : List ℕ) (lines : List (List ℕ)) where
  pub leading-by : {t : Bool} → is_of f line ≡ t → leading f (line ∷ lines) ≡ elim t as (λ _. List (List ℕ)) [ true ↦ line ∷ leading f lines | false ↦ [] ]
  unfolding leading
  leading-by e = ap (λ t. elim t as (λ _. List (List ℕ)) [ true ↦ line ∷ leading f lines | false ↦ [] ]) e

  pub behind-by : {t : Bool} → is_of f line ≡ t → behind f (line ∷ lines) ≡ elim t as (λ _. List (List ℕ)) [ true ↦ behind f lines | false ↦ line ∷ lines ]
  unfolding behind
  behind-by e = ap (λ t. elim t as (λ _. List (List ℕ)) [ true ↦ behind f lines | false ↦ line ∷ lines ]) e

  pub walk-by : (slots : List Slot) {t : Bool} → is_of f line ≡ t
      → walk (one f ∷ slots) (line ∷ lines) ≡ elim t as (λ _. Walked) [ true ↦ after (line ∷ []) (walk slots lines) | false ↦ Stopped [] ]
  unfolding walk
  walk-by slots e = ap (λ t. elim t as (λ _. Walked) [ true ↦ after (line ∷ []) (walk slots lines) | false ↦ Stopped [] ]) e

module _ (f : Form) where
  pub leads : (group lines : List (List ℕ)) → AllOf f group → Past f lines → (leading f (group ++ lines) ≡ group) × (behind f (group ++ lines) ≡ lines)
  unfolding leading behind
  leads [] [] a p = (refl, refl)
  leads [] (line ∷ lines) a p = (leading-by f line lines p, behind-by f line lines p)
  leads (g ∷ group) lines a p =
      let (l, b) = leads group lines a.1 p in
      (leading-by f g (group ++ lines) a.0 ∙ ap (λ x. g ∷ x) l, behind-by f g (group ++ lines) a.0 ∙ b)

  pub leading-all : (lines : List (List ℕ)) → AllOf f (leading f lines)
  unfolding leading
  leading-all [] = tt
  leading-all (line ∷ lines) = by (is_of f line) refl (leading-all lines)
    where
      by : (t : Bool) → is_of f line ≡ t → AllOf f (leading f lines)
          → AllOf f (elim t as (λ _. List (List ℕ)) [ true ↦ line ∷ leading f lines | false ↦ [] ])
      by true e h = (e, h)
      by false e h = tt

  pub behind-past : (lines : List (List ℕ)) → Past f (behind f lines)
  unfolding behind
  behind-past [] = tt
  behind-past (line ∷ lines) = by (is_of f line) refl (behind-past lines)
    where
      by : (t : Bool) → is_of f line ≡ t → Past f (behind f lines)
          → Past f (elim t as (λ _. List (List ℕ)) [ true ↦ behind f lines | false ↦ line ∷ lines ])
      by true e h = h
      by false e h = e

  pub leading-behind : (lines : List (List ℕ)) → leading f lines ++ behind f lines ≡ lines
  unfolding leading behind
  leading-behind [] = refl
  leading-behind (line ∷ lines) = by (is_of f line) (leading-behind lines)
    where
      by : (t : Bool) → leading f lines ++ behind f lines ≡ lines
          → elim t as (λ _. List (List ℕ)) [ true ↦ line ∷ leading f lines | false ↦ [] ]
          ++ elim t as (λ _. List (List ℕ)) [ true ↦ behind f lines | false ↦ line ∷ lines ]
          ≡ line ∷ lines
      by true h = ap (λ x. line ∷ x) h
      by false h = refl

  -- what stands behind the first line does not matter
  pub past_head : (xs : List (List ℕ)) (line : List ℕ) (ys zs : List (List ℕ)) → Past f (xs ++ (line ∷ ys)) → Past f (xs ++ (line ∷ zs))
  past_head [] line ys zs p = p
  past_head (x ∷ xs) line ys zs p = p

-- ---- one line or none

-- the slot has its line, or it may have none, or the first line is not of its form
abbrev pub Done : Bool → Form → List (List ℕ) → List (List ℕ) → Type 0
Done false f group lines = Unit {0}
Done true f [] lines = Past f lines
Done true f (line ∷ group) lines = Unit {0}

module _ (f : Form) where
  pub firsts : (may : Bool) (group lines : List (List ℕ)) → Fills (perhaps may f) group → Done may f group lines
      → (first_of may f (group ++ lines) ≡ group) × (past_first may f (group ++ lines) ≡ lines)
  unfolding first_of past_first
  firsts false [] lines a d = (refl, refl)
  firsts false (line ∷ []) lines a d = clash a.0 refl
  firsts false (line ∷ more ∷ group) lines a d = absurd a
  firsts true [] [] a d = (refl, refl)
  firsts true [] (line ∷ lines) a d = (
    ap (λ t. elim t as (λ _. List (List ℕ)) [ true ↦ line ∷ [] | false ↦ [] ]) d,
    ap (λ t. elim t as (λ _. List (List ℕ)) [ true ↦ lines | false ↦ line ∷ lines ]) d,
  )
  firsts true (line ∷ []) lines a d = (
    ap (λ t. elim t as (λ _. List (List ℕ)) [ true ↦ line ∷ [] | false ↦ [] ]) a.1,
    ap (λ t. elim t as (λ _. List (List ℕ)) [ true ↦ lines | false ↦ line ∷ lines ]) a.1,
  )
  firsts true (line ∷ more ∷ group) lines a d = absurd a

  pub first-fills : (may : Bool) (lines : List (List ℕ)) → Fills (perhaps may f) (first_of may f lines)
  unfolding first_of
  first-fills false lines = tt
  first-fills true [] = tt
  first-fills true (line ∷ lines) = by (is_of f line) refl
    where
      by : (t : Bool) → is_of f line ≡ t → Fills (perhaps true f) (elim t as (λ _. List (List ℕ)) [ true ↦ line ∷ [] | false ↦ [] ])
      by true e = (refl, e)
      by false e = tt

  pub first_done : (may : Bool) (lines : List (List ℕ)) → Done may f (first_of may f lines) (past_first may f lines)
  unfolding first_of past_first
  first_done false lines = tt
  first_done true [] = tt
  first_done true (line ∷ lines) = by (is_of f line) refl
    where
      by : (t : Bool) → is_of f line ≡ t
          → Done true f (elim t as (λ _. List (List ℕ)) [ true ↦ line ∷ [] | false ↦ [] ]) (elim t as (λ _. List (List ℕ)) [ true ↦ lines | false ↦ line ∷ lines ])
      by true e = tt
      by false e = e

  pub first_past : (may : Bool) (lines : List (List ℕ)) → first_of may f lines ++ past_first may f lines ≡ lines
  unfolding first_of past_first
  first_past false lines = refl
  first_past true [] = refl
  first_past true (line ∷ lines) = by (is_of f line)
    where
      by : (t : Bool)
          → elim t as (λ _. List (List ℕ)) [ true ↦ line ∷ [] | false ↦ [] ] ++ elim t as (λ _. List (List ℕ)) [ true ↦ lines | false ↦ line ∷ lines ]
          ≡ line ∷ lines
      by true = refl
      by false = refl

  -- what stands behind the first line does not matter
  pub done-head : (may : Bool) (group xs : List (List ℕ)) (line : List ℕ) (ys zs : List (List ℕ))
      → Done may f group (xs ++ (line ∷ ys)) → Done may f group (xs ++ (line ∷ zs))
  done-head false group xs line ys zs d = tt
  done-head true [] xs line ys zs d = past_head f xs line ys zs d
  done-head true (g ∷ group) xs line ys zs d = tt

-- ---- through

-- behind the lines of a slot for any number stands a line of another form
abbrev pub Clear : List Slot → List (List (List ℕ)) → List (List ℕ) → Type 0
Clear [] groups rest = Unit {0}
Clear (s ∷ slots) [] rest = Unit {0}
Clear (one f ∷ slots) (group ∷ groups) rest = Clear slots groups rest
Clear (perhaps may f ∷ slots) (group ∷ groups) rest = Done may f group (flatten groups ++ rest) × Clear slots groups rest
Clear (any f ∷ slots) (group ∷ groups) rest = Past f (flatten groups ++ rest) × Clear slots groups rest

pub clear-head : (slots : List Slot) (groups : List (List (List ℕ))) (line : List ℕ) (ys zs : List (List ℕ))
    → Clear slots groups (line ∷ ys) → Clear slots groups (line ∷ zs)
clear-head [] groups line ys zs h = tt
clear-head (one f ∷ slots) [] line ys zs h = tt
clear-head (perhaps may f ∷ slots) [] line ys zs h = tt
clear-head (any f ∷ slots) [] line ys zs h = tt
clear-head (one f ∷ slots) (group ∷ groups) line ys zs h = clear-head slots groups line ys zs h
clear-head (perhaps may f ∷ slots) (group ∷ groups) line ys zs h =
    (done-head f may group (flatten groups) line ys zs h.0, clear-head slots groups line ys zs h.1)
clear-head (any f ∷ slots) (group ∷ groups) line ys zs h =
    (past_head f (flatten groups) line ys zs h.0, clear-head slots groups line ys zs h.1)

pub goes_through : (slots : List Slot) (groups : List (List (List ℕ))) (rest : List (List ℕ))
    → FillAll slots groups → Clear slots groups rest → walk slots (flatten groups ++ rest) ≡ Through groups rest
unfolding flatten walk after
goes_through [] [] rest a c = refl
goes_through [] (group ∷ groups) rest a c = absurd a
goes_through (one f ∷ slots) [] rest a c = absurd a
goes_through (perhaps may f ∷ slots) [] rest a c = absurd a
goes_through (any f ∷ slots) [] rest a c = absurd a
goes_through (one f ∷ slots) ([] ∷ groups) rest a c = absurd a.0
goes_through (one f ∷ slots) ((line ∷ []) ∷ groups) rest a c =
    walk-by f line (flatten groups ++ rest) slots a.0 ∙ ap (after (line ∷ [])) (goes_through slots groups rest a.1 c)
goes_through (one f ∷ slots) ((line ∷ more ∷ lines) ∷ groups) rest a c = absurd a.0
goes_through (perhaps may f ∷ slots) (group ∷ groups) rest a c =
    let (l, b) = firsts f may group (flatten groups ++ rest) a.0 c.0 in
    ap (walk (perhaps may f ∷ slots)) (append_assoc group (flatten groups) rest)
    ∙ ap₂ (λ x y. after x (walk slots y)) l b
    ∙ ap (after group) (goes_through slots groups rest a.1 c.1)
goes_through (any f ∷ slots) (group ∷ groups) rest a c =
    let (l, b) = leads f group (flatten groups ++ rest) a.0 c.0 in
    ap (walk (any f ∷ slots)) (append_assoc group (flatten groups) rest)
    ∙ ap₂ (λ x y. after x (walk slots y)) l b
    ∙ ap (after group) (goes_through slots groups rest a.1 c.1)

-- ---- what a walk means

-- it goes through groups that fill the slots
pub record Goes (slots : List Slot) (lines : List (List ℕ)) (groups : List (List (List ℕ))) (rest : List (List ℕ)) : Type 0 where
  pub fills : FillAll slots groups
  pub lines_are : lines ≡ flatten groups ++ rest
  pub clear : Clear slots groups rest

-- the line at which it stops settles it, whatever stands behind
abbrev pub Settles : List Slot → List (List ℕ) → List (List ℕ) → Type 0
Settles slots before [] = Unit {0}
Settles slots before (line ∷ lines) = (more : List (List ℕ)) → walk slots (before ++ (line ∷ more)) ≡ Stopped before

-- it stops behind lines that begin to fill the slots
pub record Halts (slots : List Slot) (lines before : List (List ℕ)) : Type 0 where
  pub rest : List (List ℕ)
  pub lines_are : lines ≡ before ++ rest
  pub settles : Settles slots before rest
  -- with lines for the slots that are left
  pub begins : Rests slots → (groups : List (List (List ℕ))) × (more : List (List ℕ)) × FillAll slots groups × (flatten groups ≡ before ++ more)

abbrev pub Means : List Slot → List (List ℕ) → Walked → Type 0
Means slots lines (Through groups rest) = Goes slots lines groups rest
Means slots lines (Stopped before) = Halts slots lines before

one-means : (f : Form) (slots : List Slot) (line : List ℕ) (lines : List (List ℕ)) (w : Walked) → is_of f line ≡ true → Means slots lines w
    → Means (one f ∷ slots) (line ∷ lines) (after (line ∷ []) w)
unfolding after flatten
one-means f slots line lines (Through groups rest) t m =
    record { fills = (t, m.fills); lines_are = ap (λ x. line ∷ x) m.lines_are; clear = m.clear }
one-means f slots line lines (Stopped before) t m =
    record {
      rest = m.rest;
      lines_are = ap (λ x. line ∷ x) m.lines_are;
      settles = settled m.rest m.settles;
      begins = λ h. let (groups, more, a, e) = m.begins h.1 in ((line ∷ []) ∷ groups, more, (t, a), ap (λ x. line ∷ x) e);
    }
  where
    settled : (rest : List (List ℕ)) → Settles slots before rest → Settles (one f ∷ slots) (line ∷ before) rest
    settled [] s = tt
    settled (next ∷ rest) s = λ more. walk-by f line (before ++ (next ∷ more)) slots t ∙ ap (after (line ∷ [])) (s more)

any-means : (f : Form) (slots : List Slot) (group lines : List (List ℕ)) (w : Walked) → AllOf f group → Past f lines → Means slots lines w
    → Means (any f ∷ slots) (group ++ lines) (after group w)
unfolding walk after flatten
any-means f slots group lines (Through groups rest) a p m =
    record {
      fills = (a, m.fills);
      lines_are = ap (λ x. group ++ x) m.lines_are ∙ sym (append_assoc group (flatten groups) rest);
      clear = (rw m.lines_are at p, m.clear);
    }
any-means f slots group lines (Stopped before) a p m =
    record {
      rest = m.rest;
      lines_are = ap (λ x. group ++ x) m.lines_are ∙ sym (append_assoc group before m.rest);
      settles = settled m.rest (rw m.lines_are at p) m.settles;
      begins = λ h.
          let (groups, more, b, e) = m.begins h.1 in
          (group ∷ groups, more, (a, b), ap (λ x. group ++ x) e ∙ sym (append_assoc group before more));
    }
  where
    settled : (rest : List (List ℕ)) → Past f (before ++ rest) → Settles slots before rest → Settles (any f ∷ slots) (group ++ before) rest
    settled [] q s = tt
    settled (next ∷ rest) q s =
        λ more.
        let (l, b) = leads f group (before ++ (next ∷ more)) a (past_head f before next rest more q) in
        ap (walk (any f ∷ slots)) (append_assoc group before (next ∷ more))
        ∙ ap₂ (λ x y. after x (walk slots y)) l b
        ∙ ap (after group) (s more)

perhaps-means : (may : Bool) (f : Form) (slots : List Slot) (group lines : List (List ℕ)) (w : Walked) → Fills (perhaps may f) group → Done may f group lines
    → Means slots lines w → Means (perhaps may f ∷ slots) (group ++ lines) (after group w)
unfolding walk after flatten
perhaps-means may f slots group lines (Through groups rest) a d m =
    record {
      fills = (a, m.fills);
      lines_are = ap (λ x. group ++ x) m.lines_are ∙ sym (append_assoc group (flatten groups) rest);
      clear = (rw m.lines_are at d, m.clear);
    }
perhaps-means may f slots group lines (Stopped before) a d m =
    record {
      rest = m.rest;
      lines_are = ap (λ x. group ++ x) m.lines_are ∙ sym (append_assoc group before m.rest);
      settles = settled m.rest (rw m.lines_are at d) m.settles;
      begins = λ h.
          let (groups, more, b, e) = m.begins h.1 in
          (group ∷ groups, more, (a, b), ap (λ x. group ++ x) e ∙ sym (append_assoc group before more));
    }
  where
    settled : (rest : List (List ℕ)) → Done may f group (before ++ rest) → Settles slots before rest → Settles (perhaps may f ∷ slots) (group ++ before) rest
    settled [] q s = tt
    settled (next ∷ rest) q s =
        λ more.
        let (l, b) = firsts f may group (before ++ (next ∷ more)) a (done-head f may group before next rest more q) in
        ap (walk (perhaps may f ∷ slots)) (append_assoc group before (next ∷ more))
        ∙ ap₂ (λ x y. after x (walk slots y)) l b
        ∙ ap (after group) (s more)

pub walk-means : (slots : List Slot) (lines : List (List ℕ)) → Means slots lines (walk slots lines)
unfolding walk flatten
walk-means [] lines = record { fills = tt; lines_are = refl; clear = tt }
walk-means (one f ∷ slots) [] =
    record {
      rest = [];
      lines_are = refl;
      settles = tt;
      begins = λ h. (groups_of (one f ∷ slots) h, flatten (groups_of (one f ∷ slots) h), groups-fill (one f ∷ slots) h, refl);
    }
walk-means (one f ∷ slots) (line ∷ lines) = by (is_of f line) refl (walk-means slots lines)
  where
    by : (t : Bool) → is_of f line ≡ t → Means slots lines (walk slots lines)
        → Means (one f ∷ slots) (line ∷ lines) (elim t as (λ _. Walked) [ true ↦ after (line ∷ []) (walk slots lines) | false ↦ Stopped [] ])
    by true e m = one-means f slots line lines (walk slots lines) e m
    by false e m =
        record {
          rest = line ∷ lines;
          lines_are = refl;
          settles = λ more. walk-by f line more slots e;
          begins = λ h. (groups_of (one f ∷ slots) h, flatten (groups_of (one f ∷ slots) h), groups-fill (one f ∷ slots) h, refl);
        }
walk-means (perhaps may f ∷ slots) lines =
    rw (first_past f may lines) at
    (perhaps-means may f slots (first_of may f lines) (past_first may f lines) (walk slots (past_first may f lines)) (first-fills f may lines) (first_done f may lines)
    (walk-means slots (past_first may f lines)))
walk-means (any f ∷ slots) lines =
    rw (leading-behind f lines) at
    (any-means f slots (leading f lines) (behind f lines) (walk slots (behind f lines)) (leading-all f lines) (behind-past f lines) (walk-means slots (behind f lines)))
