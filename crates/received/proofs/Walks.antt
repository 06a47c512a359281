-- Walks over slots: what they find is there, they go slot by slot, and where they end.
use mathlib.Core.Path.{◌≡◌, refl, sym, ◌∙◌, ap, subst}
use mathlib.Core.Bool.{Bool, true, false}
use mathlib.Core.List.{List, [], ◌∷◌, ◌++◌, flatten, append_assoc, append-nil}
use Prim.Native.Nat.{ℕ, suc, ◌+◌, ◌≤◌, ◌<◌}
use native.Mathlib.Nat.{add-zero, add_assoc}
use native.Mathlib.Omega.{arith}
use lib.ListN.{length, drop, length-append}
use lib.Seq.{drop-drop}
use Rattle.std.specs.Prelude.{Result, Ok, Err}
use Rattle.std.specs.Result.{result_unwrap_or}
use Rattle.received.specs.declared.heads.Spot.{Spot}
use Rattle.received.specs.Lines.{lines_in, past_line}
use Rattle.received.specs.Slots.{Form, is_of, Slot, one, perhaps, any, AllOf, Fills, FillAll, Walked, Through, Stopped, leading, behind, first_of, past_first, after, walk}
use Rattle.received.specs.Finding.{bytes_of, spot, spot_from}
use Rattle.received.proofs.Cuts.{between, past_end, past_more, at-line, line-long, bytes-append, lines-drop}

-- ---- what a walk finds is there

leading-behind : (f : Form) (lines : List (List ℕ)) → lines ≡ leading f lines ++ behind f lines
unfolding leading behind
leading-behind f [] = refl
leading-behind f (line ∷ lines) = by (is_of f line) (leading-behind f lines)
  where
    by : (t : Bool) → lines ≡ leading f lines ++ behind f lines
        → line ∷ lines
        ≡ elim t as (λ _. List (List ℕ)) [ true ↦ line ∷ leading f lines | false ↦ [] ]
        ++ elim t as (λ _. List (List ℕ)) [ true ↦ behind f lines | false ↦ line ∷ lines ]
    by true ih = ap (λ r. line ∷ r) ih
    by false ih = refl

leading-all : (f : Form) (lines : List (List ℕ)) → AllOf f (leading f lines)
unfolding leading
leading-all f [] = tt
leading-all f (line ∷ lines) = by (is_of f line) refl (leading-all f lines)
  where
    by : (t : Bool) → is_of f line ≡ t → AllOf f (leading f lines) → AllOf f (elim t as (λ _. List (List ℕ)) [ true ↦ line ∷ leading f lines | false ↦ [] ])
    by true e ih = (e, ih)
    by false e ih = tt

first_past : (may : Bool) (f : Form) (lines : List (List ℕ)) → lines ≡ first_of may f lines ++ past_first may f lines
unfolding first_of past_first
first_past false f lines = refl
first_past true f [] = refl
first_past true f (line ∷ lines) = by (is_of f line)
  where
    by : (t : Bool)
        → line ∷ lines
        ≡ elim t as (λ _. List (List ℕ)) [ true ↦ line ∷ [] | false ↦ [] ]
        ++ elim t as (λ _. List (List ℕ)) [ true ↦ lines | false ↦ line ∷ lines ]
    by true = refl
    by false = refl

first-fills : (may : Bool) (f : Form) (lines : List (List ℕ)) → Fills (perhaps may f) (first_of may f lines)
unfolding first_of
first-fills false f lines = tt
first-fills true f [] = tt
first-fills true f (line ∷ lines) = by (is_of f line) refl
  where
    by : (t : Bool) → is_of f line ≡ t → Fills (perhaps true f) (elim t as (λ _. List (List ℕ)) [ true ↦ line ∷ [] | false ↦ [] ])
    by true e = (refl, e)
    by false e = tt

-- the groups are the slots' and stand first; or the lines before the stop do
abbrev pub Sound : List Slot → List (List ℕ) → Walked → Type 0
Sound slots lines (Through groups rest) = (lines ≡ flatten groups ++ rest) × FillAll slots groups
Sound slots lines (Stopped before) = (rest : List (List ℕ)) × (lines ≡ before ++ rest)

after-sound : (s : Slot) (slots : List Slot) (group lines : List (List ℕ)) (w : Walked) → Sound slots lines w
    → ((groups : List (List (List ℕ))) → FillAll slots groups → FillAll (s ∷ slots) (group ∷ groups)) → Sound (s ∷ slots) (group ++ lines) (after group w)
unfolding after flatten
after-sound s slots group lines (Through groups rest) (e, f) fill =
    (ap (λ r. group ++ r) e ∙ sym (append_assoc group (flatten groups) rest), fill groups f)
after-sound s slots group lines (Stopped before) (rest, e) fill = (rest, ap (λ r. group ++ r) e ∙ sym (append_assoc group before rest))

pub walk-sound : (slots : List Slot) (lines : List (List ℕ)) → Sound slots lines (walk slots lines)
unfolding walk flatten
walk-sound [] lines = (refl, tt)
walk-sound (one f ∷ slots) [] = ([], refl)
walk-sound (one f ∷ slots) (line ∷ lines) = by (is_of f line) refl (walk-sound slots lines)
  where
    by : (t : Bool) → is_of f line ≡ t → Sound slots lines (walk slots lines)
        → Sound (one f ∷ slots) (line ∷ lines) (elim t as (λ _. Walked) [ true ↦ after (line ∷ []) (walk slots lines) | false ↦ Stopped [] ])
    by true e ih = after-sound (one f) slots (line ∷ []) lines (walk slots lines) ih (λ groups g. (e, g))
    by false e ih = (line ∷ lines, refl)
walk-sound (perhaps may f ∷ slots) lines =
    subst (λ ls. Sound (perhaps may f ∷ slots) ls (after (first_of may f lines) (walk slots (past_first may f lines)))) (sym (first_past may f lines))
    (after-sound (perhaps may f) slots (first_of may f lines) (past_first may f lines) (walk slots (past_first may f lines))
    (walk-sound slots (past_first may f lines)) (λ groups g. (first-fills may f lines, g)))
walk-sound (any f ∷ slots) lines =
    subst (λ ls. Sound (any f ∷ slots) ls (after (leading f lines) (walk slots (behind f lines)))) (sym (leading-behind f lines))
    (after-sound (any f) slots (leading f lines) (behind f lines) (walk slots (behind f lines)) (walk-sound slots (behind f lines))
    (λ groups g. (leading-all f lines, g)))

-- ---- one slot, and then the others

abbrev pub after_all : List (List (List ℕ)) → Walked → Walked
after_all [] w = w
after_all (group ∷ groups) w = after group (after_all groups w)

abbrev pub next : List Slot → Walked → Walked
next slots (Through groups rest) = after_all groups (walk slots rest)
next slots (Stopped before) = Stopped before

after_next : (slots : List Slot) (group : List (List ℕ)) (w : Walked) → after group (next slots w) ≡ next slots (after group w)
unfolding after
after_next slots group (Through groups rest) = refl
after_next slots group (Stopped before) = refl

pub walk-append : (first slots : List Slot) (lines : List (List ℕ)) → walk (first ++ slots) lines ≡ next slots (walk first lines)
unfolding walk
walk-append [] slots lines = refl
walk-append (one f ∷ first) slots [] = refl
walk-append (one f ∷ first) slots (line ∷ lines) = by (is_of f line) (walk-append first slots lines)
  where
    by : (t : Bool) → walk (first ++ slots) lines ≡ next slots (walk first lines)
        → elim t as (λ _. Walked) [ true ↦ after (line ∷ []) (walk (first ++ slots) lines) | false ↦ Stopped [] ]
        ≡ next slots (elim t as (λ _. Walked) [ true ↦ after (line ∷ []) (walk first lines) | false ↦ Stopped [] ])
    by true ih = ap (after (line ∷ [])) ih ∙ after_next slots (line ∷ []) (walk first lines)
    by false ih = refl
walk-append (perhaps may f ∷ first) slots lines =
    ap (after (first_of may f lines)) (walk-append first slots (past_first may f lines))
    ∙ after_next slots (first_of may f lines) (walk first (past_first may f lines))
walk-append (any f ∷ first) slots lines =
    ap (after (leading f lines)) (walk-append first slots (behind f lines)) ∙ after_next slots (leading f lines) (walk first (behind f lines))

-- ---- where a walk ends

module _ (at line : ℕ) where
  spot-append : (xs ys : List (List ℕ)) → spot at line (xs ++ ys) ≡ spot (at + bytes_of xs) (line + length xs) ys
  spot-append xs ys =
      λ i. record {
        at = (ap (λ k. at + k) (bytes-append xs ys) ∙ sym (add_assoc at (bytes_of xs) (bytes_of ys))) i;
        line = (ap (λ k. line + k) (length-append xs ys) ∙ sym (add_assoc line (length xs) (length ys))) i;
      }

  spot-after : (group : List (List ℕ)) (w : Walked) → spot_from at line (after group w) ≡ spot_from (at + bytes_of group) (line + length group) w
  unfolding spot_from after flatten
  spot-after group (Through groups rest) = ap Ok (spot-append group (flatten groups))
  spot-after group (Stopped before) = ap (λ s. Err s.line) (spot-append group before)

  pub spot-none : spot at line [] ≡ record { at = at; line = line }
  unfolding flatten
  spot-none = λ i. record { at = add-zero at i; line = add-zero line i }

spot-all : (at line : ℕ) (groups : List (List (List ℕ))) (w : Walked) → spot_from at line (after_all groups w) ≡ spot_from (at + bytes_of (flatten groups)) (line + length (flatten groups)) w
unfolding flatten
spot-all at line [] w = λ i. spot_from (sym (add-zero at) i) (sym (add-zero line) i) w
spot-all at line (group ∷ groups) w =
    spot-after at line group (after_all groups w)
    ∙ spot-all (at + bytes_of group) (line + length group) groups w
    ∙ (λ i. spot_from (there i) (number i) w)
  where
    there : at + bytes_of group + bytes_of (flatten groups) ≡ at + bytes_of (group ++ flatten groups)
    there = add_assoc at (bytes_of group) (bytes_of (flatten groups)) ∙ ap (λ k. at + k) (sym (bytes-append group (flatten groups)))

    number : line + length group + length (flatten groups) ≡ line + length (group ++ flatten groups)
    number = add_assoc line (length group) (length (flatten groups)) ∙ ap (λ k. line + k) (sym (length-append group (flatten groups)))

-- a slot that was passed, and the walk over the others; a slot at which it stops
module _ (text : List ℕ) (at line : ℕ) (s : Slot) (slots : List Slot) where
  abbrev here : List (List ℕ)
  here = lines_in (drop at text)

  passed-by : (w : Walked) → Sound (s ∷ []) here w → (to : Spot) → Ok to ≡ spot_from at line w
      → spot_from at line (next slots w) ≡ spot_from to.at to.line (walk slots (lines_in (drop to.at text)))
  unfolding spot_from
  passed-by (Through groups rest) (e, f) to g =
      let same : spot at line (flatten groups) ≡ to = cc in
      spot-all at line groups (walk slots rest)
      ∙ ap (λ ls. spot_from (at + bytes_of (flatten groups)) (line + length (flatten groups)) (walk slots ls))
      (sym (lines-drop (flatten groups) (drop at text) rest e) ∙ ap lines_in (drop-drop (bytes_of (flatten groups)) at text))
      ∙ ap (λ p. spot_from p.at p.line (walk slots (lines_in (drop p.at text)))) same
  passed-by (Stopped before) h to g = cc

  stopped_by : (w : Walked) (n : ℕ) → Err n ≡ spot_from at line w → Err n ≡ spot_from at line (next slots w)
  unfolding spot_from
  stopped_by (Through groups rest) n g = cc
  stopped_by (Stopped before) n g = g

  pub passed : (to : Spot) → Ok to ≡ spot_from at line (walk (s ∷ []) here) → spot_from at line (walk (s ∷ slots) here) ≡ spot_from to.at to.line (walk slots (lines_in (drop to.at text)))
  passed to e = ap (spot_from at line) (walk-append (s ∷ []) slots here) ∙ passed-by (walk (s ∷ []) here) (walk-sound (s ∷ []) here) to e

  pub stopped : (n : ℕ) → Err n ≡ spot_from at line (walk (s ∷ []) here) → Err n ≡ spot_from at line (walk (s ∷ slots) here)
  stopped n e = stopped_by (walk (s ∷ []) here) n e ∙ sym (ap (spot_from at line) (walk-append (s ∷ []) slots here))

-- ---- one slot by its lines

module _ (f : Form) (text : List ℕ) (at line : ℕ) where
  abbrev pub ends : Slot → Result Spot ℕ
  ends s = spot_from at line (walk (s ∷ []) (lines_in (drop at text)))

  pub none-there : length text ≤ at → Err line ≡ ends (one f)
  unfolding walk spot_from
  none-there h = sym (ap (λ ls. spot_from at line (walk (one f ∷ []) ls)) (past_end text at h) ∙ ap Err (add-zero line))

  module _ (h : at < length text) where
    abbrev first : List ℕ
    first = between text at (past_line text at)

    abbrev others : List (List ℕ)
    others = lines_in (drop (past_line text at) text)

    along : (rest : List (List ℕ)) → spot at line (first ∷ rest) ≡ spot (past_line text at) (line + 1) rest
    unfolding flatten
    along rest =
        let n : at + length (first ++ flatten rest) ≡ past_line text at + length (flatten rest) =
        omega (arith, length-append first (flatten rest), line-long text at h, past_more text at h) in
        λ i. record { at = n i; line = m i }
      where
        m : line + suc (length rest) ≡ line + 1 + length rest
        m = omega arith

    pub not-of : is_of f first ≡ false → Err line ≡ ends (one f)
    unfolding walk spot_from
    not-of e =
        sym (ap (λ ls. spot_from at line (walk (one f ∷ []) ls)) (at-line text at h)
        ∙ ap (λ t. spot_from at line (elim t as (λ _. Walked) [ true ↦ after (first ∷ []) (Through [] others) | false ↦ Stopped [] ])) e
        ∙ ap Err (add-zero line))

    pub is-of : is_of f first ≡ true → Ok (record { at = past_line text at; line = line + 1 }) ≡ ends (one f)
    unfolding walk spot_from after flatten
    is-of e =
        sym (ap (λ ls. spot_from at line (walk (one f ∷ []) ls)) (at-line text at h)
        ∙ ap (λ t. spot_from at line (elim t as (λ _. Walked) [ true ↦ after (first ∷ []) (Through [] others) | false ↦ Stopped [] ])) e
        ∙ ap Ok (along [] ∙ spot-none (past_line text at) (line + 1)))

  -- ---- one line or none

  pub not_there : {may : Bool} → may ≡ false → Ok (record { at = at; line = line }) ≡ ends (perhaps may f)
  unfolding walk spot_from after flatten first_of past_first
  not_there e = sym (ap (λ m. ends (perhaps m f)) e ∙ ap Ok (spot-none at line))

  there-by : (lines : List (List ℕ))
      → Ok (result_unwrap_or (spot_from at line (walk (one f ∷ []) lines)) (record { at = at; line = line })) ≡ spot_from at line (walk (perhaps true f ∷ []) lines)
  unfolding walk spot_from after flatten first_of past_first
  there-by [] = sym (ap Ok (spot-none at line))
  there-by (l ∷ lines) = by (is_of f l)
    where
      by : (t : Bool)
          → Ok (result_unwrap_or (spot_from at line (elim t as (λ _. Walked) [ true ↦ after (l ∷ []) (Through [] lines) | false ↦ Stopped [] ])) (record { at = at; line = line }))
          ≡ spot_from at line
          (after (elim t as (λ _. List (List ℕ)) [ true ↦ l ∷ [] | false ↦ [] ])
          (Through [] (elim t as (λ _. List (List ℕ)) [ true ↦ lines | false ↦ l ∷ lines ])))
      by true = refl
      by false = sym (ap Ok (spot-none at line))

  pub if-there : {may : Bool} → may ≡ true → {r : Result Spot ℕ} → r ≡ ends (one f) → Ok (result_unwrap_or r (record { at = at; line = line })) ≡ ends (perhaps may f)
  if-there e p =
      ap (λ q. Ok (result_unwrap_or q (record { at = at; line = line }))) p
      ∙ there-by (lines_in (drop at text))
      ∙ ap (λ m. ends (perhaps m f)) (sym e)

-- ---- any number of lines: none is left, or one and then the others

module _ (f : Form) (at line : ℕ) where
  any-spot : (lines : List (List ℕ)) → Ok (spot at line (leading f lines)) ≡ spot_from at line (walk (any f ∷ []) lines)
  unfolding walk spot_from after flatten
  any-spot lines = ap (λ ls. Ok (spot at line ls)) (sym (append-nil (leading f lines)))

  none-leads : (lines : List (List ℕ)) (n : ℕ) → Err n ≡ spot_from at line (walk (one f ∷ []) lines) → leading f lines ≡ []
  unfolding walk spot_from after leading
  none-leads [] n e = refl
  none-leads (l ∷ lines) n e = by (is_of f l) e
    where
      by : (t : Bool) → Err n ≡ spot_from at line (elim t as (λ _. Walked) [ true ↦ after (l ∷ []) (Through [] lines) | false ↦ Stopped [] ])
          → elim t as (λ _. List (List ℕ)) [ true ↦ l ∷ leading f lines | false ↦ [] ] ≡ []
      by true e = cc
      by false e = refl

  record OneLeads (lines : List (List ℕ)) (to : Spot) : Type 0 where
    first : List ℕ
    rest : List (List ℕ)
    parted : lines ≡ first ∷ rest
    leads : leading f lines ≡ first ∷ leading f rest
    there : spot at line (first ∷ []) ≡ to

  one-leads : (lines : List (List ℕ)) (to : Spot) → Ok to ≡ spot_from at line (walk (one f ∷ []) lines) → OneLeads lines to
  unfolding walk spot_from after leading flatten
  one-leads [] to e = cc
  one-leads (l ∷ lines) to e = by (is_of f l) refl e
    where
      by : (t : Bool) → is_of f l ≡ t → Ok to ≡ spot_from at line (elim t as (λ _. Walked) [ true ↦ after (l ∷ []) (Through [] lines) | false ↦ Stopped [] ]) → OneLeads (l ∷ lines) to
      by true t e =
          record {
            first = l;
            rest = lines;
            parted = refl;
            leads = ap (λ b. elim b as (λ _. List (List ℕ)) [ true ↦ l ∷ leading f lines | false ↦ [] ]) t;
            there = cc;
          }
      by false t e = cc

module _ (f : Form) (text : List ℕ) (at line : ℕ) where
  pub any-ends : (n : ℕ) → Err n ≡ ends f text at line (one f) → Ok (record { at = at; line = line }) ≡ ends f text at line (any f)
  any-ends n e =
      let here = lines_in (drop at text) in
      ap Ok (sym (ap (spot at line) (none-leads f at line here n e) ∙ spot-none at line)) ∙ any-spot f at line here

  pub any-next : (to : Spot) → Ok to ≡ ends f text at line (one f) → ends f text to.at to.line (any f) ≡ ends f text at line (any f)
  any-next to e =
      let here = lines_in (drop at text) in
      let o = one-leads f at line here to e in
      let behind : lines_in (drop to.at text) ≡ o.rest =
      ap (λ p. lines_in (drop p.at text)) (sym o.there)
      ∙ ap lines_in (sym (drop-drop (bytes_of (o.first ∷ [])) at text))
      ∙ lines-drop (o.first ∷ []) (drop at text) o.rest o.parted in
      ap (λ ls. spot_from to.at to.line (walk (any f ∷ []) ls)) behind
      ∙ sym (any-spot f to.at to.line o.rest)
      ∙ ap (λ p. Ok (spot p.at p.line (leading f o.rest))) (sym o.there)
      ∙ ap Ok (sym (spot-append at line (o.first ∷ []) (leading f o.rest)))
      ∙ ap (λ ls. Ok (spot at line ls)) (sym o.leads)
      ∙ any-spot f at line here
