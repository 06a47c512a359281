-- Data lines one after another: those that are read, up to the first that is not, and those that are kept.
use mathlib.Core.Path.{◌≡◌, refl, sym, ◌∙◌, ap, ap₂}
use mathlib.Core.Bool.{Bool, true, false}
use mathlib.Core.List.{List, [], ◌∷◌, ◌++◌, map, Sublistᴰ}
use Prim.Native.Nat.{ℕ, suc, ◌≤◌}
use native.Mathlib.Omega.{arith}
use borrow.Author.Tests.{leb-true, le-leb}
use Rattle.integers.specs.Tests.{joined, clash, fails}
use Rattle.received.specs.Data.{Point, line_of, datum_in, point_in, accepts, points_in, kept_of}
use Rattle.received.specs.Messages.{Every, IsPoint, Rising}
use Rattle.received.specs.Mending.{Change, change, drops_from}
use Rattle.readable.specs.Keeping.{Taken, Keeps, none, keeps, drops}
use Rattle.readable.specs.Changes.{Rise, drop_of}
use Rattle.readable.proofs.Points.{data-line, line_read}

-- ---- rising numbers

pub rise-from : (least more : ℕ) (numbers : List ℕ) → least ≤ more → Rise more numbers → Rise least numbers
rise-from least more [] l r = tt
rise-from least more (n ∷ numbers) l r = (omega (arith, r.0), r.1)

-- ---- a line

module _ (earliest : ℕ) where
  pub taken : (line : List ℕ) → accepts earliest (datum_in line) ≡ true → Taken earliest line (point_in line)
  taken line h =
      let (good, late) = simp joined at h in
      let (e, p) = data-line line good in
      record { is-point = p; line-is = e; in-turn = leb-true earliest (datum_in line).seconds late }

  pub accepted : (line : List ℕ) (p : Point) → Taken earliest line p → (accepts earliest (datum_in line) ≡ true) × (point_in line ≡ p)
  accepted line p t =
      let (good, e) = line_read p t.is-point in
      let same : point_in line ≡ p = ap point_in t.line-is ∙ e in (
        simp joined (ap (λ l. (datum_in l).good) t.line-is ∙ good, rw (ap (λ q. q.seconds) same) (le-leb earliest p.seconds t.in-turn)),
        same,
      )

  pub not_taken : (line : List ℕ) → accepts earliest (datum_in line) ≡ false → ¬ ((p : Point) × Taken earliest line p)
  not_taken line h (p, t) = clash (accepted line p t).0 h

module _ (earliest : ℕ) (line : List ℕ) (lines : List (List ℕ)) where
  points-by : {t : Bool} → accepts earliest (datum_in line) ≡ t
      → points_in earliest (line ∷ lines) ≡ elim t as (λ _. List Point) [ true ↦ point_in line ∷ points_in (suc (datum_in line).seconds) lines | false ↦ [] ]
  unfolding points_in
  points-by e = ap (λ t. elim t as (λ _. List Point) [ true ↦ point_in line ∷ points_in (suc (datum_in line).seconds) lines | false ↦ [] ]) e

  kept_by : {t : Bool} → accepts earliest (datum_in line) ≡ t
      → kept_of earliest (line ∷ lines)
      ≡ elim t as (λ _. List (List ℕ)) [ true ↦ line ∷ kept_of (suc (datum_in line).seconds) lines | false ↦ kept_of earliest lines ]
  unfolding kept_of
  kept_by e =
      ap (λ t. elim t as (λ _. List (List ℕ)) [ true ↦ line ∷ kept_of (suc (datum_in line).seconds) lines | false ↦ kept_of earliest lines ]) e

-- ---- lines that are read

-- the first line that is not read settles it, whatever stands behind
abbrev pub Settles : ℕ → List Point → List (List ℕ) → Type 0
Settles earliest points [] = Unit {0}
Settles earliest points (line ∷ lines) = (more : List (List ℕ)) → points_in earliest (map line_of points ++ (line ∷ more)) ≡ points

pub record ReadTo (earliest : ℕ) (lines : List (List ℕ)) (points : List Point) : Type 0 where
  pub rest : List (List ℕ)
  pub lines_are : lines ≡ map line_of points ++ rest
  pub are-points : Every IsPoint points
  pub rising : Rising earliest points
  pub settles : Settles earliest points rest

runs-more : (earliest : ℕ) (line : List ℕ) (lines : List (List ℕ)) (p : Point) (points : List Point) → accepts earliest (datum_in line) ≡ true → point_in line ≡ p
    → Taken earliest line p → ReadTo (suc p.seconds) lines points → ReadTo earliest (line ∷ lines) (p ∷ points)
runs-more earliest line lines p points e same t r =
    record {
      rest = r.rest;
      lines_are = ap₂ (λ x y. x ∷ y) t.line-is r.lines_are;
      are-points = (t.is-point, r.are-points);
      rising = (t.in-turn, r.rising);
      settles = settled r.rest r.settles;
    }
  where
    settled : (rest : List (List ℕ)) → Settles (suc p.seconds) points rest → Settles earliest (p ∷ points) rest
    settled [] s = tt
    settled (next ∷ rest) s =
        λ more.
        let all = map line_of points ++ (next ∷ more) in
        points-by earliest (line_of p) all (ap (λ l. accepts earliest (datum_in l)) (sym t.line-is) ∙ e)
        ∙ ap (λ q. q ∷ points_in (suc q.seconds) all) (ap point_in (sym t.line-is) ∙ same)
        ∙ ap (λ x. p ∷ x) (s more)

pub runs : (earliest : ℕ) (lines : List (List ℕ)) → ReadTo earliest lines (points_in earliest lines)
unfolding points_in
runs earliest [] = record { rest = []; lines_are = refl; are-points = tt; rising = tt; settles = tt }
runs earliest (line ∷ lines) = by (accepts earliest (datum_in line)) refl (runs (suc (datum_in line).seconds) lines)
  where
    by : (t : Bool) → accepts earliest (datum_in line) ≡ t → ReadTo (suc (datum_in line).seconds) lines (points_in (suc (datum_in line).seconds) lines)
        → ReadTo earliest (line ∷ lines)
        (elim t as (λ _. List Point) [ true ↦ point_in line ∷ points_in (suc (datum_in line).seconds) lines | false ↦ [] ])
    by true e r = runs-more earliest line lines (point_in line) (points_in (suc (datum_in line).seconds) lines) e refl (taken earliest line e) r
    by false e r =
        record { rest = line ∷ lines; lines_are = refl; are-points = tt; rising = tt; settles = λ more. points-by earliest line more e }

-- ---- the lines of rising points

pub all-points : (earliest : ℕ) (points : List Point) → Every IsPoint points → Rising earliest points → points_in earliest (map line_of points) ≡ points
unfolding points_in
all-points earliest [] h r = refl
all-points earliest (p ∷ points) h r =
    let (e, same) = accepted earliest (line_of p) p (record { is-point = h.0; line-is = refl; in-turn = r.0 }) in
    points-by earliest (line_of p) (map line_of points) e
    ∙ ap (λ q. q ∷ points_in (suc q.seconds) (map line_of points)) same
    ∙ ap (λ x. p ∷ x) (all-points (suc p.seconds) points h.1 r.1)

-- ---- lines that are kept

module _ (number earliest : ℕ) (line : List ℕ) (lines : List (List ℕ)) where
  drops-by : {t : Bool} → accepts earliest (datum_in line) ≡ t
      → drops_from number earliest (line ∷ lines)
      ≡ elim t as (λ _. List Change)
      [ true ↦ drops_from (suc number) (suc (datum_in line).seconds) lines | false ↦ change number 1 ∷ drops_from (suc number) earliest lines ]
  unfolding drops_from
  drops-by e =
      ap (λ t. elim t as (λ _. List Change)
      [ true ↦ drops_from (suc number) (suc (datum_in line).seconds) lines | false ↦ change number 1 ∷ drops_from (suc number) earliest lines ]) e

-- they are the lines of rising points
pub record KeptAs (earliest : ℕ) (kept : List (List ℕ)) (points : List Point) : Type 0 where
  pub lines_are : kept ≡ map line_of points
  pub are-points : Every IsPoint points
  pub rising : Rising earliest points

pub kept-points : (earliest : ℕ) (lines : List (List ℕ)) → KeptAs earliest (kept_of earliest lines) (map point_in (kept_of earliest lines))
unfolding kept_of
kept-points earliest [] = record { lines_are = refl; are-points = tt; rising = tt }
kept-points earliest (line ∷ lines) =
    by (accepts earliest (datum_in line)) refl (kept-points (suc (datum_in line).seconds) lines) (kept-points earliest lines)
  where
    by : (t : Bool) → accepts earliest (datum_in line) ≡ t
        → KeptAs (suc (datum_in line).seconds) (kept_of (suc (datum_in line).seconds) lines) (map point_in (kept_of (suc (datum_in line).seconds) lines))
        → KeptAs earliest (kept_of earliest lines) (map point_in (kept_of earliest lines))
        → KeptAs earliest (elim t as (λ _. List (List ℕ)) [ true ↦ line ∷ kept_of (suc (datum_in line).seconds) lines | false ↦ kept_of earliest lines ])
        (map point_in (elim t as (λ _. List (List ℕ)) [ true ↦ line ∷ kept_of (suc (datum_in line).seconds) lines | false ↦ kept_of earliest lines ]))
    by true e k d =
        let t = taken earliest line e in
        record { lines_are = ap₂ (λ x y. x ∷ y) t.line-is k.lines_are; are-points = (t.is-point, k.are-points); rising = (t.in-turn, k.rising) }
    by false e k d = d

-- the numbers of the others are listed
abbrev pub numbers_of : List Change → List ℕ
numbers_of changes = map (λ c. c.line) changes

pub kept-lines : (number earliest : ℕ) (lines : List (List ℕ))
    → Keeps number earliest lines (kept_of earliest lines) (numbers_of (drops_from number earliest lines))
unfolding kept_of drops_from
kept-lines number earliest [] = none
kept-lines number earliest (line ∷ lines) =
    by (accepts earliest (datum_in line)) refl (kept-lines (suc number) (suc (datum_in line).seconds) lines) (kept-lines (suc number) earliest lines)
  where
    by : (t : Bool) → accepts earliest (datum_in line) ≡ t
        → Keeps (suc number) (suc (datum_in line).seconds) lines (kept_of (suc (datum_in line).seconds) lines)
        (numbers_of (drops_from (suc number) (suc (datum_in line).seconds) lines))
        → Keeps (suc number) earliest lines (kept_of earliest lines) (numbers_of (drops_from (suc number) earliest lines))
        → Keeps number earliest (line ∷ lines)
        (elim t as (λ _. List (List ℕ)) [ true ↦ line ∷ kept_of (suc (datum_in line).seconds) lines | false ↦ kept_of earliest lines ])
        (numbers_of (elim t as (λ _. List Change)
        [ true ↦ drops_from (suc number) (suc (datum_in line).seconds) lines | false ↦ change number 1 ∷ drops_from (suc number) earliest lines ]))
    by true e k d = keeps (point_in line) (taken earliest line e) k
    by false e k d = drops (not_taken earliest line e) d

-- those kept are lines of all, in their order
pub in_order : {number earliest : ℕ} {lines kept : List (List ℕ)} {dropped : List ℕ} → Keeps number earliest lines kept dropped → Sublistᴰ kept lines
in_order none = Sublistᴰ.slnil
in_order (keeps p t k) = Sublistᴰ.cons-cons refl (in_order k)
in_order (drops h k) = Sublistᴰ.cons (in_order k)

-- which lines are kept and which are listed is settled by what is said of them
pub keeps-settles : {number earliest : ℕ} {lines kept : List (List ℕ)} {dropped : List ℕ} → Keeps number earliest lines kept dropped
    → (kept_of earliest lines ≡ kept) × (drops_from number earliest lines ≡ map drop_of dropped)
unfolding kept_of drops_from
keeps-settles none = (refl, refl)
keeps-settles (keeps {number = number} {earliest = earliest} {line = line} {lines = lines} p t k) =
    let (e, same) = accepted earliest line p t in
    let (kept, others) = keeps-settles k in (
      kept_by earliest line lines e ∙ ap (λ q. line ∷ kept_of (suc q.seconds) lines) same ∙ ap (λ x. line ∷ x) kept,
      drops-by number earliest line lines e ∙ ap (λ q. drops_from (suc number) (suc q.seconds) lines) same ∙ others,
    )
keeps-settles (drops {number = number} {earliest = earliest} {line = line} {lines = lines} h k) =
    let e = fails (accepts earliest (datum_in line)) (λ a. h (point_in line, taken earliest line a)) in
    let (kept, others) = keeps-settles k in
    (kept_by earliest line lines e ∙ kept, drops-by number earliest line lines e ∙ ap (λ x. change number 1 ∷ x) others)

-- each as a dropped line, and in rising order
pub record Drops (number : ℕ) (changes : List Change) : Type 0 where
  pub dropped : changes ≡ map drop_of (numbers_of changes)
  pub rise : Rise number (numbers_of changes)

pub all-drops : (number earliest : ℕ) (lines : List (List ℕ)) → Drops number (drops_from number earliest lines)
unfolding drops_from
all-drops number earliest [] = record { dropped = refl; rise = tt }
all-drops number earliest (line ∷ lines) =
    by (accepts earliest (datum_in line)) (all-drops (suc number) (suc (datum_in line).seconds) lines) (all-drops (suc number) earliest lines)
  where
    by : (t : Bool) → Drops (suc number) (drops_from (suc number) (suc (datum_in line).seconds) lines) → Drops (suc number) (drops_from (suc number) earliest lines)
        → Drops number (elim t as (λ _. List Change)
        [ true ↦ drops_from (suc number) (suc (datum_in line).seconds) lines | false ↦ change number 1 ∷ drops_from (suc number) earliest lines ])
    by true k d =
        let numbers = numbers_of (drops_from (suc number) (suc (datum_in line).seconds) lines) in
        record { dropped = k.dropped; rise = rise-from number (suc number) numbers (omega arith) k.rise }
    by false k d = record { dropped = ap (λ x. change number 1 ∷ x) d.dropped; rise = (omega arith, d.rise) }

-- the lines of rising points are all kept
pub all-kept : (number earliest : ℕ) (points : List Point) → Every IsPoint points → Rising earliest points
    → (kept_of earliest (map line_of points) ≡ map line_of points) × (drops_from number earliest (map line_of points) ≡ []) × (map point_in (map line_of points) ≡ points)
unfolding kept_of drops_from
all-kept number earliest [] h r = (refl, refl, refl)
all-kept number earliest (p ∷ points) h r =
    let lines = map line_of points in
    let (e, same) = accepted earliest (line_of p) p (record { is-point = h.0; line-is = refl; in-turn = r.0 }) in
    let (k, d, m) = all-kept (suc number) (suc p.seconds) points h.1 r.1 in (
      kept_by earliest (line_of p) lines e ∙ ap (λ q. line_of p ∷ kept_of (suc q.seconds) lines) same ∙ ap (λ x. line_of p ∷ x) k,
      drops-by number earliest (line_of p) lines e ∙ ap (λ q. drops_from (suc number) (suc q.seconds) lines) same ∙ d,
      ap₂ (λ x y. x ∷ y) same m,
    )
