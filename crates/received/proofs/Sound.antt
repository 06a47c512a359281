-- What is read is there: a text that is read is just the lines of the message that was read.
use mathlib.Core.Path.{◌≡◌, refl, sym, ◌∙◌, ap, subst}
use mathlib.Core.Bool.{Bool, true, false}
use mathlib.Core.List.{List, [], ◌∷◌, ◌++◌, flatten, map}
use Prim.Native.Nat.{ℕ, suc, ◌+◌, ◌<◌}
use native.Mathlib.Omega.{arith}
use lib.ListN.{length}
use borrow.Author.Tests.{ltb-true, leb-true, eqb-true}
use Rattle.integers.specs.Tests.{joined}
use Rattle.calendar.specs.Text.{same_text}
use Rattle.calendar.proofs.Back.{same_true}
use Rattle.message.specs.declared.Edition.{Edition}
use Rattle.message.specs.Message.{time_after}
use Rattle.received.specs.Lines.{lines_in}
use Rattle.received.specs.Slots.{FillAll, Walked, Through, Stopped, walk}
use Rattle.received.specs.Profile.{slots}
use Rattle.received.specs.Data.{Point, line_of, datum_in, point_in, accepts, points_in, first_seconds, last_seconds}
use Rattle.received.specs.Messages.{head_of, Every, IsPoint, Rising, Says}
use Rattle.received.specs.Reading.{Read, Reads, Stops, rest_at, number_at, unless, all_read, read_behind, read_by, read_lines, read_of, message_in}
use Rattle.received.specs.Finding.{groups_of, is_through}
use Rattle.received.proofs.Cuts.{lines-back}
use Rattle.received.proofs.Walks.{Sound, walk-sound}
use Rattle.received.proofs.Points.{datum-sound}
use Rattle.received.proofs.Groups.{head-back, head-holds}

-- ---- data lines that are all read

record AllData (earliest : ℕ) (lines : List (List ℕ)) (points : List Point) : Type 0 where
  lines_are : lines ≡ map line_of points
  each : Every IsPoint points
  rising : Rising earliest points

data-sound : (earliest : ℕ) (lines : List (List ℕ)) → length (points_in earliest lines) ≡ length lines → AllData earliest lines (points_in earliest lines)
unfolding points_in
data-sound earliest [] e = record { lines_are = refl; each = tt; rising = tt }
data-sound earliest (line ∷ lines) e = by (accepts earliest (datum_in line)) refl e (data-sound (suc (datum_in line).seconds) lines)
  where
    by : (t : Bool) → accepts earliest (datum_in line) ≡ t
        → length {A = Point} (elim t as (λ _. List Point) [ true ↦ point_in line ∷ points_in (suc (datum_in line).seconds) lines | false ↦ [] ]) ≡ suc (length lines)
        → (length (points_in (suc (datum_in line).seconds) lines) ≡ length lines → AllData (suc (datum_in line).seconds) lines (points_in (suc (datum_in line).seconds) lines))
        → AllData earliest (line ∷ lines) (elim t as (λ _. List Point) [ true ↦ point_in line ∷ points_in (suc (datum_in line).seconds) lines | false ↦ [] ])
    by true t e ih =
        let (g, l) = simp joined at t in
        let s = datum-sound line g in
        let more = ih (omega arith) in
        record {
          lines_are = λ i. s.line-is i ∷ more.lines_are i;
          each = (s.point-is, more.each);
          rising = (leb-true earliest (datum_in line).seconds l, more.rising);
        }
    by false t e ih = absurd (omega arith)

-- ---- a text that is read

abbrev is_reads : Read → ℕ
is_reads (Reads groups points) = 1
is_reads (Stops n) = 0

abbrev groups_read : Read → List (List (List ℕ))
groups_read (Reads groups points) = groups
groups_read (Stops n) = []

abbrev points_read : Read → List Point
points_read (Reads groups points) = points
points_read (Stops n) = []

pub no_stop : {n : ℕ} {groups : List (List (List ℕ))} {points : List Point} → Stops n ≡ Reads groups points → ⊥
no_stop e = let z : ◌≡◌ {A = ℕ} 0 1 = ap is_reads e in omega arith

unless-reads : (t : Bool) (n : ℕ) (r : Read) {groups : List (List (List ℕ))} {points : List Point} → unless t n r ≡ Reads groups points → (t ≡ true) × (r ≡ Reads groups points)
unfolding unless
unless-reads true n r e = (refl, e)
unless-reads false n r e = absurd (no_stop e)

pub record WasRead (e : Edition) (lines : List (List ℕ)) (groups : List (List (List ℕ))) (points : List Point) : Type 0 where
  pub rest : List (List ℕ)
  pub lines_are : lines ≡ flatten groups ++ rest
  pub fill : FillAll (slots e) groups
  pub points-are : points ≡ points_in 0 rest
  pub all : all_read points rest ≡ true
  pub start : rest_at groups 13 ≡ time_after (first_seconds points)
  pub stop : rest_at groups 14 ≡ time_after (last_seconds points)
  pub through : is_through (walk (slots e) lines) ≡ true
  pub groups-are : groups_of (walk (slots e) lines) ≡ groups

by-walk : (e : Edition) (lines : List (List ℕ)) (w : Walked) → walk (slots e) lines ≡ w → Sound (slots e) lines w → {groups : List (List (List ℕ))} {points : List Point} → read_by w ≡ Reads groups points
    → WasRead e lines groups points
unfolding read_by read_behind
by-walk e lines (Through gs rest) q (l, f) {groups} {points} r =
    let ps = points_in 0 rest in
    let (a, e1) = unless-reads (all_read ps rest) (number_at gs 17 + length ps) _ r in
    let (b, e2) = unless-reads (same_text (rest_at gs 13) (time_after (first_seconds ps))) (number_at gs 13) _ e1 in
    let (c, e3) = unless-reads (same_text (rest_at gs 14) (time_after (last_seconds ps))) (number_at gs 14) (Reads gs ps) e2 in
    let here : WasRead e lines gs ps =
    record {
      rest = rest;
      lines_are = l;
      fill = f;
      points-are = refl;
      all = a;
      start = same_true (rest_at gs 13) (time_after (first_seconds ps)) b;
      stop = same_true (rest_at gs 14) (time_after (last_seconds ps)) c;
      through = ap is_through q;
      groups-are = ap groups_of q;
    } in
    subst (λ r. WasRead e lines (groups_read r) (points_read r)) e3 here
by-walk e lines (Stopped before) q s r = absurd (no_stop r)

pub was_read : (e : Edition) (lines : List (List ℕ)) {groups : List (List (List ℕ))} {points : List Point} → read_lines e lines ≡ Reads groups points → WasRead e lines groups points
unfolding read_lines
was_read e lines r = by-walk e lines (walk (slots e) lines) refl (walk-sound (slots e) lines) r

all-counted : (points : List Point) (lines : List (List ℕ)) → all_read points lines ≡ true → (0 < length points) × (length points ≡ length lines)
unfolding all_read
all-counted points lines a = let (p, q) = simp joined at a in (ltb-true 0 (length points) p, eqb-true (length points) (length lines) q)

-- ---- and so it says the message

module _ (e : Edition) (text : List ℕ) {groups : List (List (List ℕ))} {points : List Point} (r : read_of e text ≡ Reads groups points) where
  pub found : WasRead e (lines_in text) groups points
  unfolding read_of
  found = was_read e (lines_in text) r

  pub counts : (0 < length points) × (length points ≡ length found.rest)
  counts = all-counted points found.rest found.all

  all-data : AllData 0 found.rest points
  all-data =
      subst (AllData 0 found.rest) (sym found.points-are)
      (data-sound 0 found.rest (ap length (sym found.points-are) ∙ counts.1))

  pub read-says : Says e text (message_in groups points)
  unfolding message_in
  read-says =
      record {
        holds = head-holds e groups found.fill points counts.0 all-data.each all-data.rising;
        text-is =
            sym (lines-back text)
            ∙ ap flatten
            (found.lines_are
            ∙ (λ i. flatten (head i) ++ all-data.lines_are i));
      }
    where
      head : groups ≡ head_of e (message_in groups points) (time_after (first_seconds points)) (time_after (last_seconds points))
      head = head-back e groups found.fill points ∙ (λ i. head_of e (message_in groups points) (found.start i) (found.stop i))
