-- What is read is what a text says, and everything that a text says is read.
use mathlib.Core.Path.{◌≡◌, refl, sym, ◌∙◌, ap, ap₂, subst}
use mathlib.Core.Logic.{◌↔◌, ◌⊎◌, inl, inr}
use mathlib.Core.Bool.{Bool, true, false}
use mathlib.Core.List.{List, [], ◌∷◌, ◌++◌, flatten, map, append_assoc}
use Prim.Native.Nat.{ℕ, ◌+◌, ◌-◌}
use native.Mathlib.Omega.{arith}
use lib.ListN.{length, take, drop, get_or}
use lib.Seq.{get_or_at}
use Rattle.calendar.specs.Text.{same_text}
use Rattle.calendar.proofs.Back.{same_true, same_refl}
use Rattle.integers.specs.Tests.{fails, clash}
use Rattle.message.specs.Message.{says, time_after}
use Rattle.message.specs.declared.Edition.{Edition}
use Rattle.received.specs.Lines.{lines_in}
use Rattle.received.specs.Data.{Point, line_of, points_in, first_seconds, last_seconds}
use Rattle.received.specs.Slots.{Through, walk}
use Rattle.received.specs.Profile.{slots}
use Rattle.received.specs.Messages.{Message, head_of, lines_with, lines_of, Every, Holds, Says, Readable, ButForTimes}
use Rattle.received.specs.Reading.{Read, Reads, Stops, start_slot, stop_slot, number_at, unless, read_by, read_lines, read_of, message_in}
use Rattle.readable.specs.Lines.{IsLine}
use Rattle.readable.specs.Stopping.{TimesLast}
use Rattle.readable.specs.Answering.{head_in}
use Rattle.readable.proofs.Lines.{flat_append, together, found-again}
use Rattle.readable.proofs.Heads.{Parts, message_of, parts_of, head_from, message-found}
use Rattle.readable.proofs.Ended.{every_append, start-printable, stop-printable, head-ends, points-end, flat-ends}
use Rattle.readable.proofs.Outcomes.{Good, holds_of, lines_from, But, but-to, Outcome, halts, goes, outcome, all-of-them, read-but, Behind, all_read_lem, not-all, behind-head}

-- ---- two answers

abbrev is_stop : Read → ℕ
is_stop (Reads groups points) = 0
is_stop (Stops n) = 1

pub not-both {ℓ} : {A : Type ℓ} {groups : List (List (List ℕ))} {points : List Point} {n : ℕ} → Reads groups points ≡ Stops n → A
not-both e = absurd (omega (arith, ap is_stop e))

abbrev stop_of : Read → ℕ
stop_of (Reads groups points) = 0
stop_of (Stops n) = n

pub same_stop : {m n : ℕ} → Stops m ≡ Stops n → m ≡ n
same_stop e = ap stop_of e

abbrev groups_in : Read → List (List (List ℕ))
groups_in (Reads groups points) = groups
groups_in (Stops n) = []

abbrev points_of : Read → List Point
points_of (Reads groups points) = points
points_of (Stops n) = []

pub same-groups : {groups others : List (List (List ℕ))} {points more : List Point} → Reads groups points ≡ Reads others more → groups ≡ others
same-groups e = ap groups_in e

same_points : {groups others : List (List (List ℕ))} {points more : List Point} → Reads groups points ≡ Reads others more → points ≡ more
same_points e = ap points_of e

-- ---- the lines of a text that says a message

all_end : {e : Edition} (p : Parts e) (points : List Point) → Good points → Every IsLine (lines_from p points)
all_end p points g = every_append IsLine (flatten (head_from p)) (map line_of points) (flat-ends (head_from p) (head-ends p)) (points-end points g.are-points)

-- lines that are readable but for the two times are the lines of their text
pub but-found : {e : Edition} (lines : List (List ℕ)) → But e lines → lines_in (flatten lines) ≡ lines
but-found lines b = found-again lines (subst (Every IsLine) (sym b.lines_are) (all_end b.head b.points b.good))

-- the parts of a message with its own times
abbrev pub own_parts : {e : Edition} (m : Message) → Holds e m → Parts e
own_parts m h =
    parts_of m h (time_after (first_seconds m.points)) (time_after (last_seconds m.points))
    (start-printable (first_seconds m.points)) (stop-printable (last_seconds m.points))

abbrev pub own-but : {e : Edition} (m : Message) (h : Holds e m) → But e (lines_of e m)
own-but m h =
    record {
      head = own_parts m h;
      points = m.points;
      good = record { some = h.some; are-points = h.points; rising = h.rising };
      lines_are = refl;
    }

pub says-lines : {e : Edition} (text : List ℕ) (m : Message) → Says e text m → lines_in text ≡ lines_of e m
says-lines {e} text m s = ap lines_in s.text-is ∙ but-found (lines_of e m) (own-but m s.holds)

-- ---- sound

-- lines whose two times are right
pub right-times : {e : Edition} (text : List ℕ) (b : But e (lines_in text)) → b.head.start.0 ≡ time_after (first_seconds b.points) → b.head.stop.0 ≡ time_after (last_seconds b.points)
    → Says e text (message_of b.head b.points)
right-times {e} text b s t =
    let m = message_of b.head b.points in
    record {
      holds = holds_of b.head b.points b.good;
      text-is = sym (together text) ∙ ap flatten (b.lines_are ∙ ap₂ (λ x y. lines_with e m x y) s t);
    }

module _ {e : Edition} (text : List ℕ) (groups : List (List (List ℕ))) (points : List Point) where
  by-times : (b : But e (lines_in text)) (s t : Bool)
      → same_text b.head.start.0 (time_after (first_seconds b.points)) ≡ s → same_text b.head.stop.0 (time_after (last_seconds b.points)) ≡ t
      → unless s (number_at (head_from b.head) start_slot) (unless t (number_at (head_from b.head) stop_slot) (Reads (head_from b.head) b.points)) ≡ Reads groups points
      → Says e text (message_in groups points)
  unfolding unless
  by-times b true true s t q =
      let m : message_of b.head b.points ≡ message_in groups points =
      sym (message-found b.head b.points) ∙ ap₂ message_in (same-groups q) (same_points q) in
      subst (Says e text) m (right-times text b (same_true _ _ s) (same_true _ _ t))
  by-times b true false s t q = not-both (sym q)
  by-times b false t s _ q = not-both (sym q)

  by-but : But e (lines_in text) → read_lines e (lines_in text) ≡ Reads groups points → Says e text (message_in groups points)
  by-but b q =
      by-times b (same_text b.head.start.0 (time_after (first_seconds b.points))) (same_text b.head.stop.0 (time_after (last_seconds b.points)))
      refl refl (sym (read-but (lines_in text) b) ∙ q)

pub sound : (e : Edition) (text : List ℕ) (groups : List (List (List ℕ))) (points : List Point) → read_of e text ≡ Reads groups points → Says e text (message_in groups points)
unfolding read_of read_lines read_by
sound e text groups points q = by (outcome e (lines_in text))
  where
    behind : (p : Parts e) (rest : List (List ℕ)) → walk (slots e) (lines_in text) ≡ Through (head_from p) rest → lines_in text ≡ flatten (head_from p) ++ rest → Behind p rest
        → Says e text (message_in groups points)
    behind p rest w l (all_read_lem a) =
        let (g, r) = all-of-them rest a in
        by-but text groups points (record { head = p; points = points_in 0 rest; good = g; lines_are = l ∙ ap (λ x. flatten (head_from p) ++ x) r }) q
    behind p rest w l (not-all a s) = not-both (sym q ∙ ap read_by w ∙ s)

    by : Outcome e (lines_in text) → Says e text (message_in groups points)
    by (halts before w h) = not-both (sym q ∙ ap read_by w)
    by (goes p rest w l c) = behind p rest w l (behind-head p rest)

-- ---- complete

pub complete : (e : Edition) (text : List ℕ) (m : Message) → Says e text m → (read_of e text ≡ Reads (head_in e m) m.points) × (message_in (head_in e m) m.points ≡ m)
unfolding read_of unless
complete e text m s =
    let b = own-but m s.holds in
    let r : read_lines e (lines_of e m) ≡ Reads (head_in e m) m.points =
    read-but (lines_of e m) b ∙ rw (same_refl (time_after (first_seconds m.points)), same_refl (time_after (last_seconds m.points))) refl in
    (ap (read_lines e) (says-lines text m s) ∙ r, message-found b.head m.points)

pub unique : (e : Edition) (text : List ℕ) (m n : Message) → Says e text m → Says e text n → m ≡ n
unique e text m n s t =
    let (d, p) = complete e text m s in
    let (f, q) = complete e text n t in
    let r = sym d ∙ f in
    sym p ∙ ap₂ message_in (same-groups r) (same_points r) ∙ q

pub exactly : (e : Edition) (text : List ℕ) → ((n : ℕ) × (read_of e text ≡ Stops n)) ↔ (¬ Readable e text)
exactly e text = ((λ (n, q) (m, s). not-both (sym (complete e text m s).0 ∙ q)), λ h. by h (read_of e text) refl)
  where
    by : ¬ Readable e text → (r : Read) → read_of e text ≡ r → (n : ℕ) × (read_of e text ≡ Stops n)
    by h (Reads groups points) q = absurd (h (message_in groups points, sound e text groups points q))
    by h (Stops n) q = (n, q)

-- ---- the two times, each at its own line

-- the line of a group of one, between other groups
own_line : (before : List (List (List ℕ))) (line : List ℕ) (behind : List (List (List ℕ))) (rest lines : List (List ℕ)) (number : ℕ)
    → lines ≡ flatten (before ++ ((line ∷ []) ∷ behind)) ++ rest → number ≡ 1 + length (flatten before) → get_or lines (number - 1) [] ≡ line
unfolding flatten
own_line before line behind rest lines number e n =
    let i : length (flatten before) ≡ number - 1 = omega (arith, n) in
    let l : lines ≡ flatten before ++ (line ∷ (flatten behind ++ rest)) =
    e ∙ ap (λ x. x ++ rest) (flat_append before ((line ∷ []) ∷ behind)) ∙ append_assoc (flatten before) (line ∷ flatten behind) rest in
    ap (λ x. get_or x (number - 1) []) l ∙ get_or_at (flatten before) line (flatten behind ++ rest) [] (number - 1) i

alike : (s t : List ℕ) → s ≡ t → same_text s t ≡ true
alike s t e = ap (same_text s) (sym e) ∙ same_refl s

unlike : (s t : List ℕ) → ¬ (s ≡ t) → same_text s t ≡ false
unlike s t h = fails (same_text s t) (λ e. h (same_true s t e))

not_alike : (s t : List ℕ) → same_text s t ≡ false → ¬ (s ≡ t)
not_alike s t h e = clash (alike s t e) h

-- which of two tests fails first
first-fails : (s first t last : List ℕ) (a b : ℕ) (r : Read) (n : ℕ) (p q : Bool) → same_text s first ≡ p → same_text t last ≡ q → ¬ (r ≡ Stops n)
    → unless p a (unless q b r) ≡ Stops n
    → ((n ≡ a) × (¬ (s ≡ first))) ⊎ ((n ≡ b) × ((s ≡ first) × (¬ (t ≡ last))))
unfolding unless
first-fails s first t last a b r n true true e f h g = absurd (h g)
first-fails s first t last a b r n true false e f h g = inr (sym (same_stop g), (same_true s first e, not_alike t last f))
first-fails s first t last a b r n false q e f h g = inl (sym (same_stop g), not_alike s first e)

pub times-last : (e : Edition) (text : List ℕ) (b : ButForTimes e (lines_in text)) → TimesLast e text b
unfolding read_of unless number_at
times-last e text b =
    let c = but-to (lines_in text) b in
    let first = time_after (first_seconds b.message.points) in
    let last = time_after (last_seconds b.message.points) in
    let head = head_of e b.message b.start b.stop in
    let rest = map line_of b.message.points in
    let q = read-but (lines_in text) c in
    record {
      start_wrong = λ s. q ∙ rw (unlike b.start first s) refl;
      stop_wrong = λ s t. q ∙ rw (alike b.start first s, unlike b.stop last t) refl;
      both_right = right-times text c;
      stops_by = λ n f.
          first-fails b.start first b.stop last (number_at head start_slot) (number_at head stop_slot) (Reads head b.message.points) n
          (same_text b.start first) (same_text b.stop last) refl refl (λ g. not-both g) (sym q ∙ f);
      start_line = own_line (take 13 head) (says "START_TIME" b.start) (drop 14 head) rest (lines_in text) (number_at head start_slot) b.lines_are refl;
      stop_line = own_line (take 14 head) (says "STOP_TIME" b.stop) (drop 15 head) rest (lines_in text) (number_at head stop_slot) b.lines_are refl;
    }
