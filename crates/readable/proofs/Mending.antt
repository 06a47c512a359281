-- A damaged message mended: the lines that come out and the changes, or none.
use mathlib.Core.Path.{◌≡◌, refl, sym, ◌∙◌, ap}
use mathlib.Core.List.{List, [], ◌∷◌, ◌++◌, flatten, map}
use Prim.Native.Nat.{ℕ, ◌<◌}
use native.Mathlib.Omega.{arith}
use lib.ListN.{length}
use Rattle.integers.specs.Tests.{clash, fails}
use Rattle.message.specs.declared.Edition.{Edition}
use Rattle.received.specs.Lines.{lines_in}
use Rattle.received.specs.Slots.{is_of, Through, walk}
use Rattle.received.specs.Profile.{comment_form, slots}
use Rattle.received.specs.Data.{Point, line_of, point_in, kept_of, first_seconds, last_seconds}
use Rattle.received.specs.Messages.{lines_of}
use Rattle.received.specs.Reading.{start_slot, stop_slot, data_slot, number_at}
use Rattle.received.specs.Mending.{Change, drops_from, time_change, with_times, Mend, Mends, Cannot, mend_with, mend_by, mend_of}
use Rattle.readable.specs.Changes.{NoComment}
use Rattle.readable.proofs.Forms.{of-form, form_of}
use Rattle.readable.proofs.Walks.{Past}
use Rattle.readable.proofs.Runs.{KeptAs, kept-points, all-kept}
use Rattle.readable.proofs.Heads.{Parts, message_of, head_from}
use Rattle.readable.proofs.Outcomes.{Good, Outcome, halts, goes, outcome}

-- ---- two answers

abbrev is_mends : Mend → ℕ
is_mends (Mends lines changes) = 1
is_mends Cannot = 0

pub not-cannot {ℓ} : {A : Type ℓ} {lines : List (List ℕ)} {changes : List Change} → Mends lines changes ≡ Cannot → A
not-cannot e = absurd (omega (arith, ap is_mends e))

abbrev pub lines_out : Mend → List (List ℕ)
lines_out (Mends lines changes) = lines
lines_out Cannot = []

abbrev pub changes_out : Mend → List Change
changes_out (Mends lines changes) = changes
changes_out Cannot = []

-- ---- what comes out

abbrev pub changes_of : {e : Edition} → Parts e → List Point → List (List ℕ) → List Change
changes_of p points rest =
    time_change (head_from p) start_slot 2 (first_seconds points)
    ++ (time_change (head_from p) stop_slot 3 (last_seconds points) ++ drops_from (number_at (head_from p) data_slot) 0 rest)

pub mend-some : {e : Edition} (p : Parts e) (rest : List (List ℕ)) (points : List Point) → 0 < length points → kept_of 0 rest ≡ map line_of points → map point_in (map line_of points) ≡ points
    → mend_with (head_from p) rest (kept_of 0 rest) ≡ Mends (lines_of e (message_of p points)) (changes_of p points rest)
unfolding mend_with
mend-some p rest [] l e s = absurd (omega arith)
mend-some p rest (q ∷ points) l e s =
    ap (mend_with (head_from p) rest) e
    ∙ ap (λ found. Mends (flatten (with_times (head_from p) (first_seconds found) (last_seconds found)) ++ map line_of (q ∷ points)) (changes_of p found rest)) s

-- lines that are mended
pub record Done (e : Edition) (text : List ℕ) : Type 0 where
  pub head : Parts e
  pub rest : List (List ℕ)
  pub points : List Point
  pub good : Good points
  pub lines_are : lines_in text ≡ flatten (head_from head) ++ rest
  pub past : Past comment_form rest
  pub kept-are : kept_of 0 rest ≡ map line_of points
  pub gives : mend_of e text ≡ Mends (lines_of e (message_of head points)) (changes_of head points rest)

pub data Either (e : Edition) (text : List ℕ) : Type 0 where
  mends : Done e text → Either e text
  stays : mend_of e text ≡ Cannot → Either e text

pub either : (e : Edition) (text : List ℕ) → Either e text
unfolding mend_of mend_by mend_with flatten
either e text = by (outcome e (lines_in text))
  where
    behind : (p : Parts e) (rest : List (List ℕ)) → walk (slots e) (lines_in text) ≡ Through (head_from p) rest → lines_in text ≡ flatten (head_from p) ++ rest → Past comment_form rest
        → (kept : List (List ℕ)) → kept_of 0 rest ≡ kept → KeptAs 0 kept (map point_in kept) → Either e text
    behind p rest w l c [] q k = stays (ap mend_by w ∙ ap (mend_with (head_from p) rest) q)
    behind p rest w l c (line ∷ lines) q k =
        let points = map point_in (line ∷ lines) in
        let kept : kept_of 0 rest ≡ map line_of points = q ∙ k.lines_are in
        let same = (all-kept 0 0 points k.are-points k.rising).2 in
        mends (record {
          head = p;
          rest = rest;
          points = points;
          good = record { some = omega arith; are-points = k.are-points; rising = k.rising };
          lines_are = l;
          past = c;
          kept-are = kept;
          gives = ap mend_by w ∙ mend-some p rest points (omega arith) kept same;
        })

    by : Outcome e (lines_in text) → Either e text
    by (halts before w h) = stays (ap mend_by w)
    by (goes p rest w l c) = behind p rest w l c.1.1.1.1.0 (kept_of 0 rest) refl (kept-points 0 rest)

-- a first line is of the form of comments exactly where it is a comment
pub past-comments : (lines : List (List ℕ)) → Past comment_form lines → NoComment lines
past-comments [] p = tt
past-comments (line ∷ lines) p = λ (remark, (t, e)). clash (ap (is_of comment_form) e ∙ of-form comment_form remark t) p

pub comments-past : (lines : List (List ℕ)) → NoComment lines → Past comment_form lines
comments-past [] h = tt
comments-past (line ∷ lines) h = fails (is_of comment_form line) (λ t. let (e, q) = form_of comment_form line t in h (_, (q, e)))

-- a text that gives lines and changes is mended
pub mending : (e : Edition) (text : List ℕ) (out : List (List ℕ)) (changes : List Change) → mend_of e text ≡ Mends out changes → Done e text
mending e text out changes q = by (either e text)
  where
    by : Either e text → Done e text
    by (mends m) = m
    by (stays s) = not-cannot (sym q ∙ s)
