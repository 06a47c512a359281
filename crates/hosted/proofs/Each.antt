-- One call from C: on the image of a record it does what the call does on the record; and when it gives 14.
use Prim.Native.Nat.{ℕ}
use mathlib.Core.Path.{◌≡◌, refl, sym, ap, ◌∙◌, subst}
use mathlib.Core.Logic.{◌↔◌, ⊎_elim}
use mathlib.Core.Bool.{Bool, true, false, cond}
use mathlib.Core.List.{List}
use native.Mathlib.Nat.{suc-ne-zero}
use lib.Dec.{eqb}
use lib.ListN.{length}
use borrow.Author.Tests.{eqb-true, eq-eqb}
use Rattle.integers.specs.Tests.{◌and◌, clash, fails}
use Rattle.rules.specs.Rules.{NotZero, Decides}
use Rattle.rules.proofs.Readings.{decides, both}
use Rattle.session.specs.declared.Session.{Session}
use Rattle.session.specs.Moves.{closed_session}
use Rattle.session.specs.Holding.{holds}
use Rattle.session.specs.Requests.{Request}
use Rattle.session.proofs.Kept.{closed-fails}
use Rattle.steps.specs.declared.Answer.{Answer}
use Rattle.steps.specs.Refusals.{open_refusal}
use Rattle.steps.specs.Steps.{open_of, open_answer, predict_answer, correct_answer, withdraw_answer}
use Rattle.steps.proofs.Answers.{predict-answers, correct-answers, withdraw-answers}
use Rattle.steps.proofs.Left.{open-closes}
use Rattle.demands.specs.Histories.{ours, step, event}
use Rattle.demands.specs.Theorems.{Plain}
use Rattle.demands.proofs.Rounds.{unopen}
use Rattle.demands.proofs.Records.{settled-record, awaiting-record, open-record}
use Rattle.image.specs.Layout.{image_length}
use Rattle.image.specs.Standing.{stands, standing, image_of}
use Rattle.image.specs.Shapes.{Shaped}
use Rattle.image.specs.Reading.{held_in, is_image}
use Rattle.image.proofs.Stands.{stands-so, stands-not, closed-alike}
use Rattle.image.proofs.Images.{held_back, accepted-exactly}
use Rattle.image.proofs.Left.{settled-stands, awaiting-stands}
use Rattle.host.specs.Answers.{answer_length, answer_bytes}
use Rattle.host.specs.Calls.{Left, handed, untouched, is_answer, host_open, on_image}
use Rattle.hosted.specs.Runs.{Asks, predicts, corrects, withdraws, on_host, on_record, answer_of}
use Rattle.hosted.proofs.Numbers.{open-not-14, predict-not-14, correct-not-14, withdraw-not-14}

-- ---- the calls on a record: what each leaves and answers

abbrev pub left_by : Asks → Session → Session
left_by call s = step ours s (on_record call)

abbrev pub answer_by : Asks → Session → Answer
answer_by predicts s = predict_answer s
answer_by (corrects a) s = correct_answer s a
answer_by withdraws s = withdraw_answer s

pub answers-so : (call : Asks) (s : Session) → answer_of (event ours s (on_record call)) ≡ answer_by call s
answers-so predicts s = predict-answers s
answers-so (corrects a) s = correct-answers s a
answers-so withdraws s = withdraw-answers s

never-14 : (call : Asks) (s : Session) → ¬ ((answer_by call s).number ≡ 14)
never-14 predicts s = predict-not-14 s
never-14 (corrects a) s = correct-not-14 s a
never-14 withdraws s = withdraw-not-14 s

plain : (call : Asks) → Plain (on_record call)
plain predicts = tt
plain (corrects a) = tt
plain withdraws = tt

-- ---- on what is saved of a record a call does the same as on the record

-- what holds is saved itself
pub open-stands : (s : Session) → holds s ≡ true → stands s ≡ true
open-stands s t =
    ⊎_elim (λ h. settled-stands s ((settled-record s).yes.1 h)) (λ h. awaiting-stands s ((awaiting-record s).yes.1 h)) ((open-record s).yes.0 t)

record Alike (call : Asks) (s t : Session) : Type 0 where
  image : image_of (left_by call s) ≡ image_of (left_by call t)
  answer : answer_by call s ≡ answer_by call t

on-saved : (call : Asks) (s : Session) → Alike call (standing s) s
on-saved call s = by (stands s) refl
  where
    by : (b : Bool) → stands s ≡ b → Alike call (standing s) s
    by true e = let f = stands-so s e in record { image = ap (λ t. image_of (left_by call t)) f; answer = ap (answer_by call) f }
    by false e =
        let f = stands-not s e in
        let (left, told) = unopen s (fails (holds s) (λ h. clash (open-stands s h) e)) (on_record call) (plain call) in
        let (closed, same) = unopen closed_session closed-fails (on_record call) (plain call) in
        record {
          image = ap (λ t. image_of (left_by call t)) f ∙ ap image_of closed ∙ sym (closed-alike s e) ∙ sym (ap image_of left);
          answer = ap (answer_by call) f ∙ sym (answers-so call closed_session) ∙ ap answer_of (same ∙ sym told) ∙ answers-so call s;
        }

-- ---- a call is made where a test passes, and leaves all untouched where it does not

abbrev made : Bool → Left → List ℕ → List ℕ → Left
made test left image answer = cond test left (untouched image answer)

module _ (test : Bool) {A : Type 0} (d : Decides test A) (left : Left) (other : ¬ (left.number ≡ 14)) (image answer : List ℕ) where
  exactly : ((made test left image answer).number ≡ 14) ↔ (¬ A)
  exactly = (
    (λ e a. other (ap (λ t. (made t left image answer).number) (sym (d.yes.1 a)) ∙ e)),
    (λ n. ap (λ t. (made t left image answer).number) (d.no.1 n)),
  )

  unchanged : (made test left image answer).number ≡ 14 → made test left image answer ≡ untouched image answer
  unchanged e = ap (λ t. made t left image answer) (d.no.1 (exactly.0 e))

long-enough : (answer : List ℕ) → Decides (is_answer answer) (length answer ≡ answer_length)
long-enough answer = decides (eqb-true (length answer) answer_length, eq-eqb (length answer) answer_length)

-- ---- the calls on an image

abbrev on_held : Asks → List ℕ → Left
on_held call image = handed (left_by call (held_in image)) (answer_by call (held_in image))

module _ (call : Asks) (image answer : List ℕ) where
  abbrev test : Bool
  test = is_answer answer and is_image image

  abbrev Given : Type 0
  Given = (length answer ≡ answer_length) × ((s : Session) × (Shaped s × (image ≡ image_of s)))

  pub by-test : on_host call image answer ≡ made test (on_held call image) image answer
  unfolding on_image
  by-test = go call
    where
      go : (call : Asks) → on_host call image answer ≡ made test (on_held call image) image answer
      go predicts = refl
      go (corrects a) = refl
      go withdraws = refl

  given : Decides test Given
  given = both (long-enough answer) (decides (accepted-exactly image))

  pub on-fourteen : ((on_host call image answer).number ≡ 14) ↔ (¬ Given)
  on-fourteen = subst (λ l. (l.number ≡ 14) ↔ (¬ Given)) (sym by-test) (exactly test given (on_held call image) (never-14 call (held_in image)) image answer)

  pub on-fourteen-leaves : (on_host call image answer).number ≡ 14 → on_host call image answer ≡ untouched image answer
  on-fourteen-leaves e = by-test ∙ unchanged test given (on_held call image) (never-14 call (held_in image)) image answer (ap (λ l. l.number) (sym by-test) ∙ e)

  -- an answer's slice of another length
  pub too_short : is_answer answer ≡ false → on_host call image answer ≡ untouched image answer
  too_short e = by-test ∙ ap (λ t. made (t and is_image image) (on_held call image) image answer) e

-- on the image of a record
module _ (call : Asks) (s : Session) (h : Shaped s) where
  held-alike : on_held call (image_of s) ≡ handed (left_by call s) (answer_by call s)
  held-alike =
      let same = on-saved call s in
      ap (λ t. handed (left_by call t) (answer_by call t)) (held_back s h)
      ∙ (λ i. record { number = (same.answer i).number; image = same.image i; answer = answer_bytes (same.answer i) })

  pub on-record : (answer : List ℕ) → length answer ≡ answer_length → on_host call (image_of s) answer ≡ handed (left_by call s) (answer_by call s)
  on-record answer l =
      by-test call (image_of s) answer
      ∙ ap (λ t. made t (on_held call (image_of s)) (image_of s) answer) ((given call (image_of s) answer).yes.1 (l, (s, (h, refl))))
      ∙ held-alike

-- ---- open

module _ (r : Request) (image answer : List ℕ) where
  abbrev room : Bool
  room = eqb (length image) image_length and is_answer answer

  abbrev Roomy : Type 0
  Roomy = (length image ≡ image_length) × (length answer ≡ answer_length)

  abbrev on_request : Left
  on_request = handed (open_of r).session (open_answer r)

  enough : Decides room Roomy
  enough = both (decides (eqb-true (length image) image_length, eq-eqb (length image) image_length)) (long-enough answer)

  open-by-room : host_open image answer r ≡ made room on_request image answer
  unfolding host_open
  open-by-room = refl

  pub open_made : length image ≡ image_length → length answer ≡ answer_length → host_open image answer r ≡ on_request
  open_made e f = open-by-room ∙ ap (λ t. made t on_request image answer) (enough.yes.1 (e, f))

  pub open-closed : length image ≡ image_length → length answer ≡ answer_length → NotZero (open_refusal r) → (host_open image answer r).image ≡ image_of closed_session
  open-closed e f n = ap (λ l. l.image) (open_made e f) ∙ ap image_of (open-closes r n)

  pub open-fourteen : ((host_open image answer r).number ≡ 14) ↔ (¬ Roomy)
  open-fourteen = subst (λ l. (l.number ≡ 14) ↔ (¬ Roomy)) (sym open-by-room) (exactly room enough on_request (open-not-14 r) image answer)

  pub open-fourteen-leaves : (host_open image answer r).number ≡ 14 → host_open image answer r ≡ untouched image answer
  open-fourteen-leaves e = open-by-room ∙ unchanged room enough on_request (open-not-14 r) image answer (ap (λ l. l.number) (sym open-by-room) ∙ e)

  -- by 0: nothing refused it, and the image is that of the record that is left
  pub open-succeeds : (host_open image answer r).number ≡ 0 → (open_refusal r ≡ 0) × ((host_open image answer r).image ≡ image_of (open_of r).session)
  open-succeeds e = by room open-by-room
    where
      by : (t : Bool) → host_open image answer r ≡ made t on_request image answer →
          (open_refusal r ≡ 0) × ((host_open image answer r).image ≡ image_of (open_of r).session)
      by true f = (ap (λ l. l.number) (sym f) ∙ e, ap (λ l. l.image) f)
      by false f = absurd (suc-ne-zero 13 (ap (λ l. l.number) (sym f) ∙ e))
