-- Calls from C one after the other: the image that they leave and what they tell are those of the same calls on a record.
use Prim.Native.Nat.{ℕ}
use mathlib.Core.Path.{◌≡◌, refl, sym, ap, ◌∙◌}
use mathlib.Core.Bool.{Bool, true, false, cond}
use mathlib.Core.List.{List, [], ◌∷◌, map}
use lib.ListN.{length}
use borrow.Author.Tests.{eqb-true}
use Rattle.session.specs.declared.Session.{Session}
use Rattle.demands.specs.Histories.{ours, event, after, history}
use Rattle.image.specs.Standing.{image_of}
use Rattle.image.specs.Shapes.{Shaped}
use Rattle.host.specs.Answers.{answer_length, answer_bytes}
use Rattle.host.specs.Calls.{is_answer}
use Rattle.hosted.specs.Runs.{Asks, Asked, on_host, image_after, Told, told_by, told_after, on_record, called, told_of, answered}
use Rattle.hosted.proofs.Left.{calls-shaped}
use Rattle.hosted.proofs.Each.{answers-so, too_short, on-record}

-- the record after calls
abbrev record_after : Session → List Asked → Session
record_after s asked = after ours s (called asked)

pub any_left : (s : Session) → Shaped s → (asked : List Asked) → image_after (image_of s) asked ≡ image_of (record_after s asked)
any_left s h [] = refl
any_left s h (a ∷ asked) = by (is_answer a.answer) refl (any_left s h asked)
  where
    by : (t : Bool) → is_answer a.answer ≡ t → image_after (image_of s) asked ≡ image_of (record_after s asked) →
        (on_host a.call (image_after (image_of s) asked) a.answer).image ≡ image_of (after ours s (cond t (on_record a.call ∷ called asked) (called asked)))
    by true e f =
        ap (λ image. (on_host a.call image a.answer).image) f
        ∙ ap (λ l. l.image) (on-record a.call (record_after s asked) (calls-shaped s h asked) a.answer (eqb-true (length a.answer) answer_length e))
    by false e f = ap (λ l. l.image) (too_short a.call (image_after (image_of s) asked) a.answer e) ∙ f

-- what one call tells
tells : (call : Asks) (s : Session) → Shaped s → (answer : List ℕ) → is_answer answer ≡ true →
    told_by (on_host call (image_of s) answer) ≡ told_of (event ours s (on_record call))
tells call s h answer e =
    ap told_by (on-record call s h answer (eqb-true (length answer) answer_length e))
    ∙ ap {B = Told} (λ r. record { number = r.number; answer = answer_bytes r }) (sym (answers-so call s))

pub any_told : (s : Session) → Shaped s → (asked : List Asked) → answered asked (told_after (image_of s) asked) ≡ map told_of (history ours s (called asked))
any_told s h [] = refl
any_told s h (a ∷ asked) = by (is_answer a.answer) refl (any_told s h asked)
  where
    told : Told
    told = told_by (on_host a.call (image_after (image_of s) asked) a.answer)

    others : List Told
    others = answered asked (told_after (image_of s) asked)

    by : (t : Bool) → is_answer a.answer ≡ t → others ≡ map told_of (history ours s (called asked)) →
        cond t (told ∷ others) others ≡ map told_of (history ours s (cond t (on_record a.call ∷ called asked) (called asked)))
    by true e f =
        let one : told ≡ told_of (event ours (record_after s asked) (on_record a.call)) =
        ap (λ image. told_by (on_host a.call image a.answer)) (any_left s h asked) ∙ tells a.call (record_after s asked) (calls-shaped s h asked) a.answer e in
        λ i. one i ∷ f i
    by false e f = f
