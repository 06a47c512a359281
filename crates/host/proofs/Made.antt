-- What a call from C leaves, by what it looked at: 14 and both slices as they were, or what the call on the record leaves and tells.
use mathlib.Core.Path.{◌≡◌, refl, sym, ap, ap₂, ◌∙◌, subst}
use mathlib.Core.Bool.{Bool, true, false, cond}
use mathlib.Core.List.{List}
use Prim.Native.Nat.{ℕ}
use native.Mathlib.Omega.{arith}
use lib.Dec.{eqb}
use lib.ListN.{length}
use borrow.Author.Tests.{eq-eqb, eqb-true, ne_eqb}
use Rattle.integers.specs.Tests.{◌and◌, joined}
use Rattle.session.specs.declared.Session.{Session}
use Rattle.session.specs.Requests.{Request}
use Rattle.steps.specs.declared.Answer.{Answer}
use Rattle.steps.specs.Steps.{open_of, open_answer}
use Rattle.image.specs.declared.Loaded.{Loaded}
use Rattle.image.specs.Layout.{image_length, record_bytes}
use Rattle.image.specs.Standing.{standing, image_of}
use Rattle.image.specs.Reading.{session_in, held_in, is_image, read_of}
use Rattle.image.proofs.Stands.{standing-again}
use Rattle.image.proofs.Images.{read-accepted, read-refused, accepted-long}
use Rattle.host.specs.Answers.{answer_length, answer_bytes}
use Rattle.host.specs.Calls.{Left, handed, untouched, is_answer, host_open, on_image, Leaves}

-- ---- what was read

pub held-standing : (bytes : List ℕ) → standing (held_in bytes) ≡ held_in bytes
unfolding held_in
held-standing bytes = standing-again (session_in bytes)

-- an image, and the session that it holds; or none, and the closed one
pub record Taken (bytes : List ℕ) (r : Loaded) : Type 0 where
  pub image : is_image bytes ≡ true
  pub session : r.session ≡ held_in bytes

module _ (bytes : List ℕ) (r : Loaded) (e : r ≡ read_of bytes) where
  pub read_none : ¬ (r.number ≡ 0) → is_image bytes ≡ false
  read_none z = by (is_image bytes) refl
    where
      by : (t : Bool) → is_image bytes ≡ t → is_image bytes ≡ false
      by true f = absurd (z (ap (λ (x : Loaded). x.number) (e ∙ read-accepted bytes f)))
      by false f = f

  pub read_taken : r.number ≡ 0 → Taken bytes r
  read_taken z = by (is_image bytes) refl
    where
      by : (t : Bool) → is_image bytes ≡ t → Taken bytes r
      by true f = record { image = f; session = ap (λ (x : Loaded). x.session) (e ∙ read-accepted bytes f) }
      by false f = absurd (fourteen (sym z ∙ ap (λ (x : Loaded). x.number) (e ∙ read-refused bytes f)))
        where
          fourteen : ◌≡◌ {A = ℕ} 0 14 → ⊥
          fourteen g = omega arith

-- ---- a statement of what is left, under another name of it

told : {x y : Left} {n : ℕ} {image answer : List ℕ} → x ≡ y → Leaves y n image answer → Leaves x n image answer
told {n = n} {image = image} {answer = answer} e = subst (λ z. Leaves z n image answer) (sym e)

-- bytes of a record that is saved as itself
image-as : (s : Session) → standing s ≡ s → record_bytes s ≡ image_of s
unfolding image_of
image-as s h = ap record_bytes (sym h)

-- what was put into the slices is what a call on a record leaves and tells
handed-by : {s t : Session} {a b : Answer} → standing t ≡ t → s ≡ t → a ≡ b → {n : ℕ} {image answer : List ℕ} →
    (n ≡ a.number) × (image ≡ record_bytes s) × (answer ≡ answer_bytes a) → Leaves (handed t b) n image answer
handed-by {t = t} h e f (n, i, o) = (n ∙ ap (λ x. x.number) f, i ∙ ap record_bytes e ∙ image-as t h, o ∙ ap answer_bytes f)

-- ---- the calls on an image

pub and-false : (b : Bool) {t : Bool} → t ≡ false → (b and t) ≡ false
and-false true e = e
and-false false e = refl

-- where the answer has its length and the image is one, it has its length too
pub both : (image answer : List ℕ) → (is_answer answer and is_image image) ≡ true → (length image ≡ image_length) × (length answer ≡ answer_length)
both image answer t =
    let (a, i) = simp joined at t in
    (accepted-long image i, eqb-true (length answer) answer_length a)

module _ (image answer : List ℕ) (l : Session → Session) (a : Session → Answer) where
  pub not-called : (is_answer answer and is_image image) ≡ false → Leaves (on_image image answer l a) 14 image answer
  unfolding on_image
  not-called f = told (ap (λ t. cond t (handed (l (held_in image)) (a (held_in image))) (untouched image answer)) f) (refl, refl, refl)

  pub called : (is_answer answer and is_image image) ≡ true → standing (l (held_in image)) ≡ l (held_in image) →
      {s : Session} {t : Answer} → s ≡ l (held_in image) → t ≡ a (held_in image) → {n : ℕ} {i o : List ℕ} →
      (n ≡ t.number) × (i ≡ record_bytes s) × (o ≡ answer_bytes t) → Leaves (on_image image answer l a) n i o
  unfolding on_image
  called f h e g w = told (ap (λ t. cond t (handed (l (held_in image)) (a (held_in image))) (untouched image answer)) f) (handed-by h e g w)

-- ---- open

module _ (image answer : List ℕ) (r : Request) where
  pub open-no-image : ¬ (length image ≡ image_length) → Leaves (host_open image answer r) 14 image answer
  unfolding host_open
  open-no-image z = told (ap (λ t. cond (t and is_answer answer) (handed (open_of r).session (open_answer r)) (untouched image answer)) (ne_eqb (length image) image_length z)) (refl, refl, refl)

  pub open-no-answer : ¬ (length answer ≡ answer_length) → Leaves (host_open image answer r) 14 image answer
  unfolding host_open
  open-no-answer z =
      let x = handed (open_of r).session (open_answer r) in
      let t = eqb (length image) image_length in
      told (ap (λ u. cond u x (untouched image answer)) (and-false t (ne_eqb (length answer) answer_length z))) (refl, refl, refl)

  pub opened : length image ≡ image_length → length answer ≡ answer_length → standing (open_of r).session ≡ (open_of r).session →
      {s : Session} {t : Answer} → s ≡ (open_of r).session → t ≡ open_answer r → {n : ℕ} {i o : List ℕ} →
      (n ≡ t.number) × (i ≡ record_bytes s) × (o ≡ answer_bytes t) → Leaves (host_open image answer r) n i o
  unfolding host_open
  opened y z h e g w =
      told (ap₂ (λ t u. cond (t and u) (handed (open_of r).session (open_answer r)) (untouched image answer)) (eq-eqb (length image) image_length y) (eq-eqb (length answer) answer_length z)) (handed-by h e g w)
