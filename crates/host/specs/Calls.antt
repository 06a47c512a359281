-- The calls on an image: the number that each returns, and what it leaves in the two slices. Definitions only.
use Rattle.std.specs.Prelude.{ℕ, ◌≡◌, Bool, cond, List, eqb, length}
use Rattle.integers.specs.Tests.{◌and◌}
use Rattle.ticks.specs.declared.Sample.{Sample}
use Rattle.session.specs.declared.Session.{Session}
use Rattle.session.specs.declared.WholePoint.{WholePoint}
use Rattle.session.specs.Requests.{Request, request}
use Rattle.steps.specs.declared.Answer.{Answer}
use Rattle.steps.specs.Steps.{open_of, open_answer, predict_of, predict_answer, correct_of, correct_answer, withdraw_of, withdraw_answer}
use Rattle.image.specs.Layout.{image_length}
use Rattle.image.specs.Standing.{image_of}
use Rattle.image.specs.Reading.{held_in, is_image}
use Rattle.host.specs.Answers.{answer_length, answer_bytes}
use Rattle.host.specs.Samples.{floats_of}

-- what a call leaves: the number that it returns, and the bytes of both slices
pub record Left : Type 0 where
  pub number : ℕ
  pub image : List ℕ
  pub answer : List ℕ

-- of a call on a record: its number, the image of the record that it leaves, and its other values
abbrev pub handed : Session → Answer → Left
handed s a = record { number = a.number; image = image_of s; answer = answer_bytes a }

-- 14 comes before every other number, and leaves both slices as they were
abbrev pub untouched : List ℕ → List ℕ → Left
untouched image answer = record { number = 14; image = image; answer = answer }

abbrev pub is_answer : List ℕ → Bool
is_answer answer = eqb (length answer) answer_length

-- ---- open: the image needs no more than the length of one

abbrev pub host_request : ℕ → ℕ → ℕ → ℕ → WholePoint → List ℕ → Request
host_request points position velocity limit point samples =
    request points (record { position = position; velocity = velocity }) limit point (floats_of points samples)

unfoldable pub host_open : List ℕ → List ℕ → Request → Left
host_open image answer r = cond (eqb (length image) image_length and is_answer answer) (handed (open_of r).session (open_answer r)) (untouched image answer)

-- ---- the others: the image has to be one of a session

-- the call on the record that the image holds
unfoldable pub on_image : List ℕ → List ℕ → (Session → Session) → (Session → Answer) → Left
on_image image answer leaves answers =
    cond (is_answer answer and is_image image) (handed (leaves (held_in image)) (answers (held_in image))) (untouched image answer)

abbrev pub host_predict : List ℕ → List ℕ → Left
host_predict image answer = on_image image answer (λ s. (predict_of s).session) predict_answer

abbrev pub host_correct : List ℕ → List ℕ → Sample → Left
host_correct image answer a = on_image image answer (λ s. (correct_of s a).session) (λ s. correct_answer s a)

abbrev pub host_withdraw : List ℕ → List ℕ → Left
host_withdraw image answer = on_image image answer (λ s. (withdraw_of s).session) withdraw_answer

-- a number and the bytes of both slices are what is left
abbrev pub Leaves : Left → ℕ → List ℕ → List ℕ → Type 0
Leaves left number image answer = (number ≡ left.number) × (image ≡ left.image) × (answer ≡ left.answer)
