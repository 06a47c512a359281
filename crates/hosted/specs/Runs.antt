-- Calls from C one after the other on one image, whatever they are handed. Lists have the latest first. Definitions only.
use Rattle.std.specs.Prelude.{ℕ, cond, List, [], ◌∷◌}
use Rattle.ticks.specs.declared.Sample.{Sample}
use Rattle.steps.specs.declared.Answer.{Answer}
use Rattle.steps.specs.Answers.{refused, prediction_answer, correction_answer, withdrawal_answer}
use Rattle.demands.specs.Histories.{Call, predict, correct, withdraw, Event, predicting, correcting, withdrawing, refining}
use Rattle.host.specs.Answers.{answer_bytes}
use Rattle.host.specs.Calls.{Left, is_answer, host_predict, host_correct, host_withdraw}

-- ---- a call: what is asked, and the bytes of the answer's slice before it

pub data Asks : Type 0 where
  predicts : Asks
  corrects : Sample → Asks
  withdraws : Asks

pub record Asked : Type 0 where
  pub call : Asks
  pub answer : List ℕ

abbrev pub on_host : Asks → List ℕ → List ℕ → Left
on_host predicts image answer = host_predict image answer
on_host (corrects a) image answer = host_correct image answer a
on_host withdraws image answer = host_withdraw image answer

-- the image after calls, and what each returned and left in its answer
abbrev pub image_after : List ℕ → List Asked → List ℕ
image_after image [] = image
image_after image (a ∷ asked) = (on_host a.call (image_after image asked) a.answer).image

pub record Told : Type 0 where
  pub number : ℕ
  pub answer : List ℕ

abbrev pub told_by : Left → Told
told_by left = record { number = left.number; answer = left.answer }

abbrev pub told_after : List ℕ → List Asked → List Told
told_after image [] = []
told_after image (a ∷ asked) = told_by (on_host a.call (image_after image asked) a.answer) ∷ told_after image asked

-- ---- the same calls on a record: those whose answer's slice has the length of an answer. The others are refused by 14, and nothing is called

abbrev pub on_record : Asks → Call
on_record predicts = predict
on_record (corrects a) = correct a
on_record withdraws = withdraw

abbrev pub called : List Asked → List Call
called [] = []
called (a ∷ asked) = cond (is_answer a.answer) (on_record a.call ∷ called asked) (called asked)

-- what a call on a record answers, as a call from C tells it; no call from C is a round
abbrev pub answer_of : Event → Answer
answer_of (predicting r) = prediction_answer r
answer_of (correcting a r) = correction_answer r
answer_of (withdrawing r) = withdrawal_answer r
answer_of (refining floats r) = refused 7

abbrev pub told_of : Event → Told
told_of e = record { number = (answer_of e).number; answer = answer_bytes (answer_of e) }

-- of what was told, that of the calls that were made on the record
abbrev pub answered : List Asked → List Told → List Told
answered [] told = []
answered (a ∷ asked) [] = []
answered (a ∷ asked) (t ∷ told) = cond (is_answer a.answer) (t ∷ answered asked told) (answered asked told)
