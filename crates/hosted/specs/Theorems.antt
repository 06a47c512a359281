-- What is proved of calls from C: `proofs/Theorems.antt` has a proof of each.
use Rattle.std.specs.Prelude.{ℕ, ◌≡◌, ◌↔◌, true, List, map, length}
use Rattle.integers.specs.Lines.{All}
use Rattle.ticks.specs.declared.Sample.{Sample}
use Rattle.session.specs.declared.Session.{Session}
use Rattle.session.specs.Coordinates.{axis_of}
use Rattle.session.specs.Moves.{present_point, closed_session}
use Rattle.session.specs.Requests.{Request}
use Rattle.steps.specs.Refusals.{open_refusal}
use Rattle.steps.specs.Steps.{open_of, open_answer, predict_of, predict_answer, correct_of, correct_answer, withdraw_of, withdraw_answer}
use Rattle.demands.specs.Histories.{Call, ours, after, history, entries, samples_of}
use Rattle.demands.specs.Records.{OpenRecord}
use Rattle.demands.specs.ClosedForm.{Origin, Begins, origin_at, origin}
use Rattle.promised.specs.Theorems.{Keeping, Counting, Together}
use Rattle.image.specs.Layout.{image_length}
use Rattle.image.specs.Standing.{image_of}
use Rattle.image.specs.Shapes.{Shaped}
use Rattle.image.specs.Reading.{held_in, is_image}
use Rattle.host.specs.Answers.{answer_length}
use Rattle.host.specs.Calls.{handed, untouched, host_open}
use Rattle.hosted.specs.Runs.{Asks, Asked, on_host, image_after, told_after, called, answered, told_of}
use Rattle.hosted.specs.Figures.{figures}

-- ---- one call

pub record EachCall : Type 0 where
  -- on the image of any record, with room for an answer, a call answers just as on the record, and leaves the image of the record that is left
  pub predicts : (s : Session) → Shaped s → (answer : List ℕ) → length answer ≡ answer_length →
      on_host Asks.predicts (image_of s) answer ≡ handed (predict_of s).session (predict_answer s)
  pub corrects : (s : Session) → Shaped s → (a : Sample) (answer : List ℕ) → length answer ≡ answer_length →
      on_host (Asks.corrects a) (image_of s) answer ≡ handed (correct_of s a).session (correct_answer s a)
  pub withdraws : (s : Session) → Shaped s → (answer : List ℕ) → length answer ≡ answer_length →
      on_host Asks.withdraws (image_of s) answer ≡ handed (withdraw_of s).session (withdraw_answer s)
  -- an open looks at no byte of the image that was there
  pub opens : (r : Request) (image answer : List ℕ) → length image ≡ image_length → length answer ≡ answer_length →
      host_open image answer r ≡ handed (open_of r).session (open_answer r)
  -- one that is refused by another number than 14 leaves the image of the closed record
  pub closes : (r : Request) (image answer : List ℕ) → length image ≡ image_length → length answer ≡ answer_length → ¬ (open_refusal r ≡ 0) →
      (host_open image answer r).image ≡ image_of closed_session
  -- 14 is given exactly where the answer has another length, or the bytes are the image of no record; and then both slices are as they were
  pub fourteen : (call : Asks) (image answer : List ℕ) →
      ((on_host call image answer).number ≡ 14) ↔ (¬ ((length answer ≡ answer_length) × ((s : Session) × (Shaped s × (image ≡ image_of s)))))
  pub fourteen_leaves : (call : Asks) (image answer : List ℕ) → (on_host call image answer).number ≡ 14 → on_host call image answer ≡ untouched image answer
  pub open_fourteen : (r : Request) (image answer : List ℕ) →
      ((host_open image answer r).number ≡ 14) ↔ (¬ ((length image ≡ image_length) × (length answer ≡ answer_length)))
  pub open_fourteen_leaves : (r : Request) (image answer : List ℕ) → (host_open image answer r).number ≡ 14 → host_open image answer r ≡ untouched image answer

-- ---- any calls

pub record AnyCalls : Type 0 where
  -- an image that only these calls have written holds the record that the same calls leave, and they tell the same answers
  pub left : (s : Session) → Shaped s → (asked : List Asked) → image_after (image_of s) asked ≡ image_of (after ours s (called asked))
  pub told : (s : Session) → Shaped s → (asked : List Asked) → answered asked (told_after (image_of s) asked) ≡ map told_of (history ours s (called asked))
  -- an open that is not refused leaves the image of a record that begins at its origin
  pub opened : (r : Request) (image answer : List ℕ) → (host_open image answer r).number ≡ 0 →
      ((host_open image answer r).image ≡ image_of (open_of r).session) × (Shaped (open_of r).session × Begins (origin r) (open_of r).session)
  -- so demands 2 and 3 hold of it, and the counts are those of the answers
  pub keeps : (o : Origin) (s : Session) → Shaped s → Begins o s → (asked : List Asked) →
      Keeping o (held_in (image_after (image_of s) asked)) (history ours s (called asked))
  pub counts : (s : Session) → Shaped s → OpenRecord s → (asked : List Asked) →
      Counting s (held_in (image_after (image_of s) asked)) (history ours s (called asked))
  -- in one sentence, of an image that only these calls have written since its opening
  pub since_opening : (r : Request) (image answer : List ℕ) → (host_open image answer r).number ≡ 0 → (asked : List Asked) →
      Keeping (origin r) (held_in (image_after (host_open image answer r).image asked)) (history ours (open_of r).session (called asked))
  -- two images that began alike and accepted the same samples stand at one point
  pub alike : (o : Origin) (s t : Session) → Shaped s → Shaped t → Begins o s → Begins o t → (asked others : List Asked) →
      samples_of (entries (history ours s (called asked))) ≡ samples_of (entries (history ours t (called others))) →
      Together (held_in (image_after (image_of s) asked)) (held_in (image_after (image_of t) others))
  -- examples, word by word
  pub computed : All figures

-- ---- a session that was read: the saved samples and the saved point are its opening; while a correction is awaited, the last accepted point

abbrev pub saved_origin : Session → Origin
saved_origin s = origin_at s.points (present_point s) (λ k. (axis_of k s).samples)

pub record AfterRead : Type 0 where
  pub begins : (bytes : List ℕ) → is_image bytes ≡ true → OpenRecord (held_in bytes) → Begins (saved_origin (held_in bytes)) (held_in bytes)
  -- whatever is called on the record after that
  pub keeps : (bytes : List ℕ) → is_image bytes ≡ true → OpenRecord (held_in bytes) → (calls : List Call) →
      Keeping (saved_origin (held_in bytes)) (after ours (held_in bytes) calls) (history ours (held_in bytes) calls)
  pub counts : (bytes : List ℕ) → is_image bytes ≡ true → OpenRecord (held_in bytes) → (calls : List Call) →
      Counting (held_in bytes) (after ours (held_in bytes) calls) (history ours (held_in bytes) calls)
