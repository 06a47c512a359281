-- The sessions that there are: opened by `open`, by rounds or by a read, and called since one by one, with runs, or from C. Definitions only.
use Rattle.std.specs.Prelude.{◌≡◌, true, List, ℕ, Float, Ok}
use Rattle.session.specs.declared.Session.{Session}
use Rattle.session.specs.Requests.{Request}
use Rattle.steps.specs.Steps.{open_of}
use Rattle.epoch_steps.specs.declared.Outcome.TheVariants as R
use Rattle.epoch_steps.specs.Steps.{refine_of}
use Rattle.demands.specs.Histories.{ours, Call, Event, history}
use Rattle.demands.specs.Records.{OpenRecord}
use Rattle.demands.specs.ClosedForm.{Origin, origin, start_origin}
use Rattle.promised.specs.Runs.{Runs}
use Rattle.allowance.specs.Calls.{Turn, left_by, calls_in}
use Rattle.image.specs.Standing.{image_of}
use Rattle.image.specs.Shapes.{Shaped}
use Rattle.image.specs.Reading.{held_in, is_image}
use Rattle.hosted.specs.Runs.{Asked, image_after, called}
use Rattle.hosted.specs.Theorems.{saved_origin}
use Rattle.adding.specs.Tracks.{Track}

-- an opening, and the record that it leaves
pub data Opened : Origin → Session → Type 0 where
  by_open : (r : Request) → (open_of r).answer ≡ Ok tt → Opened (origin r) (open_of r).session
  by_rounds : (s : Session) (floats : List Float) → (refine_of s floats).answer.outcome ≡ R.Opened → Opened (start_origin s floats) (refine_of s floats).session
  by_read : (bytes : List ℕ) → is_image bytes ≡ true → OpenRecord (held_in bytes) → Opened (saved_origin (held_in bytes)) (held_in bytes)

-- what was done since, with its answers, and the record that it left
pub data Since : Session → List Event → Session → Type 0 where
  -- single calls, of which nothing is known but that the promises allow what each left and answered
  by_calls : {s left : Session} {calls : List Call} {es : List Event} → Runs s calls left es → Since s es left
  -- single calls and runs; a run's answers are those of its single calls
  by_turns : {s : Session} (turns : List Turn) → Since s (history ours s (calls_in s turns)) (left_by s turns)
  -- calls from C on the image
  from_c : {s : Session} → Shaped s → (asked : List Asked) → Since s (history ours s (called asked)) (held_in (image_after (image_of s) asked))

pub record Lived (t : Track) : Type 0 where
  pub opened : Opened t.origin t.first
  pub since : Since t.first t.events t.last
