-- What is proved of every result that the promises allow: `proofs/Theorems.antt` has a proof of each.
use Rattle.std.specs.Prelude.{◌≡◌, List, ℕ, ◌+◌, Float, length, Ok}
use Rattle.ticks.specs.declared.Sample.{Sample}
use Rattle.session.specs.declared.Session.{Session}
use Rattle.session.specs.declared.State.TheVariants.{Settled, Awaiting}
use Rattle.session.specs.Coordinates.{Coordinate}
use Rattle.session.specs.Moves.{present_point}
use Rattle.session.specs.Requests.{Request}
use Rattle.steps.specs.declared.ReportedPoint.{ReportedPoint}
use Rattle.epoch_steps.specs.declared.RoundAnswer.{RoundAnswer}
use Rattle.epoch_steps.specs.declared.Outcome.TheVariants as R
use Rattle.demands.specs.Coordinates.{position_of, velocity_of}
use Rattle.demands.specs.Histories.{Implementation, ours, Call, Event, after, history, Act, lived, entries, samples_of, agains}
use Rattle.demands.specs.Records.{OpenRecord}
use Rattle.demands.specs.Held.{HeldTrue, HeldAfterCalls}
use Rattle.demands.specs.Before.{bare, before, Unchanged}
use Rattle.demands.specs.ClosedForm.{Origin, Begins, origin, start_origin, Stands, Told}
use Rattle.demands.specs.Demands.{Demand1, Demand2, Formulas, Demand3, Counts, Leaves, Unsummed, UnsummedInTicks, position, velocity}
use Rattle.demands.specs.Fractions.{ToldInTicks, InFractions}
use Rattle.demands.specs.Theorems.{OfOpenings, OfStarts, Replaces}
use Rattle.promised.specs.Promises.{OpenAllows, PredictAllows, CorrectAllows, WithdrawAllows, StartAllows, RefineAllows, RunAllows}
use Rattle.promised.specs.Runs.{Runs, Lives, Keeps}

-- ---- any two results that a promise allows are the same

abbrev pub One : {A B : Type 0} → (A → B → Type 0) → Type 0
One {A} {B} Allows = (s t : A) (a b : B) → Allows s a → Allows t b → (s ≡ t) × (a ≡ b)

pub record OneResult : Type 0 where
  pub opens : (r : Request) → One (OpenAllows r)
  pub predicts : (s : Session) → One (PredictAllows s)
  pub corrects : (s : Session) (a : Sample) → One (CorrectAllows s a)
  pub withdraws : (s : Session) → One (WithdrawAllows s)
  pub starts : (r : Request) → One (StartAllows r)
  pub refines : (s : Session) (floats : List Float) → One (RefineAllows s floats)
  pub runs : (s : Session) (floats : List Float) (wanted : ℕ) → One (RunAllows s floats wanted)

-- ---- six functions of which every result is allowed meet every demand

pub record Meets (I : Implementation) : Type 0 where
  pub demand1 : Demand1 I
  pub demand2 : Demand2 I
  pub formulas : Formulas I
  pub in_fractions : InFractions I
  pub demand3 : Demand3 I
  pub counts : Counts I
  pub leaves : Leaves I
  pub held : HeldAfterCalls I
  pub unchanged : Unchanged I before
  pub openings : OfOpenings I
  pub starts : OfStarts I
  pub replaces : Replaces I

-- ---- a history that the promises allow, on a record that began at o: what its answers tell, and where the record stands

pub record Keeping (o : Origin) (left : Session) (es : List Event) : Type 0 where
  -- demand 2: each prediction and correction is the formulas' point for the samples accepted before it, in numerators over D and in fractions of a tick
  pub told : Told o es
  pub told_in_ticks : ToldInTicks o es
  -- demand 3: the accepted points keep to the unsummed formulas, in both
  pub unsummed : Unsummed o (entries es)
  pub in_ticks : UnsummedInTicks o (entries es)
  -- the record is open, with the sums and samples of what was accepted, and stands at the last accepted point
  pub held : OpenRecord left
  pub stands : Stands o (samples_of (entries es)) left
  pub last : (k : Coordinate) →
      (position_of k (present_point left) ≡ position o k (entries es) (length (entries es)))
      × (velocity_of k (present_point left) ≡ velocity o k (entries es) (length (entries es)))

-- the counts of a record are those of the answers since s
pub record Counting (s left : Session) (es : List Event) : Type 0 where
  pub accepted : left.accepted ≡ s.accepted + length (entries es)
  pub awaiting : left.state ≡ Awaiting → left.corrections ≡ agains s.corrections es
  pub settled : left.state ≡ Settled → left.corrections ≡ 0

-- two records stand at one point, and where the next prediction of both may be answered with a point, it is one point
pub record Together (s t : Session) : Type 0 where
  pub present : present_point s ≡ present_point t
  pub next : (u v : Session) (q r : ReportedPoint) → PredictAllows s u (Ok q) → PredictAllows t v (Ok r) → q ≡ r

-- ---- the theorem

pub record Promised : Type 0 where
  pub one_result : OneResult
  -- every history of results that the promises allow is the history of our six functions
  pub run : (s left : Session) (calls : List Call) (es : List Event) → Runs s calls left es → (left ≡ after ours s calls) × (es ≡ history ours s calls)
  pub life : (s left : Session) (acts : List Act) → Lives s acts left → left ≡ lived ours s acts
  -- and the results are those of our six functions, so every demand holds of them
  pub meets : (I : Implementation) → Keeps I → Meets I
  -- an opening that succeeds, and a round that opens, begin at their origin
  pub opened : (r : Request) (left : Session) → OpenAllows r left (Ok tt) → Begins (origin r) left
  pub started : (s left : Session) (floats : List Float) (a : RoundAnswer) → RefineAllows s floats left a → a.outcome ≡ R.Opened → Begins (start_origin s floats) left
  -- from there on, whatever is called
  pub keeps : (o : Origin) (s left : Session) (calls : List Call) (es : List Event) → Begins o s → Runs s calls left es → Keeping o left es
  pub counts : (s left : Session) (calls : List Call) (es : List Event) → OpenRecord s → Runs s calls left es → Counting s left es
  -- the held sums are true, and every answer and the rest of the record are those of the calls as they were without them
  pub held : (s left : Session) (acts : List Act) → HeldTrue s → Lives s acts left → HeldTrue left
  pub unchanged_answers : (s left : Session) (calls : List Call) (es : List Event) → HeldTrue s → Runs s calls left es → history before (bare s) calls ≡ es
  pub unchanged_record : (s left : Session) (acts : List Act) → HeldTrue s → Lives s acts left → lived before (bare s) acts ≡ bare left
  -- opened alike, with the same samples accepted: at one point
  pub alike : (o : Origin) (s t left gone : Session) (calls others : List Call) (es fs : List Event) → Begins o s → Begins o t →
      Runs s calls left es → Runs t others gone fs → samples_of (entries es) ≡ samples_of (entries fs) → Together left gone
