-- What is proved, as one record of statements: `proofs/Theorems.antt` has a proof of each.
use Rattle.std.specs.Prelude.{◌≡◌, List, [], ◌∷◌, ◌++◌, map, ℕ, ◌+◌, ◌*◌, ◌-◌, ◌<◌, Float, length, get_or, Ok, Err}
use Rattle.integers.specs.Differences.{at}
use Rattle.ticks.specs.Round.{rounded_of, ticks_in}
use Rattle.session.specs.declared.Session.{Session}
use Rattle.session.specs.declared.State.TheVariants.{Awaiting}
use Rattle.session.specs.Moves.{closed_session}
use Rattle.session.specs.Holding.{holds, settled, awaiting}
use Rattle.steps.specs.declared.Correction.TheVariants as C
use Rattle.rules.specs.Rules.{NotZero, Decides}
use Rattle.epoch_session.specs.Records.{starting}
use Rattle.epoch_steps.specs.declared.Outcome.TheVariants as R
use Rattle.epoch_steps.specs.Steps.{refused}
use Rattle.session.specs.Coordinates.{Coordinate}
use Rattle.session.specs.Requests.{Request}
use Rattle.demands.specs.Histories.{Implementation, ours, Call, predict, correct, withdraw, refine, Event, predicting, correcting, withdrawing, refining, step, event, after, history, Act, opening, beginning, calling, lived, entries, samples_of, agains}
use Rattle.demands.specs.Records.{Settings, SettledRecord, AwaitingRecord, OpenRecord, StartingRecord}
use Rattle.demands.specs.Held.{HeldTrue, HeldAfterCalls}
use Rattle.demands.specs.Before.{before, Unchanged}
use Rattle.demands.specs.ClosedForm.{Origin, Begins, place, opening_samples, origin, start_origin}
use Rattle.demands.specs.Demands.{open_number, start_number, Demand1, Demand2, Formulas, Unsummed, UnsummedInTicks, SamePoint, Demand3, Counts, Leaves, Agree}
use Rattle.demands.specs.Fractions.{InFractions}
use Rattle.demands.specs.BadVersions.{refusing, predicting_zero, unmoving, repeating, inventing_points, inventing_corrections, opening_at_once, opening_anyhow, never_counting, keeping, keeping_starts, ignoring_velocities, ignoring_velocities_of_rounds}

-- opened alike: with one p, at one point, and with floats that round alike; nothing is said of the tolerances and the limit
pub record Alike (q r : Request) : Type 0 where
  pub points : q.points ≡ r.points
  pub point : q.point ≡ r.point
  pub samples : (k : Coordinate) → opening_samples q k ≡ opening_samples r k

-- what an open and a first round give does not hang on the record that they replace
pub record Replaces (I : Implementation) : Type 0 where
  pub opens : (s t : Session) (r : Request) → I.opens s r ≡ I.opens t r
  pub starts : (s t : Session) (r : Request) → I.starts s r ≡ I.starts t r

-- demand 3 and the counts as they read of a session that `open` opened, whatever record it replaced
pub record OfOpenings (I : Implementation) : Type 0 where
  pub unsummed : (s : Session) (r : Request) → (I.opens s r).answer ≡ Ok tt → (calls : List Call) →
      Unsummed (origin r) (entries (history I (I.opens s r).session calls))
  pub same : (s t : Session) (q r : Request) → (I.opens s q).answer ≡ Ok tt → (I.opens t r).answer ≡ Ok tt → Alike q r → (calls others : List Call) →
      samples_of (entries (history I (I.opens s q).session calls)) ≡ samples_of (entries (history I (I.opens t r).session others)) →
      SamePoint I (after I (I.opens s q).session calls) (after I (I.opens t r).session others)
  pub accepted : (s : Session) (r : Request) → (I.opens s r).answer ≡ Ok tt → (calls : List Call) →
      (after I (I.opens s r).session calls).accepted ≡ length (entries (history I (I.opens s r).session calls))
  pub awaiting : (s : Session) (r : Request) → (I.opens s r).answer ≡ Ok tt → (calls : List Call) → (after I (I.opens s r).session calls).state ≡ Awaiting →
      (after I (I.opens s r).session calls).corrections ≡ agains 0 (history I (I.opens s r).session calls)

-- the same of a session that rounds opened
pub record OfStarts (I : Implementation) : Type 0 where
  pub unsummed : (s : Session) (floats : List Float) → (I.refines s floats).answer.outcome ≡ R.Opened → (calls : List Call) →
      Unsummed (start_origin s floats) (entries (history I (I.refines s floats).session calls))
  pub accepted : (s : Session) (floats : List Float) → (I.refines s floats).answer.outcome ≡ R.Opened → (calls : List Call) →
      (after I (I.refines s floats).session calls).accepted ≡ length (entries (history I (I.refines s floats).session calls))
  pub awaiting : (s : Session) (floats : List Float) → (I.refines s floats).answer.outcome ≡ R.Opened → (calls : List Call) →
      (after I (I.refines s floats).session calls).state ≡ Awaiting →
      (after I (I.refines s floats).session calls).corrections ≡ agains 0 (history I (I.refines s floats).session calls)
  -- alike an opening: the same p, point 0 and samples, whatever way each was made
  pub same : (s t : Session) (floats : List Float) (r : Request) → (I.refines s floats).answer.outcome ≡ R.Opened → (I.opens t r).answer ≡ Ok tt →
      start_origin s floats ≡ origin r → (calls others : List Call) →
      samples_of (entries (history I (I.refines s floats).session calls)) ≡ samples_of (entries (history I (I.opens t r).session others)) →
      SamePoint I (after I (I.refines s floats).session calls) (after I (I.opens t r).session others)
  -- and alike another start
  pub same_starts : (s t : Session) (xs ys : List Float) → (I.refines s xs).answer.outcome ≡ R.Opened → (I.refines t ys).answer.outcome ≡ R.Opened →
      start_origin s xs ≡ start_origin t ys → (calls others : List Call) →
      samples_of (entries (history I (I.refines s xs).session calls)) ≡ samples_of (entries (history I (I.refines t ys).session others)) →
      SamePoint I (after I (I.refines s xs).session calls) (after I (I.refines t ys).session others)

-- the answer 7 to a call
abbrev pub refused7 : Call → Event
refused7 predict = predicting (Err 7)
refused7 (correct a) = correcting a (C.Refused 7)
refused7 withdraw = withdrawing (Err 7)
refused7 (refine floats) = refining floats (refused 7)

-- a call that is no round
abbrev pub Plain : Call → Type 0
Plain predict = Unit {0}
Plain (correct a) = Unit {0}
Plain withdraw = Unit {0}
Plain (refine floats) = ⊥

-- ---- our calls

pub record OurCalls : Type 0 where
  -- meet the demands
  pub demand1 : Demand1 ours
  pub demand2 : Demand2 ours
  pub formulas : Formulas ours
  pub demand3 : Demand3 ours
  pub counts : Counts ours
  pub leaves : Leaves ours
  -- hold the sum of the older samples: true after any calls, and no answer is another than it was without it
  pub held : HeldAfterCalls ours
  pub unchanged : Unchanged ours before
  -- and in fractions of a tick: demand 2, also of the points of rounds, and demand 3
  pub in_fractions : InFractions ours
  pub in_ticks : (o : Origin) (s : Session) → Begins o s → (calls : List Call) → UnsummedInTicks o (entries (history ours s calls))
  -- where two sessions that began alike are both settled, with as many points accepted, the next prediction is answered alike, also where it is refused
  pub same_next : (o : Origin) (s t : Session) → Begins o s → Begins o t → s.accepted ≡ t.accepted → (calls others : List Call) →
      samples_of (entries (history ours s calls)) ≡ samples_of (entries (history ours t others)) →
      SettledRecord (after ours s calls) → SettledRecord (after ours t others) →
      (ours.predicts (after ours s calls)).answer ≡ (ours.predicts (after ours t others)).answer
  -- our tests of a record are true exactly where it is what the paper calls open, settled, awaiting or starting
  pub open_records : (s : Session) → Decides (holds s) (OpenRecord s)
  pub settled_records : (s : Session) → Decides (settled s) (SettledRecord s)
  pub awaiting_records : (s : Session) → Decides (awaiting s) (AwaitingRecord s)
  pub starting_records : (s : Session) → Decides (starting s) (StartingRecord s)
  -- a starting record is refused with 7 by every call but a round, and untouched; an open one by a later round
  pub waits : (s : Session) → StartingRecord s → (call : Call) → Plain call → (step ours s call ≡ s) × (event ours s call ≡ refused7 call)
  pub goes_on : (s : Session) → OpenRecord s → (floats : List Float) → (step ours s (refine floats) ≡ s) × (event ours s (refine floats) ≡ refused7 (refine floats))
  -- a record that is neither counts as closed: it is refused with 7 by every call but `open` and a first round, and untouched
  pub closed : (s : Session) → ¬ OpenRecord s → ¬ StartingRecord s → (call : Call) → (step ours s call ≡ s) × (event ours s call ≡ refused7 call)
  -- such is a record of which a tolerance or the limit is out of range
  pub bad_settings : (s : Session) → ¬ Settings s.tolerances s.limit → (call : Call) → (step ours s call ≡ s) × (event ours s call ≡ refused7 call)
  -- and one whose held sums are not true
  pub untrue_sums : (s : Session) → ¬ HeldTrue s → (call : Call) → (step ours s call ≡ s) × (event ours s call ≡ refused7 call)
  -- after an `open` that was refused nothing is accepted, and the record stays closed and zero
  pub unopened : (s : Session) (r : Request) → NotZero (open_number ours s r) → (calls : List Call) →
      (after ours (ours.opens s r).session calls ≡ closed_session) × (entries (history ours (ours.opens s r).session calls) ≡ [])
  -- after a first round that was refused the same
  pub unstarted : (s : Session) (r : Request) → NotZero (start_number ours s r) → (calls : List Call) →
      (after ours (ours.starts s r).session calls ≡ closed_session) × (entries (history ours (ours.starts s r).session calls) ≡ [])
  -- what was opened, by an open or by rounds
  pub of_openings : OfOpenings ours
  pub of_starts : OfStarts ours
  -- and whatever record was there before
  pub replaces : Replaces ours

-- ---- any implementation

pub record AnyCalls : Type 0 where
  -- demands 1 and 2 ask that an open and a first round replace any earlier session, so they begin a history anew, whatever was done before
  pub replaces : (I : Implementation) → Demand1 I → Demand2 I → Replaces I
  pub anew : (I : Implementation) → Replaces I → (s t : Session) (r : Request) (calls : List Call) (earlier : List Act) →
      lived I s (map calling calls ++ opening r ∷ earlier) ≡ after I (I.opens t r).session calls
  pub anew_start : (I : Implementation) → Replaces I → (s t : Session) (r : Request) (calls : List Call) (earlier : List Act) →
      lived I s (map calling calls ++ beginning r ∷ earlier) ≡ after I (I.starts t r).session calls
  -- what was opened begins at its origin, so the demands hold of it
  pub openings : (I : Implementation) → Demand3 I → Counts I → OfOpenings I
  pub starts : (I : Implementation) → Demand3 I → Counts I → OfStarts I
  -- of 3p floats, three for each back point, the oldest point first, the sample of point -i on coordinate k is float 3(p-1-i) + k, rounded (d is never read)
  pub opening_sample : (r : Request) (k : Coordinate) (i : ℕ) (d : Float) → i < r.points → length r.floats ≡ 3 * r.points →
      at (opening_samples r k) i ≡ ticks_in (rounded_of (get_or r.floats (3 * (r.points - 1 - i) + place k) d))
  -- demands 1 and 2 leave no choice
  pub unique : (I J : Implementation) → Demand1 I → Demand2 I → Demand1 J → Demand2 J → Agree I J

-- ---- the bad versions, each turned down by the demand that is named for it

pub record TurnedDown : Type 0 where
  -- refuses everything: demand 1's exact conditions, and demand 2
  pub refusing1 : ¬ Demand1 refusing
  pub refusing2 : ¬ Demand2 refusing
  -- always predicts zero: demand 2, also over histories
  pub predicting_zero2 : ¬ Demand2 predicting_zero
  pub predicting_zero_formulas : ¬ Formulas predicting_zero
  -- never moves the session: demand 2
  pub unmoving2 : ¬ Demand2 unmoving
  -- steps truly once and then repeats: demand 2, demand 3, and demand 3 read over demand 2's formulas
  pub repeating2 : ¬ Demand2 repeating
  pub repeating3 : ¬ Demand3 repeating
  pub repeating_formulas : ¬ Formulas repeating
  -- reports points or corrections that it made up: the counts, and that the record stands at the last point of the answers
  pub inventing_points_counts : ¬ Counts inventing_points
  pub inventing_points_last : ¬ Leaves inventing_points
  pub inventing_corrections_counts : ¬ Counts inventing_corrections
  -- opens at its first round: demand 2, and that a first round leaves a starting record; opens at any later one: demand 2
  pub opening_at_once2 : ¬ Demand2 opening_at_once
  pub opening_at_once_leaves : ¬ Leaves opening_at_once
  pub opening_anyhow2 : ¬ Demand2 opening_anyhow
  -- counts no round: the counts
  pub never_counting_counts : ¬ Counts never_counting
  -- keeps the record that was there where it refuses an open, or a first round: demand 1, and that it replaces any earlier session
  pub keeping1 : ¬ Demand1 keeping
  pub keeping_replaces : ¬ Replaces keeping
  pub keeping_starts1 : ¬ Demand1 keeping_starts
  -- looks at positions alone: demand 1's condition of 8, and demand 2; in rounds: demand 2
  pub ignoring_velocities1 : ¬ Demand1 ignoring_velocities
  pub ignoring_velocities2 : ¬ Demand2 ignoring_velocities
  pub ignoring_velocities_of_rounds2 : ¬ Demand2 ignoring_velocities_of_rounds
  -- no demand holds for another: what refuses everything meets demand 3, and what predicts zero meets demand 1
  pub refusing3 : Demand3 refusing
  pub predicting_zero1 : Demand1 predicting_zero
