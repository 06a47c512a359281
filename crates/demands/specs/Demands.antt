-- The three demands of the order, and the counts, of any implementation of the six calls. Definitions only.
use Rattle.std.specs.Prelude.{◌≡◌, ◌⊎◌, List, [], ◌∷◌, ℕ, ◌+◌, ◌-◌, ◌≤◌, ℤ, pos, ◌+ℤ◌, ◌-ℤ◌, ◌*ℤ◌, Float, length, Ok}
use Rattle.integers.specs.Differences.{in_front, by_differences}
use Rattle.exact.specs.Numerator.{D}
use Rattle.coefficients.specs.Fraction.{◌≐◌, ◌over◌}
use Rattle.coefficients.specs.Rules.{c, l}
use Rattle.coefficients.specs.Formulas.{unsummed_cowell, adams_moulton, series}
use Rattle.ticks.specs.declared.Sample.{Sample}
use Rattle.ticks.specs.Samples.{whole_of}
use Rattle.session.specs.declared.Session.{Session}
use Rattle.session.specs.declared.State.TheVariants.{Settled, Awaiting}
use Rattle.session.specs.Moves.{present_point, predicted_point, corrected_point, estimate_of, settled_again, awaiting_at, accepted_at, closed_session}
use Rattle.steps.specs.declared.ReportedPoint.{ReportedPoint}
use Rattle.steps.specs.declared.Correction.TheVariants as C
use Rattle.rules.specs.Rules.{NotZero, Exactly, First, Unrefused}
use Rattle.steps.specs.Answers.{reported_point, reported_change, no_change, opening_answer, prediction_answer, correction_answer, withdrawal_answer}
use Rattle.session.specs.Requests.{exact_point, Request}
use Rattle.steps.specs.Opening.{opened_with}
use Rattle.steps.specs.Refusals.{largest_change}
use Rattle.epoch_session.specs.Rounds.{largest_move}
use Rattle.epoch_session.specs.Records.{held_round, opened_round}
use Rattle.epoch_steps.specs.declared.Outcome.TheVariants as R
use Rattle.epoch_steps.specs.Answers.{no_points, round_answer}
use Rattle.epoch_steps.specs.Refusals.{first_round, later_round}
use Rattle.epoch_steps.specs.Steps.{told, starting_from}
use Rattle.demands.specs.Coordinates.{position_of, velocity_of, position_in, velocity_in}
use Rattle.session.specs.Coordinates.{Coordinate}
use Rattle.demands.specs.Histories.{Implementation, Call, after, history, step, Entry, entries, samples_of, agains, mores}
use Rattle.demands.specs.Records.{OpenRecord, StartingRecord}
use Rattle.demands.specs.Refusals.{Within, RoundWithin, open_table, predict_table, correct_table, withdraw_table, start_table, refine_table}
use Rattle.demands.specs.ClosedForm.{Origin, Begins, origin, start_origin, samples, Stands, Told}

-- ---- demand 1: exactly when each call is refused, and what a refusal leaves

-- the paper's number of an answer; an answer with a number has nothing else (`steps`, Answers)
module _ (I : Implementation) where
  abbrev pub open_number : Session → Request → ℕ
  open_number s r = (opening_answer (I.opens s r).answer).number

  abbrev pub predict_number : Session → ℕ
  predict_number s = (prediction_answer (I.predicts s).answer).number

  abbrev pub correct_number : Session → Sample → ℕ
  correct_number s a = (correction_answer (I.corrects s a).answer).number

  abbrev pub withdraw_number : Session → ℕ
  withdraw_number s = (withdrawal_answer (I.withdraws s).answer).number

  abbrev pub start_number : Session → Request → ℕ
  start_number s r = (round_answer (I.starts s r).answer).number

  abbrev pub refine_number : Session → List Float → ℕ
  refine_number s floats = (round_answer (I.refines s floats).answer).number

pub record Demand1 (I : Implementation) : Type 0 where
  -- every answer carries the number of the first rule of its table that applies, and 0 where none does
  pub opens : (s : Session) (r : Request) → Exactly (open_table r) (open_number I s r)
  pub predicts : (s : Session) → Exactly (predict_table s) (predict_number I s)
  pub corrects : (s : Session) (a : Sample) → Exactly (correct_table s a) (correct_number I s a)
  pub withdraws : (s : Session) → Exactly (withdraw_table s) (withdraw_number I s)
  -- a refused open leaves the record closed and zero, 8 leaves it settled at the point before, every other refusal leaves it as it was
  pub closed : (s : Session) (r : Request) → NotZero (open_number I s r) → (I.opens s r).session ≡ closed_session
  pub unpredicted : (s : Session) → NotZero (predict_number I s) → (I.predicts s).session ≡ s
  pub settled : (s : Session) (a : Sample) → correct_number I s a ≡ 8 → (I.corrects s a).session ≡ settled_again s
  pub uncorrected : (s : Session) (a : Sample) → NotZero (correct_number I s a) → ¬ (correct_number I s a ≡ 8) → (I.corrects s a).session ≡ s
  pub unwithdrawn : (s : Session) → NotZero (withdraw_number I s) → (I.withdraws s).session ≡ s
  -- rounds: a refused first one leaves the record closed and zero, and so does 8 of a later one; every other refusal leaves it as it was
  pub starts : (s : Session) (r : Request) → First (start_table r) (start_number I s r)
  pub refines : (s : Session) (floats : List Float) → Exactly (refine_table s floats) (refine_number I s floats)
  pub unstarted : (s : Session) (r : Request) → NotZero (start_number I s r) → (I.starts s r).session ≡ closed_session
  pub ended : (s : Session) (floats : List Float) → refine_number I s floats ≡ 8 → (I.refines s floats).session ≡ closed_session
  pub unrefined : (s : Session) (floats : List Float) → NotZero (refine_number I s floats) → ¬ (refine_number I s floats ≡ 8) → (I.refines s floats).session ≡ s
  -- a refused round has no points
  pub blank_start : (s : Session) (r : Request) → NotZero (start_number I s r) → (I.starts s r).answer.track ≡ no_points
  pub blank_round : (s : Session) (floats : List Float) → NotZero (refine_number I s floats) → (I.refines s floats).answer.track ≡ no_points

-- ---- demand 2: a call that no rule refuses gives the formulas' values and takes the formulas' step

pub record Demand2 (I : Implementation) : Type 0 where
  -- the record asked for, and an answer without values
  pub opens : (s : Session) (r : Request) → Unrefused (open_table r) →
      I.opens s r ≡ record { session = opened_with r.points r.tolerances r.limit (exact_point r.point) r.floats; answer = Ok tt }
  -- the predicted point, which the record awaits
  pub predicts : (s : Session) → Unrefused (predict_table s) →
      I.predicts s ≡ record { session = awaiting_at s 0 (predicted_point s); answer = Ok (reported_point (predicted_point s)) }
  -- the corrected point: accepted where all six changes are within their own tolerance
  pub accepts : (s : Session) (a : Sample) → Unrefused (correct_table s a) → Within s (corrected_point s (whole_of a)) →
      I.corrects s a ≡ record { session = accepted_at s (whole_of a); answer = C.Accepted (reported_point (corrected_point s (whole_of a))) }
  -- and else the new estimate, with one correction more and the largest change of each kind
  pub repeats : (s : Session) (a : Sample) → Unrefused (correct_table s a) → ¬ Within s (corrected_point s (whole_of a)) →
      let q = corrected_point s (whole_of a) in
      I.corrects s a ≡ record { session = awaiting_at s (s.corrections + 1) q; answer = C.Again (reported_point q) (reported_change (largest_change s q)) }
  -- the record without its estimate
  pub withdraws : (s : Session) → Unrefused (withdraw_table s) → I.withdraws s ≡ record { session = settled_again s; answer = Ok tt }
  -- a first round asks for more, with no change: its points, and the record that holds its samples and the epoch
  pub starts : (s : Session) (r : Request) → Unrefused (start_table r) →
      let round = first_round r in
      I.starts s r ≡ record { session = starting_from r.tolerances r.limit 0 (exact_point r.point) round; answer = told (R.More no_change) round }
  -- a later round opens the session at its newest point where at every point all six changes are within their own tolerance
  pub opens_round : (s : Session) (floats : List Float) → Unrefused (refine_table s floats) → RoundWithin s (later_round s floats) →
      let round = later_round s floats in
      I.refines s floats ≡ record { session = opened_round s.tolerances s.limit round; answer = told R.Opened round }
  -- and else asks for more, with the largest change of each kind, one round more and this round's samples
  pub asks_more : (s : Session) (floats : List Float) → Unrefused (refine_table s floats) → ¬ RoundWithin s (later_round s floats) →
      let round = later_round s floats in
      I.refines s floats ≡ record {
        session = starting_from s.tolerances s.limit (s.corrections + 1) (estimate_of s) round;
        answer = told (R.More (reported_change (largest_move round (held_round s)))) round;
      }

-- the same over histories: each prediction and correction that was answered is what the formulas give for the samples accepted since the opening
pub record Formulas (I : Implementation) : Type 0 where
  pub told : (o : Origin) (s : Session) → Begins o s → (calls : List Call) → Told o (history I s calls)

-- ---- demand 3: the points of the answers keep to the unsummed formulas, and are those of the accepted samples alone

module _ (o : Origin) (k : Coordinate) where
  -- exact positions and velocities of the answers, newest first; where they end, the opening point's
  abbrev pub positions : List Entry → ℕ → ℤ
  positions [] = λ i. o.position k
  positions (e ∷ es) = in_front (position_in k e.point) (positions es)

  abbrev pub velocities : List Entry → ℕ → ℤ
  velocities [] = λ i. o.velocity k
  velocities (e ∷ es) = in_front (velocity_in k e.point) (velocities es)

  -- with N points accepted: position(n) and velocity(n), for n = 0, the opening point, to N, and a(n), a(n-1), .., the opening's from a(0) on
  abbrev pub position : List Entry → ℕ → ℤ
  position es n = positions es (length es - n)

  abbrev pub velocity : List Entry → ℕ → ℤ
  velocity es n = velocities es (length es - n)

  abbrev pub sample : List Entry → ℕ → ℕ → ℤ
  sample es n i = samples o k (samples_of es) (length es - n + i)

  -- the second difference of the positions at n, and the first of the velocities
  abbrev pub second_difference : List Entry → ℕ → ℤ
  second_difference es n = position es n -ℤ pos 2 *ℤ position es (n - 1) +ℤ position es (n - 2)

  abbrev pub first_difference : List Entry → ℕ → ℤ
  first_difference es n = velocity es n -ℤ velocity es (n - 1)

pub record Unsummed (o : Origin) (es : List Entry) : Type 0 where
  -- for n ≥ 2: the sum over i = 0..p+1 of D l(i) B^i a(n)
  pub cowell : (k : Coordinate) (n : ℕ) → 2 ≤ n → n ≤ length es → second_difference o k es n ≡ by_differences (unsummed_cowell o.points) (sample o k es n)
  -- for n ≥ 1: the sum over i = 0..p of D c(i) B^i a(n)
  pub adams : (k : Coordinate) (n : ℕ) → 1 ≤ n → n ≤ length es → first_difference o k es n ≡ by_differences (adams_moulton o.points) (sample o k es n)

-- the same in ticks, as fractions: l(i) and c(i) are those of the rules
pub record UnsummedInTicks (o : Origin) (es : List Entry) : Type 0 where
  pub cowell : (k : Coordinate) (n : ℕ) → 2 ≤ n → n ≤ length es → second_difference o k es n over D ≐ series l 0 (o.points + 2) (sample o k es n)
  pub adams : (k : Coordinate) (n : ℕ) → 1 ≤ n → n ≤ length es → first_difference o k es n over D ≐ series c 0 (o.points + 1) (sample o k es n)

-- both are at one exact point, and where both predict the next one, they predict the same
pub record SamePoint (I : Implementation) (s t : Session) : Type 0 where
  pub present : present_point s ≡ present_point t
  pub next : (q r : ReportedPoint) → (I.predicts s).answer ≡ Ok q → (I.predicts t).answer ≡ Ok r → q ≡ r

pub record Demand3 (I : Implementation) : Type 0 where
  -- a successful open leaves a record that begins where it was asked to
  pub begins : (s : Session) (r : Request) → (I.opens s r).answer ≡ Ok tt → Begins (origin r) (I.opens s r).session
  -- so does a later round that opens: at its newest point, with its samples
  pub started : (s : Session) (floats : List Float) → (I.refines s floats).answer.outcome ≡ R.Opened → Begins (start_origin s floats) (I.refines s floats).session
  -- however the record began, and whatever was called since
  pub unsummed : (o : Origin) (s : Session) → Begins o s → (calls : List Call) → Unsummed o (entries (history I s calls))
  -- two records that began alike and accepted the same samples
  pub same : (o : Origin) (s t : Session) → Begins o s → Begins o t → (calls others : List Call) →
      samples_of (entries (history I s calls)) ≡ samples_of (entries (history I t others)) → SamePoint I (after I s calls) (after I t others)

-- ---- the counts that a record holds are those of the history of answers

pub record Counts (I : Implementation) : Type 0 where
  -- both begin at 0
  pub opened : (s : Session) (r : Request) → (I.opens s r).answer ≡ Ok tt → ((I.opens s r).session.accepted ≡ 0) × ((I.opens s r).session.corrections ≡ 0)
  pub opened_round : (s : Session) (floats : List Float) → (I.refines s floats).answer.outcome ≡ R.Opened →
      ((I.refines s floats).session.accepted ≡ 0) × ((I.refines s floats).session.corrections ≡ 0)
  -- while a session is starting: the later rounds that asked for more
  pub rounds : (s : Session) (r : Request) → start_number I s r ≡ 0 → (calls : List Call) → StartingRecord (after I (I.starts s r).session calls) →
      (after I (I.starts s r).session calls).corrections ≡ mores 0 (history I (I.starts s r).session calls)
  -- one more for each answer *accepted*
  pub accepted : (s : Session) → OpenRecord s → (calls : List Call) → (after I s calls).accepted ≡ s.accepted + length (entries (history I s calls))
  -- while a correction is awaited, the answers *again* since the last prediction; else none
  pub awaiting : (s : Session) → OpenRecord s → (calls : List Call) → (after I s calls).state ≡ Awaiting →
      (after I s calls).corrections ≡ agains s.corrections (history I s calls)
  pub settled : (s : Session) → OpenRecord s → (calls : List Call) → (after I s calls).state ≡ Settled → (after I s calls).corrections ≡ 0

-- ---- what any calls leave

pub record Leaves (I : Implementation) : Type 0 where
  -- an open leaves a record that is closed and zero, or open, a first round one that is closed and zero, or starting; another call leaves it untouched, open,
  -- starting, or closed and zero
  pub opens : (s : Session) (r : Request) → ((I.opens s r).session ≡ closed_session) ⊎ OpenRecord (I.opens s r).session
  pub starts : (s : Session) (r : Request) → ((I.starts s r).session ≡ closed_session) ⊎ StartingRecord (I.starts s r).session
  pub steps : (s : Session) (call : Call) →
      (step I s call ≡ s) ⊎ (OpenRecord (step I s call) ⊎ (StartingRecord (step I s call) ⊎ (step I s call ≡ closed_session)))
  -- an open record stays open; its sums and samples are those of its beginning and the accepted samples, and it stands at the last accepted point
  pub held : (s : Session) → OpenRecord s → (calls : List Call) → OpenRecord (after I s calls)
  pub stands : (o : Origin) (s : Session) → Begins o s → (calls : List Call) → Stands o (samples_of (entries (history I s calls))) (after I s calls)
  pub last : (o : Origin) (s : Session) → Begins o s → (calls : List Call) (k : Coordinate) →
      let es = entries (history I s calls) in
      (position_of k (present_point (after I s calls)) ≡ position o k es (length es)) × (velocity_of k (present_point (after I s calls)) ≡ velocity o k es (length es))

-- ---- two implementations that give the same record and answer on every input

pub record Agree (I J : Implementation) : Type 0 where
  pub opens : (s : Session) (r : Request) → I.opens s r ≡ J.opens s r
  pub predicts : (s : Session) → I.predicts s ≡ J.predicts s
  pub corrects : (s : Session) (a : Sample) → I.corrects s a ≡ J.corrects s a
  pub withdraws : (s : Session) → I.withdraws s ≡ J.withdraws s
  pub starts : (s : Session) (r : Request) → I.starts s r ≡ J.starts s r
  pub refines : (s : Session) (floats : List Float) → I.refines s floats ≡ J.refines s floats
