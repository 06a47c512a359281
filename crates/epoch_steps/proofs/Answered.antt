-- The answers: their shape is one to one, and what each call answers in that shape.
use mathlib.Core.Path.{◌≡◌, refl, sym, ap, ◌∙◌}
use mathlib.Core.Bool.{Bool, true, false, cond}
use mathlib.Core.List.{List}
use Prim.Native.Nat.{ℕ, zero, suc}
use native.Mathlib.Nat.{suc-ne-zero}
use native.Mathlib.Omega.{arith}
use lib.Ieee.{Float}
use Rattle.session.specs.declared.Session.{Session}
use Rattle.epoch_session.specs.declared.Round.{Round}
use Rattle.epoch_session.specs.Rounds.{rounds_agree, largest_move}
use Rattle.epoch_session.specs.Records.{held_round}
use Rattle.steps.specs.declared.ReportedMotion.{ReportedMotion}
use Rattle.steps.specs.declared.ReportedPoint.{ReportedPoint}
use Rattle.rules.specs.Rules.{NotZero}
use Rattle.steps.specs.Answers.{no_change, reported_change}
use Rattle.session.specs.Requests.{Request, exact_point}
use Rattle.steps.proofs.Changes.{clash-of}
use Rattle.epoch_steps.specs.declared.Outcome.{Outcome}
use Rattle.epoch_steps.specs.declared.Outcome.TheVariants.{More, Opened, Refused}
use Rattle.epoch_steps.specs.declared.RoundAnswer.{RoundAnswer}
use Rattle.epoch_steps.specs.Answers.{round_points, values, outcome_values, round_answer}
use Rattle.epoch_steps.specs.Refusals.{first_round, start_refusal, later_round, refine_refusal}
use Rattle.epoch_steps.specs.Steps.{start_by, start_of, start_answer_by, start_answer, judged_round, refine_by, refine_of, refine_answer_by, refine_answer}

-- ---- the shape is one to one: the kind tells the cases apart whatever the number

one-outcome : (a b : Outcome) (ps qs : List ReportedPoint) → outcome_values a ps ≡ outcome_values b qs → a ≡ b
one-outcome (More c) (More d) ps qs e = ap More (ap (λ r. r.change) e)
one-outcome (More c) Opened ps qs e = absurd (omega (arith, ap (λ r. r.kind) e))
one-outcome (More c) (Refused n) ps qs e = absurd (omega (arith, ap (λ r. r.kind) e))
one-outcome Opened (More d) ps qs e = absurd (omega (arith, ap (λ r. r.kind) e))
one-outcome Opened Opened ps qs e = refl
one-outcome Opened (Refused n) ps qs e = absurd (omega (arith, ap (λ r. r.kind) e))
one-outcome (Refused m) (More d) ps qs e = absurd (omega (arith, ap (λ r. r.kind) e))
one-outcome (Refused m) Opened ps qs e = absurd (omega (arith, ap (λ r. r.kind) e))
one-outcome (Refused m) (Refused n) ps qs e = ap Refused (ap (λ r. r.number) e)

-- the points of an answer stand in its shape
pub shape-points : (a : Outcome) (ps : List ReportedPoint) → (outcome_values a ps).track ≡ ps
shape-points (More c) ps = refl
shape-points Opened ps = refl
shape-points (Refused n) ps = refl

one_list : (a b : Outcome) (ps qs : List ReportedPoint) → outcome_values a ps ≡ outcome_values b qs → ps ≡ qs
one_list a b ps qs e = sym (shape-points a ps) ∙ ap (λ r. r.track) e ∙ shape-points b qs

pub one-to-one : (a b : RoundAnswer) → round_answer a ≡ round_answer b → a ≡ b
one-to-one a b e = λ i. record {
  outcome = one-outcome a.outcome b.outcome a.track b.track e i;
  track = one_list a.outcome b.outcome a.track b.track e i;
}

-- ---- what each call answers, and that a refusal's number is not 0

abbrev pub Numbered : Outcome → Type 0
Numbered (More c) = Unit {0}
Numbered Opened = Unit {0}
Numbered (Refused n) = NotZero n

module _ (r : Request) where
  abbrev first : ℕ → Outcome
  first n = (start_by n r.tolerances r.limit (exact_point r.point) (first_round r)).answer.outcome

  pub start-answers : round_answer (start_of r).answer ≡ start_answer r
  unfolding start_of
  start-answers = go (start_refusal r)
    where
      go : (n : ℕ) → round_answer (start_by n r.tolerances r.limit (exact_point r.point) (first_round r)).answer ≡ start_answer_by n (first_round r)
      go zero = refl
      go (suc n) = refl

  pub start-numbered : Numbered (start_of r).answer.outcome
  unfolding start_of
  start-numbered = go (start_refusal r)
    where
      go : (n : ℕ) → Numbered (first n)
      go zero = tt
      go (suc n) = suc-ne-zero n

  -- what is asked for after a first round carries no change
  pub first-told : (c : ReportedMotion) → (start_of r).answer.outcome ≡ More c → (start_refusal r ≡ 0) × (c ≡ no_change)
  unfolding start_of
  first-told c = go (start_refusal r)
    where
      go : (n : ℕ) → first n ≡ More c → (n ≡ 0) × (c ≡ no_change)
      go zero h = (refl, cc)
      go (suc n) h = absurd (clash-of (cc))

  -- a first round opens nothing
  pub first-not-opened : (start_of r).answer.outcome ≡ Opened → ⊥
  unfolding start_of
  first-not-opened = go (start_refusal r)
    where
      go : (n : ℕ) → first n ≡ Opened → ⊥
      go zero h = clash-of (cc)
      go (suc n) h = clash-of (cc)

module _ (s : Session) (floats : List Float) where
  abbrev later : Round
  later = later_round s floats

  abbrev agreed : Bool
  agreed = rounds_agree s.tolerances later (held_round s)

  abbrev moved : ReportedMotion
  moved = reported_change (largest_move later (held_round s))

  pub refine-answers : round_answer (refine_of s floats).answer ≡ refine_answer s floats
  unfolding refine_of
  refine-answers = go (refine_refusal s floats)
    where
      by : (t : Bool) → round_answer (judged_round t s later).answer ≡ values 0 (cond t 3 2) (cond t no_change moved) (round_points later)
      by true = refl
      by false = refl

      go : (n : ℕ) → round_answer (refine_by n s later).answer ≡ refine_answer_by n s later
      go zero = by agreed
      go (suc n) = refl

  pub refine-numbered : Numbered (refine_of s floats).answer.outcome
  unfolding refine_of
  refine-numbered = go (refine_refusal s floats)
    where
      by : (t : Bool) → Numbered (judged_round t s later).answer.outcome
      by true = tt
      by false = tt

      go : (n : ℕ) → Numbered (refine_by n s later).answer.outcome
      go zero = by agreed
      go (suc n) = suc-ne-zero n

  -- ---- what an answer tells of the round

  pub opened-told : (refine_of s floats).answer.outcome ≡ Opened → (refine_refusal s floats ≡ 0) × (agreed ≡ true)
  unfolding refine_of
  opened-told = go (refine_refusal s floats)
    where
      by : (t : Bool) → (judged_round t s later).answer.outcome ≡ Opened → t ≡ true
      by true h = refl
      by false h = absurd (clash-of (cc))

      go : (n : ℕ) → (refine_by n s later).answer.outcome ≡ Opened → (n ≡ 0) × (agreed ≡ true)
      go zero h = (refl, by agreed h)
      go (suc n) h = absurd (clash-of (cc))

  pub more-told : (c : ReportedMotion) → (refine_of s floats).answer.outcome ≡ More c → (refine_refusal s floats ≡ 0) × ((agreed ≡ false) × (c ≡ moved))
  unfolding refine_of
  more-told c = go (refine_refusal s floats)
    where
      by : (t : Bool) → (judged_round t s later).answer.outcome ≡ More c → (t ≡ false) × (c ≡ moved)
      by true h = absurd (clash-of (cc))
      by false h = (refl, cc)

      go : (n : ℕ) → (refine_by n s later).answer.outcome ≡ More c → (n ≡ 0) × ((agreed ≡ false) × (c ≡ moved))
      go zero h = (refl, by agreed h)
      go (suc n) h = absurd (clash-of (cc))
