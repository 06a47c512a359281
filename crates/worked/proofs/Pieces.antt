-- What a round shows, from its axes and those of the round before: a call that is too long to be computed as a whole is computed in these pieces.
use Prim.Native.Nat.{ℕ, ◌+◌, ◌*◌}
use mathlib.Core.Path.{◌≡◌, refl, ap, ◌∙◌}
use mathlib.Core.Bool.{Bool, true, false, not}
use mathlib.Core.List.{List, [], ◌∷◌, ◌++◌}
use lib.Dec.{eqb}
use lib.Ieee.{Float}
use lib.ListN.{length}
use Rattle.integers.specs.Tests.{◌and◌}
use Rattle.rules.specs.Rules.{first_of}
use Rattle.session.specs.declared.Session.{Session}
use Rattle.session.specs.Moves.{estimate_of}
use Rattle.session.specs.Requests.{Request, exact_point}
use Rattle.steps.specs.Answers.{reported_change}
use Rattle.steps.specs.Refusals.{sample_rules, is_last}
use Rattle.epoch_session.specs.declared.Round.{Round}
use Rattle.epoch_session.specs.Rounds.{round_in_range, rounds_agree, largest_move}
use Rattle.epoch_session.specs.Records.{held_round, starting, opened_round}
use Rattle.epoch_steps.specs.declared.Outcome.TheVariants.{More, Opened}
use Rattle.epoch_steps.specs.Refusals.{first_round, start_refusal, later_round, refine_refusal}
use Rattle.epoch_steps.specs.Steps.{told, starting_from, start_by, start_of, judged_round, refine_by, refine_of}
use Rattle.epoch_steps.specs.Answers.{AfterRound}

-- ---- a first round

pub first-shows : (r : Request) (axes : Round) → first_round r ≡ axes → start_refusal r ≡ 0 → start_of r ≡ start_by 0 r.tolerances r.limit (exact_point r.point) axes
unfolding start_of
first-shows r axes worked unrefused = λ i. start_by (unrefused i) r.tolerances r.limit (exact_point r.point) (worked i)

-- ---- a later round

-- the rules, by whether the record is starting, the round in range and the two agreed
abbrev pub rules_by : Bool → Bool → Bool → Session → List Float → List (Bool × ℕ)
rules_by held inside agreed s floats =
    (not held, 7)
    ∷ (not (eqb (length floats) (3 * s.points)), 2)
    ∷ (sample_rules floats ++ (not inside, 6) ∷ (not agreed and is_last s, 8) ∷ [])

-- what is left, by the axes of the round before
abbrev pub judged_from : Bool → Session → Round → Round → AfterRound
judged_from true s before r = record { session = opened_round s.tolerances s.limit r; answer = told Opened r }
judged_from false s before r =
    record {
      session = starting_from s.tolerances s.limit (s.corrections + 1) (estimate_of s) r;
      answer = told (More (reported_change (largest_move r before))) r;
    }

pub record Pieces (s : Session) (floats : List Float) (before now : Round) (agreed : Bool) : Type 0 where
  pub holds : starting s ≡ true
  pub held : held_round s ≡ before
  pub worked : later_round s floats ≡ now
  pub inside : round_in_range now ≡ true
  pub agrees : rounds_agree s.tolerances now before ≡ agreed
  pub unrefused : first_of (rules_by true true agreed s floats) ≡ 0

module _ (s : Session) (floats : List Float) (before now : Round) (agreed : Bool) (p : Pieces s floats before now agreed) where
  compared : rounds_agree s.tolerances now (held_round s) ≡ agreed
  compared = ap (rounds_agree s.tolerances now) p.held ∙ p.agrees

  unrefused : refine_refusal s floats ≡ 0
  unfolding refine_refusal
  unrefused =
      (λ i. first_of (rules_by (p.holds i) (round_in_range (p.worked i)) (rounds_agree s.tolerances (p.worked i) (held_round s)) s floats))
      ∙ (λ i. first_of (rules_by true (p.inside i) (compared i) s floats))
      ∙ p.unrefused

  judged : (t : Bool) → judged_round t s now ≡ judged_from t s (held_round s) now
  judged true = refl
  judged false = refl

  pub later-shows : refine_of s floats ≡ judged_from agreed s before now
  unfolding refine_of
  later-shows =
      (λ i. refine_by (unrefused i) s (p.worked i))
      ∙ judged (rounds_agree s.tolerances now (held_round s))
      ∙ (λ i. judged_from (compared i) s (p.held i) now)
