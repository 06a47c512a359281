-- What is proved: `proofs/Theorems.antt` has a proof of each.
use Rattle.std.specs.Prelude.{◌≡◌, ◌↔◌, ◌⊎◌, true, ◌^◌, ◌≤◌, nat_abs}
use Rattle.integers.specs.Lines.{All}
use Rattle.rules.specs.Rules.{NotZero}
use Rattle.ticks.specs.declared.Sample.{Sample}
use Rattle.ticks.specs.declared.WholeSample.{WholeSample}
use Rattle.ticks.specs.Samples.{whole_of}
use Rattle.session.specs.declared.Session.{Session}
use Rattle.session.specs.Coordinates.{Coordinate}
use Rattle.session.specs.Moves.{estimate_of, corrected_point}
use Rattle.steps.specs.Answers.{correction_answer}
use Rattle.steps.specs.Steps.{correct_of}
use Rattle.demands.specs.Records.{AwaitingRecord}
use Rattle.reasons.specs.Differences.{difference_on}
use Rattle.reasons.specs.Explanations.{explain_of}
use Rattle.causes.specs.Causes.{Explaining, Causes, GivesDifferences, given_on, corrected, number_in, reason_in}
use Rattle.causes.specs.Changes.{ChangesBy}
use Rattle.causes.specs.BadVersions.{naming_the_last, velocities_first, explaining_accepted}
use Rattle.causes.specs.Figures.{figures}

pub record Explained : Type 0 where
  -- our explanations name the cause, and give the differences
  pub causes : Causes explain_of
  pub gives : GivesDifferences explain_of
  -- that leaves no choice
  pub one : (E F : Explaining) → Causes E → GivesDifferences E → Causes F → GivesDifferences F → (s : Session) (a : Sample) → E s a ≡ F s a
  -- the number and the kind are those of the call itself
  pub answers : (E : Explaining) → Causes E → (s : Session) (a : Sample) →
      (number_in E s a ≡ (correction_answer (correct_of s a).answer).number) × ((E s a).kind ≡ (correction_answer (correct_of s a).answer).kind)
  -- a reason is named exactly for again and for a refusal other than 7
  pub named : (E : Explaining) → Causes E → (s : Session) (a : Sample) →
      NotZero (reason_in E s a).value ↔ (((E s a).kind ≡ 2) ⊎ (NotZero (number_in E s a) × (¬ (number_in E s a ≡ 7))))
  -- a first correction changes each position by s(p+1) times the p-th difference and each velocity by g(p) times it: in every record that holds,
  -- whatever was called before, for every p
  pub changes : (s : Session) (w : WholeSample) → AwaitingRecord s → s.corrections ≡ 0 → (k : Coordinate) →
      ChangesBy s.points (difference_on k s w) k (estimate_of s) (corrected_point s w)
  -- and so by the differences that are given
  pub changes_given : (E : Explaining) → Causes E → GivesDifferences E → (s : Session) (a : Sample) → (E s a).differences.given ≡ true → (k : Coordinate) →
      ChangesBy s.points (given_on k (E s a).differences) k (estimate_of s) (corrected s a)
  -- which are at most 2^37, whatever the sample
  pub size : (s : Session) (a : Sample) → AwaitingRecord s → (k : Coordinate) → nat_abs (difference_on k s (whole_of a)) ≤ 2 ^ 37
  -- the figures
  pub computed : All figures

-- the bad versions do not name the cause
pub record TurnedDown : Type 0 where
  pub last : ¬ Causes naming_the_last
  pub velocities : ¬ Causes velocities_first
  pub accepted : ¬ Causes explaining_accepted
