-- What holds of every exact value that a round's answer carries, at each of its nine places and of its change. Definitions only.
use Rattle.std.specs.Prelude.{List, [], ◌∷◌}
use Rattle.steps.specs.declared.ReportedPoint.{ReportedPoint}
use Rattle.steps.specs.Faithful.{FaithfulMotion, FaithfulPoint}
use Rattle.epoch_steps.specs.declared.RoundValues.{RoundValues}

abbrev pub FaithfulPoints : List ReportedPoint → Type 0
FaithfulPoints [] = Unit {0}
FaithfulPoints (q ∷ qs) = FaithfulPoint q × FaithfulPoints qs

pub record FaithfulRound (v : RoundValues) : Type 0 where
  pub track : FaithfulPoints v.track
  pub change : FaithfulMotion v.change
