-- What the arithmetic of a round asks, so that nothing leaves its type. A round from an epoch in range and small samples has it.
use Rattle.std.specs.Prelude.{◌≡◌, true}
use Rattle.epoch_coefficients.specs.Formulas.{has_centre}
use Rattle.axis.specs.Ready.{Ready}
use Rattle.coefficients.specs.Formulas.{Small}
use Rattle.session.specs.declared.Session.{Session}
use Rattle.session.specs.Moves.{estimate_of}
use Rattle.session.specs.Ready.{PlacedPoint}
use Rattle.epoch_session.specs.declared.Round.{Round}

pub record ReadyRound (r : Round) : Type 0 where
  pub centred : has_centre r.points ≡ true
  pub on-x : Ready r.points r.x
  pub on-y : Ready r.points r.y
  pub on-z : Ready r.points r.z

-- a record whose epoch and samples give a round
pub record HoldsRound (s : Session) : Type 0 where
  pub centred : has_centre s.points ≡ true
  pub epoch : PlacedPoint (estimate_of s)
  pub on-x : Small s.x.samples
  pub on-y : Small s.y.samples
  pub on-z : Small s.z.samples
