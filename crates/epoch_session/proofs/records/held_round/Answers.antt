-- `epoch_session::records::held_round` meets its contract: the epoch is the estimate's place.
use mathlib.Core.Path.{◌∙◌, ap}
use Rattle.epoch_session.specs.Rounds.{round_of}
use Rattle.epoch_session.specs.Records.{held_round}
use Rattle.epoch_session.proofs.records.held_round.Goals as goal

pub round_of-requires : goal.round_of-requires
round_of-requires c =
    let h = c.requires in
    rw c.estimate_of.ensures record { points_value = h.centred; placed_point = h.epoch; small = h.on-x; small_2 = h.on-y; small_3 = h.on-z }

pub returns : goal.returns
unfolding held_round
returns c =
    let s = c.args.s in
    c.round_of.ensures ∙ ap (λ q. round_of s.points q s.x.samples s.y.samples s.z.samples) c.estimate_of.ensures
