-- `epoch_session::records::axes_start` meets its contract: axes that keep the rules hold a round.
use Rattle.std.proofs.Common.{◌≡◌, sym, ap, ◌∙◌, true, false}
use Rattle.integers.specs.Tests.{joined, clash, fails}
use Rattle.epoch_coefficients.specs.Formulas.{has_centre}
use Rattle.session.specs.declared.Session.{Session}
use Rattle.session.specs.Holding.{every_axis}
use Rattle.epoch_session.specs.Ready.{HoldsRound}
use Rattle.epoch_session.specs.Records.{axis_starts, axes_start, held_round}
use Rattle.epoch_session.specs.Rounds.{round_in_range}
use Rattle.epoch_session.proofs.Ready.{holds-round, held-ready}
use Rattle.epoch_session.proofs.records.axes_start.Goals as goal

module _ (s : Session) where
  held : has_centre s.points ≡ true → every_axis s (axis_starts s.points) ≡ true → HoldsRound s
  held h t = let (x, (y, z)) = simp joined at t in holds-round s h x y z

  rest : every_axis s (axis_starts s.points) ≡ true → round_in_range (held_round s) ≡ axes_start s
  unfolding axes_start
  rest t = let (x, (y, z)) = simp joined at t in sym (rw (x, y, z))

  broken : every_axis s (axis_starts s.points) ≡ false → false ≡ axes_start s
  unfolding axes_start
  broken t = sym (fails (axes_start s) (λ h. let (x, (y, (z, r))) = simp joined at h in clash (simp joined (x, (y, z))) t))

pub held_round-requires : goal.held_round-requires
held_round-requires c = held c.args.s c.requires (sym c.each_starts.ensures ∙ c.if-each_starts.true)

pub round_in_range-requires : goal.round_in_range-requires
round_in_range-requires c = rw c.held_round.ensures (held-ready c.args.s (held c.args.s c.requires (sym c.each_starts.ensures ∙ c.if-each_starts.true)))

pub returns-then-each_starts : goal.returns-then-each_starts
returns-then-each_starts c = c.round_in_range.ensures ∙ ap round_in_range c.held_round.ensures ∙ rest c.args.s (sym c.each_starts.ensures ∙ c.if-each_starts.true)

pub returns-else-each_starts : goal.returns-else-each_starts
returns-else-each_starts c = c.if-each_starts.false ∙ broken c.args.s (sym c.each_starts.ensures ∙ c.if-each_starts.false)
