-- `session::holding::is_open` meets its contract: the tests; the axes that hold are ready for the state.
use Rattle.std.proofs.Common.{◌≡◌, sym, ◌∙◌, true, false}
use Rattle.integers.specs.Tests.{joined, clash, fails}
use Rattle.axis.specs.Holding.{axis_holds}
use Rattle.session.specs.declared.Session.{Session}
use Rattle.session.specs.Holding.{every_axis, counts_hold, state_holds, holds}
use Rattle.session.proofs.Coordinates.{on-each}
use Rattle.session.proofs.Rules.{KeepsRules, as-tested, counts-are, ready}
use Rattle.session.proofs.holding.is_open.Goals as goal
use Rattle.session.proofs.holding.is_open.Goals.{then-counts_hold, else-counts_hold}

module _ (s : Session) (n : counts_hold s ≡ true) where
  rules : every_axis s (axis_holds s.points) ≡ true → KeepsRules s
  rules t = let (x, (y, z)) = simp joined at t in record { counts = n; axes = on-each _ x y z }

  rest : every_axis s (axis_holds s.points) ≡ true → state_holds s.state s ≡ holds s
  rest t = let (x, (y, z)) = simp joined at t in sym (as-tested s ∙ rw (n, x, y, z))

  broken : every_axis s (axis_holds s.points) ≡ false → false ≡ holds s
  broken t = sym (fails (holds s) (λ h. let (c, (x, (y, (z, k)))) = simp joined at (sym (as-tested s) ∙ h) in clash (simp joined (x, (y, z))) t))

uncounted : (s : Session) → counts_hold s ≡ false → false ≡ holds s
uncounted s n = sym (as-tested s ∙ rw n)

pub axes_hold-requires : goal.axes_hold-requires
axes_hold-requires c = (counts-are c.args.s (sym c.counts_hold.ensures ∙ c.if-counts_hold.true)).points

pub state_holds-requires : goal.state_holds-requires
state_holds-requires c =
    elim c.if-counts_hold.branch [
      | then-counts_hold w ↦ ready c.args.s (rules c.args.s (sym c.counts_hold.ensures ∙ w.if-counts_hold.true) (sym w.axes_hold.ensures ∙ sym w.value-is ∙ c.if-axes_hold.true))
      | else-counts_hold w ↦ clash c.if-axes_hold.true (w.value-is ∙ w.if-counts_hold.false)
    ]

pub returns-then-axes_hold : goal.returns-then-axes_hold
returns-then-axes_hold c =
    elim c.if-counts_hold.branch [
      | then-counts_hold w ↦ c.state_holds.ensures ∙ rest c.args.s (sym c.counts_hold.ensures ∙ w.if-counts_hold.true) (sym w.axes_hold.ensures ∙ sym w.value-is ∙ c.if-axes_hold.true)
      | else-counts_hold w ↦ clash c.if-axes_hold.true (w.value-is ∙ w.if-counts_hold.false)
    ]

pub returns-else-axes_hold : goal.returns-else-axes_hold
returns-else-axes_hold c =
    c.if-axes_hold.false
    ∙ elim c.if-counts_hold.branch [
      | then-counts_hold w ↦ broken c.args.s (sym c.counts_hold.ensures ∙ w.if-counts_hold.true) (sym w.axes_hold.ensures ∙ sym w.value-is ∙ c.if-axes_hold.false)
      | else-counts_hold w ↦ uncounted c.args.s (sym c.counts_hold.ensures ∙ w.if-counts_hold.false)
    ]
