-- `reasons::changes::first_over` meets its contract: the six values in order, each against the last estimate.
use mathlib.Core.Path.{◌≡◌, ap, ◌∙◌}
use Prim.Native.Nat.{ℕ, ◌^◌}
use Rattle.std.specs.Option.{unwrap_or, option_or}
use Rattle.exact.proofs.Bounds.{widen}
use Rattle.axis.specs.Kinds.{of_position, of_velocity, tolerance_of}
use Rattle.session.specs.declared.Point.{Point}
use Rattle.session.specs.declared.Session.{Session}
use Rattle.session.specs.Coordinates.{on_x, on_y, on_z}
use Rattle.session.specs.Moves.{estimate_of}
use Rattle.session.specs.Ready.{Waiting, PlacedPoint}
use Rattle.session.specs.Values.{Value, value, value_at}
use Rattle.session.proofs.Kept.{estimate-point-placed}
use Rattle.reasons.specs.Reasons.{no_reason, is_over, moved, compared}
use Rattle.reasons.proofs.First.{at_fault, first-of-six}
use Rattle.reasons.proofs.changes.first_over.Goals as goal

module _ (s : Session) (before : Point) (e : before ≡ estimate_of s) where
  placed : Waiting s → PlacedPoint before
  placed w = rw e (estimate-point-placed s w)

  looked : (q : Point) (n : ℕ) (v : Value) → compared n (tolerance_of v.kind s.tolerances) (value_at v q) (value_at v before) ≡ at_fault (is_over s q) (moved s q) n v
  unfolding moved
  looked q n v = ap (λ b. compared n (tolerance_of v.kind s.tolerances) (value_at v q) (value_at v b)) e

pub compare-requires-clause-bounded_2 : goal.compare-requires-clause-bounded_2
compare-requires-clause-bounded_2 c = (placed c.args.s _ c.estimate_of-before.ensures c.requires.waiting).on-x.position

pub compare-requires-2-clause-bounded_2 : goal.compare-requires-2-clause-bounded_2
compare-requires-2-clause-bounded_2 c = (placed c.args.s _ c.estimate_of-before.ensures c.requires.waiting).on-y.position

pub compare-requires-3-clause-bounded_2 : goal.compare-requires-3-clause-bounded_2
compare-requires-3-clause-bounded_2 c = (placed c.args.s _ c.estimate_of-before.ensures c.requires.waiting).on-z.position

pub compare-requires-4-clause-bounded_2 : goal.compare-requires-4-clause-bounded_2
compare-requires-4-clause-bounded_2 c = widen (2 ^ 52) (placed c.args.s _ c.estimate_of-before.ensures c.requires.waiting).on-x.velocity tt

pub compare-requires-5-clause-bounded_2 : goal.compare-requires-5-clause-bounded_2
compare-requires-5-clause-bounded_2 c = widen (2 ^ 52) (placed c.args.s _ c.estimate_of-before.ensures c.requires.waiting).on-y.velocity tt

pub compare-requires-6-clause-bounded_2 : goal.compare-requires-6-clause-bounded_2
compare-requires-6-clause-bounded_2 c = widen (2 ^ 52) (placed c.args.s _ c.estimate_of-before.ensures c.requires.waiting).on-z.velocity tt

pub returns : goal.returns
returns c =
    let s = c.args.s in
    let q = c.args.q in
    let look = looked s c.estimate_of-before.result c.estimate_of-before.ensures q in
    simp (c.unwrap_or.ensures, c.or-5.ensures, c.or-4.ensures, c.or-3.ensures, c.or-2.ensures, c.or.ensures, c.place.ensures)
    ((λ i.
    unwrap_or
    (option_or
    (option_or
    (option_or
    (option_or
    (option_or ((c.compare.ensures ∙ look 1 (value of_position on_x)) i) ((c.compare-2.ensures ∙ look 2 (value of_position on_y)) i))
    ((c.compare-3.ensures ∙ look 3 (value of_position on_z)) i))
    ((c.compare-4.ensures ∙ look 4 (value of_velocity on_x)) i))
    ((c.compare-5.ensures ∙ look 5 (value of_velocity on_y)) i))
    ((c.compare-6.ensures ∙ look 6 (value of_velocity on_z)) i))
    no_reason)
    ∙ first-of-six (is_over s q) (moved s q) (value of_position on_x) (value of_position on_y) (value of_position on_z) (value of_velocity on_x) (value of_velocity on_y) (value of_velocity on_z))
