-- `session::points::point_change` meets its contract: the larger changes of two axes, twice.
use mathlib.Core.Path.{sym, ap, ◌∙◌}
use Prim.Native.Nat.{max}
use Rattle.axis.specs.Agreement.{change_of, sizes}
use Rattle.axis.proofs.Agreement.{sizes-proper, larger-sizes}
use Rattle.session.proofs.Values.{change-by-axes}
use Rattle.session.proofs.points.point_change.Goals as goal

pub larger_change-requires : goal.larger_change-requires
larger_change-requires c = record { proper = rw c.change-y.ensures (sizes-proper _); proper_2 = rw c.change-z.ensures (sizes-proper _) }

pub larger_change-requires-2 : goal.larger_change-requires-2
larger_change-requires-2 c =
    let a = c.args in record { proper = rw c.change-x.ensures (sizes-proper _); proper_2 = rw (larger-sizes (change_of a.q.y a.before.y) (change_of a.q.z a.before.z) c.larger_change.ensures c.change-y.ensures c.change-z.ensures) (sizes-proper _) }

pub returns : goal.returns
returns c =
    let a = c.args in
    let y = change_of a.q.y a.before.y in
    let z = change_of a.q.z a.before.z in
    larger-sizes (change_of a.q.x a.before.x) (λ kind. max (y kind) (z kind)) c.larger_change-2.ensures c.change-x.ensures
    (larger-sizes y z c.larger_change.ensures c.change-y.ensures c.change-z.ensures)
    ∙ ap sizes (λ i kind. sym (change-by-axes a.q a.before kind) i)
