-- `script::series::Series::push` meets its contract: the places past the new piece are empty, as they were.
use Prim.Native.Nat.{◌<◌}
use native.Mathlib.Omega.{arith}
use mathlib.Core.Path.{◌∙◌, ap}
use lib.ListN.{length, length-set}
use lib.Seq.{length-take-le}
use Rattle.script.proofs.Filled.{one_more}
use Rattle.script.proofs.series.Series.push.Goals as goal

pub invariant_of-self : goal.invariant_of-self
invariant_of-self g c =
    let s = c.self.inside in
    let i = c.self.invariant in
    let many : s.count < g.row.N = omega (arith, c.requires, ap length c.self.view_is, length-take-le s.count s.pieces (omega (arith, i.0, i.1))) in
    (omega (arith, many), length-set s.pieces s.count _ ∙ i.1, one_more g.row.N s.count g.T.Item.empty s.pieces many i.1 i.2 _)
