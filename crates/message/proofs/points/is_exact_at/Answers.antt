-- `message::points::is_exact_at` meets its contract.
use Prim.Native.Nat.{◌+◌}
use borrow.Author.Rules.{rules}
use lib.IntN.{pos}
use lib.ListN.{get_or}
use mir.Syntax.{w64}
use mir.Val.{SFits}
use mir.Facts.{to_z-of_z}
use Rattle.message.proofs.Values.{below-zero, from_zero}
use Rattle.message.proofs.points.is_exact_at.Goals as goal

pub returns-then-rest-lt0 : goal.returns-then-rest-lt0
returns-then-rest-lt0 c =
    let a = c.args in
    let f : SFits w64 (get_or a.points.now (a.at + 1) (pos 0)) = search rules in
    below-zero a.points.now a.at (rw (to_z-of_z {w = w64} f) at c.if-rest-lt0.true)

pub returns : goal.returns
returns c =
    let a = c.args in
    let f : SFits w64 (get_or a.points.now (a.at + 1) (pos 0)) = search rules in
    rw (to_z-of_z {w = w64} f) (from_zero a.points.now a.at (rw (to_z-of_z {w = w64} f) at c.if-rest-lt0.false))
