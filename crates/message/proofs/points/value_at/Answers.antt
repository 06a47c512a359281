-- `message::points::value_at` meets its contract.
use mathlib.Core.Path.{◌∙◌, ap}
use native.Mathlib.Omega.{arith}
use borrow.Author.Rules.{rules}
use Prim.Native.Nat.{◌+◌, ◌<◌}
use lib.IntN.{pos, nat_abs}
use lib.ListN.{get_or}
use mir.Syntax.{w64}
use mir.Val.{SFits}
use mir.Facts.{to_z-of_z}
use Rattle.exact.specs.Numerator.{D}
use Rattle.message.proofs.Values.{value-is, rest-small-at}
use Rattle.message.proofs.points.value_at.Goals as goal

pub overflow_cast-part : goal.overflow_cast-part
overflow_cast-part c =
    let a = c.args in
    let f : SFits w64 (get_or a.points.now (a.at + 1) (pos 0)) = search rules in
    let s = c.size-part.ensures ∙ ap nat_abs (to_z-of_z {w = w64} f) in
    let l : c.size-part.result < D = omega (arith, s, rest-small-at a.points.now a.at c.requires.at_value) in
    omega (arith, l)

pub returns : goal.returns
returns c =
    let a = c.args in
    let f : SFits w64 (get_or a.points.now (a.at + 1) (pos 0)) = search rules in
    let g : SFits w64 (get_or a.points.now a.at (pos 0)) = search rules in
    value-is a.points.now a.at (to_z-of_z {w = w64} g) (c.size-part.ensures ∙ ap nat_abs (to_z-of_z {w = w64} f))
