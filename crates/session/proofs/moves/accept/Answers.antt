-- `session::moves::accept` meets its contract: the three axes, and one point more.
use mathlib.Core.Path.{ap, ◌∙◌}
use Prim.Native.Nat.{◌+◌}
use borrow.Author.Rules.{rules}
use mir.Syntax.{w64}
use mir.Val.{SFits}
use mir.Facts.{to_z-of_z}
use Rattle.axis.specs.Formulas.{advanced_axis}
use Rattle.session.specs.declared.State.TheVariants.{Settled}
use Rattle.session.specs.Moves.{accepted_at, became}
use Rattle.session.proofs.moves.accept.Goals as goal

pub returns : goal.returns
unfolding accepted_at
returns c =
    let a = c.args in
    let fx : SFits w64 a.w.x = search rules in
    let fy : SFits w64 a.w.y = search rules in
    let fz : SFits w64 a.w.z = search rules in
    let s = a.s in
    let x = c.advanced_axis-x.ensures ∙ ap (advanced_axis s.points s.x) (to_z-of_z {w = w64} fx) in
    let y = c.advanced_axis-y.ensures ∙ ap (advanced_axis s.points s.y) (to_z-of_z {w = w64} fy) in
    let z = c.advanced_axis-z.ensures ∙ ap (advanced_axis s.points s.z) (to_z-of_z {w = w64} fz) in
    λ i. became s Settled (s.accepted + 1) 0 (x i) (y i) (z i)
