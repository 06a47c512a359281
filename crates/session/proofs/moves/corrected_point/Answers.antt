-- `session::moves::corrected_point` meets its contract: the three axes.
use mathlib.Core.Path.{ap, ◌∙◌}
use borrow.Author.Rules.{rules}
use mir.Syntax.{w64}
use mir.Val.{SFits}
use mir.Facts.{to_z-of_z}
use Rattle.axis.specs.Formulas.{corrected_motion}
use Rattle.session.specs.Moves.{corrected_point}
use Rattle.session.proofs.moves.corrected_point.Goals as goal

pub returns : goal.returns
unfolding corrected_point
returns c =
    let a = c.args in
    let fx : SFits w64 a.w.x = search rules in
    let fy : SFits w64 a.w.y = search rules in
    let fz : SFits w64 a.w.z = search rules in
    let p = a.s.points in
    let x = c.corrected_motion-x.ensures ∙ ap (corrected_motion p a.s.x) (to_z-of_z {w = w64} fx) in
    let y = c.corrected_motion-y.ensures ∙ ap (corrected_motion p a.s.y) (to_z-of_z {w = w64} fy) in
    let z = c.corrected_motion-z.ensures ∙ ap (corrected_motion p a.s.z) (to_z-of_z {w = w64} fz) in
    λ i. record { x = x i; y = y i; z = z i }
