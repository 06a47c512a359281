-- `session::whole::exact_point` meets its contract: the three axes.
use mathlib.Core.Path.{◌≡◌, ap₂, ◌∙◌}
use borrow.Author.Rules.{rules}
use lib.IntN.{ℤ}
use mir.Syntax.{w64}
use mir.Val.{SFits, to_z, of_z}
use mir.Facts.{to_z-of_z}
use Rattle.axis.specs.declared.Motion.{Motion}
use Rattle.session.specs.Requests.{whole_motion, exact_point}
use Rattle.session.proofs.whole.exact_point.Goals as goal

-- fields passed as their bits
from_bits : {r : Motion} {x v : ℤ} → r ≡ whole_motion (to_z w64 (of_z w64 x)) (to_z w64 (of_z w64 v)) → SFits w64 x → SFits w64 v → r ≡ whole_motion x v
from_bits e f g = e ∙ ap₂ whole_motion (to_z-of_z {w = w64} f) (to_z-of_z {w = w64} g)

pub returns : goal.returns
unfolding exact_point
returns c =
    let s = c.args.q in
    let fx : SFits w64 s.x = search rules in
    let gx : SFits w64 s.vx = search rules in
    let fy : SFits w64 s.y = search rules in
    let gy : SFits w64 s.vy = search rules in
    let fz : SFits w64 s.z = search rules in
    let gz : SFits w64 s.vz = search rules in
    λ i. record { x = from_bits c.at_whole-x.ensures fx gx i; y = from_bits c.at_whole-y.ensures fy gy i; z = from_bits c.at_whole-z.ensures fz gz i }
