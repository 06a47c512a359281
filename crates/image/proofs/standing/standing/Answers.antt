-- `image::standing::standing` meets its contract.
use mathlib.Core.Path.{◌≡◌, sym, ◌∙◌}
use mathlib.Core.Bool.{true, false}
use Rattle.image.specs.Standing.{stands, standing}
use Rattle.image.proofs.standing.standing.Goals as goal

pub returns-then-stands : goal.returns-then-stands
unfolding standing
returns-then-stands c =
    let e : stands c.args.s ≡ true = sym c.stands.ensures ∙ c.if-stands.true in
    rw e

pub returns-else-stands : goal.returns-else-stands
unfolding standing
returns-else-stands c =
    let e : stands c.args.s ≡ false = sym c.stands.ensures ∙ c.if-stands.false in
    rw e c.closed.ensures
