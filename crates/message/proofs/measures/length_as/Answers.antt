-- `message::measures::length_as` meets its contract.
use mathlib.Core.Path.{◌∙◌}
use Rattle.message.proofs.Formed.{settings}
use Rattle.message.proofs.Lengths.{length-position, length-velocity}
use Rattle.message.proofs.measures.length_as.Goals as goal

pub position_length-requires : goal.position_length-requires
position_length-requires c = ((settings c.requires.0).0, c.requires.1)

pub returns-then-k-lt3 : goal.returns-then-k-lt3
returns-then-k-lt3 c =
    let a = c.args in
    (c.position_length.ensures.0 ∙ length-position a.tick a.step a.k a.e c.if-k-lt3.true, c.position_length.ensures.1)

pub returns-else-k-lt3 : goal.returns-else-k-lt3
returns-else-k-lt3 c =
    let a = c.args in
    (c.velocity_length.ensures.0 ∙ length-velocity a.tick a.step a.k a.e c.if-k-lt3.false, c.velocity_length.ensures.1)
