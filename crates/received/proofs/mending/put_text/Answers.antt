-- `received::mending::put_text` meets its contract: the head, and then the lines kept.
use native.Mathlib.Omega.{arith}
use Rattle.text.proofs.Written.{then}
use Rattle.received.specs.Planning.{planned_text}
use Rattle.received.proofs.Mends.{whole_long}
use Rattle.received.proofs.mending.put_text.Goals as goal

pub put_head-requires : goal.put_head-requires
put_head-requires c =
    let a = c.args in
    record { planned = c.requires.planned; p_in_bounds = omega (arith, c.requires.p_in_bounds, whole_long a.text.now a.p c.requires.planned) }

pub put_kept-requires : goal.put_kept-requires
put_kept-requires c =
    let a = c.args in
    let w = c.put_head.ensures.wrote in
    record { from_in_bounds = omega (arith, c.requires.planned.within); text_in_bounds = omega (arith, c.requires.p_in_bounds, whole_long a.text.now a.p c.requires.planned, w.ends, w.long) }

pub returns : goal.returns
unfolding planned_text
returns c = then c.put_head.ensures c.put_kept.ensures
