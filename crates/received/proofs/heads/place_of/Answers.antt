-- `received::heads::place_of` meets its contract.
use mathlib.Core.Path.{ap}
use native.Mathlib.Omega.{arith}
use lib.ListN.{length}
use Rattle.received.proofs.Reached.{placed, place_is}
use Rattle.received.proofs.heads.place_of.Goals as goal

pub overflow_sub-result : goal.overflow_sub-result
overflow_sub-result c =
    let p = placed c.args.edition c.args.text.now c.requires.through c.args.k c.requires.k_bound.0 c.requires.k_bound.1 (ap length c.front_of.ensures) c.begin_of-here.ensures.begins c.begin_of-next.ensures.begins in
    omega (arith, p.ends)

pub overflow_sub-result-2 : goal.overflow_sub-result-2
overflow_sub-result-2 c =
    let p = placed c.args.edition c.args.text.now c.requires.through c.args.k c.requires.k_bound.0 c.requires.k_bound.1 (ap length c.front_of.ensures) c.begin_of-here.ensures.begins c.begin_of-next.ensures.begins in
    omega (arith, p.ends)

pub returns : goal.returns
returns c =
    let p = placed c.args.edition c.args.text.now c.requires.through c.args.k c.requires.k_bound.0 c.requires.k_bound.1 (ap length c.front_of.ensures) c.begin_of-here.ensures.begins c.begin_of-next.ensures.begins in
    (place_is c.args.edition c.args.text.now c.requires.through c.args.k c.requires.k_bound.0 c.requires.k_bound.1 p, omega (arith, p.ends, p.within))
