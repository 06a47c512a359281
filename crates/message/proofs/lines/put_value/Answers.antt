-- `message::lines::put_value` meets its contract: a space, and the value's text.
use mathlib.Core.Path.{◌∙◌, ap}
use native.Mathlib.Omega.{arith}
use borrow.Author.Rules.{sfits_of}
use lib.ListN.{length}
use mir.Syntax.{w64}
use mir.Facts.{to_z-of_z}
use Rattle.text.proofs.Written.{then}
use Rattle.message.proofs.Formed.{settings}
use Rattle.message.proofs.Values.{holds_exact, position-ready, velocity-ready, field-position, field-velocity, length-field}
use Rattle.message.proofs.lines.put_value.Goals as goal

pub value_at-e-requires : goal.value_at-e-requires
value_at-e-requires c =
    let a = c.args in
    record { at_in_bounds = omega (arith, c.requires.i_in_bounds.0, c.requires.i_in_bounds.1); at_value = holds_exact a.tick a.step a.points.now a.i a.k c.requires.step_value.1 }

pub put-requires : goal.put-requires
put-requires c =
    let a = c.args in
    omega (arith, c.requires.k_in_bounds, length-field a.tick a.step a.points.now a.i a.k)

pub position_units-requires : goal.position_units-requires
position_units-requires c =
    let a = c.args in
    record { k_bound = (settings c.requires.step_value.0).0; bounded = position-ready a.tick a.step a.points.now a.i a.k c.if-k-lt3.true c.requires.step_value.1 c.value_at-e.ensures }

pub put_fixed-requires : goal.put_fixed-requires
put_fixed-requires c =
    let a = c.args in
    let u = to_z-of_z {w = w64} (sfits_of {z = c.position_units.result} c.position_units.type_inv) ∙ c.position_units.ensures in
    let e = ap length (field-position a.tick a.step a.points.now a.i a.k c.if-k-lt3.true c.value_at-e.ensures u) in
    record { places_bound = omega arith; n_in_bounds = omega (arith, e, c.requires.k_in_bounds, c.put.ensures.wrote.ends, c.put.ensures.wrote.long) }

pub velocity_units-requires : goal.velocity_units-requires
velocity_units-requires c =
    let a = c.args in
    record { k_bound = settings c.requires.step_value.0; bounded = velocity-ready a.tick a.step a.points.now a.i a.k c.if-k-lt3.false c.requires.step_value.1 c.value_at-e.ensures }

pub put_fixed-requires-else-k-lt3 : goal.put_fixed-requires-else-k-lt3
put_fixed-requires-else-k-lt3 c =
    let a = c.args in
    let u = to_z-of_z {w = w64} (sfits_of {z = c.velocity_units.result} c.velocity_units.type_inv) ∙ c.velocity_units.ensures in
    let e = ap length (field-velocity a.tick a.step a.points.now a.i a.k c.if-k-lt3.false c.value_at-e.ensures u) in
    record { places_bound = omega arith; n_in_bounds = omega (arith, e, c.requires.k_in_bounds, c.put.ensures.wrote.ends, c.put.ensures.wrote.long) }

pub returns-then-k-lt3 : goal.returns-then-k-lt3
returns-then-k-lt3 c =
    let a = c.args in
    let u = to_z-of_z {w = w64} (sfits_of {z = c.position_units.result} c.position_units.type_inv) ∙ c.position_units.ensures in
    rw (field-position a.tick a.step a.points.now a.i a.k c.if-k-lt3.true c.value_at-e.ensures u) (then c.put.ensures c.put_fixed.ensures)

pub returns-else-k-lt3 : goal.returns-else-k-lt3
returns-else-k-lt3 c =
    let a = c.args in
    let u = to_z-of_z {w = w64} (sfits_of {z = c.velocity_units.result} c.velocity_units.type_inv) ∙ c.velocity_units.ensures in
    rw (field-velocity a.tick a.step a.points.now a.i a.k c.if-k-lt3.false c.value_at-e.ensures u) (then c.put.ensures c.put_fixed-else-k-lt3.ensures)
