-- `epoch_coefficients::tables::velocity` meets its contract: each table lists the rows that the rules give, which antt computes (`refl`).
use mathlib.Core.Path.{refl}
use Prim.Native.Nat.{◌≤◌}
use native.Mathlib.Omega.{arith}
use borrow.Author.Rules.{rules}
use Rattle.integers.specs.Differences.{ordinates, spread}
use Rattle.coefficients.specs.declared.Formula.TheVariants.{VelocityCorrector}
use Rattle.coefficients.proofs.Written.{written}
use Rattle.epoch_coefficients.specs.Formulas.{less_before, cut, earlier_velocity}
use Rattle.epoch_coefficients.proofs.Centre.{ninth, at-most-9}
use Rattle.epoch_coefficients.proofs.Rows.{listed-row}
use Rattle.epoch_coefficients.proofs.tables.velocity.Goals as goal

pub offset_bounds-j-in_default : goal.offset_bounds-j-in_default
offset_bounds-j-in_default c =
    let e : c.args.p ≤ 9 = at-most-9 c.requires.p_value in
    search rules

pub bounds-j-j-in_default : goal.bounds-j-j-in_default
bounds-j-j-in_default c = omega (arith, at-most-9 c.requires.p_value)

pub returns-in-3 : goal.returns-in-3
unfolding written ordinates spread cut less_before earlier_velocity
returns-in-3 c = listed-row VelocityCorrector 3 refl c.in-3.is c.requires.j_lt_p

pub returns-in-5 : goal.returns-in-5
unfolding written ordinates spread cut less_before earlier_velocity
returns-in-5 c = listed-row VelocityCorrector 5 refl c.in-5.is c.requires.j_lt_p

pub returns-in-7 : goal.returns-in-7
unfolding written ordinates spread cut less_before earlier_velocity
returns-in-7 c = listed-row VelocityCorrector 7 refl c.in-7.is c.requires.j_lt_p

pub returns-in_default : goal.returns-in_default
unfolding written ordinates spread cut less_before earlier_velocity
returns-in_default c = listed-row VelocityCorrector 9 refl (ninth c.requires.p_value (search rules)) c.requires.j_lt_p
