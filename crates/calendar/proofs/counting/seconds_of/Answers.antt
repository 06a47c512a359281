-- `calendar::counting::seconds_of` meets its contract.
use native.Mathlib.Omega.{arith}
use Rattle.calendar.specs.Calendar.{days_of, seconds_of}
use Rattle.calendar.proofs.Moments.{days-most}
use Rattle.calendar.proofs.counting.seconds_of.Goals as goal

pub returns : goal.returns
unfolding days_of seconds_of
returns c = omega arith

pub overflow_add-days : goal.overflow_add-days
unfolding days_of
overflow_add-days c = omega (arith, days-most c.requires)

pub overflow_add-days-2 : goal.overflow_add-days-2
unfolding days_of
overflow_add-days-2 c = omega (arith, days-most c.requires)

pub overflow_mul-result : goal.overflow_mul-result
unfolding days_of
overflow_mul-result c = omega (arith, days-most c.requires)

pub overflow_add-result : goal.overflow_add-result
unfolding days_of
overflow_add-result c = omega (arith, days-most c.requires)

pub overflow_mul-result-2 : goal.overflow_mul-result-2
unfolding days_of
overflow_mul-result-2 c = omega (arith, days-most c.requires)

pub overflow_add-result-2 : goal.overflow_add-result-2
unfolding days_of
overflow_add-result-2 c = omega (arith, days-most c.requires)

pub overflow_mul-result-3 : goal.overflow_mul-result-3
unfolding days_of
overflow_mul-result-3 c = omega (arith, days-most c.requires)

pub overflow_add-result-3 : goal.overflow_add-result-3
unfolding days_of
overflow_add-result-3 c = omega (arith, days-most c.requires)
