-- `calendar::reader::is_real` meets its contract.
use mathlib.Core.Path.{◌≡◌, sym}
use mathlib.Core.Bool.{false}
use native.Mathlib.Omega.{arith}
use Rattle.integers.specs.Tests.{fails}
use Rattle.calendar.specs.declared.Moment.{Moment}
use Rattle.calendar.specs.Calendar.{Real, is_real}
use Rattle.calendar.proofs.Moments.{tested_real, real-tested}
use Rattle.calendar.proofs.reader.is_real.Goals as goal

refused : (m : Moment) → (Real m → ⊥) → false ≡ is_real m
refused m h = sym (fails (is_real m) (λ e. h (tested_real m e)))

pub returns : goal.returns
returns c =
    sym
    (real-tested _
    (record {
      year = omega arith;
      month = omega arith;
      day = omega arith;
      hour = omega arith;
      minute = omega arith;
      second = omega arith;
    }))

pub returns-then-m-lt1 : goal.returns-then-m-lt1
returns-then-m-lt1 c = refused _ (λ r. omega arith)

pub returns-then-m-gt9999 : goal.returns-then-m-gt9999
returns-then-m-gt9999 c = refused _ (λ r. omega arith)

pub returns-then-m-lt1-2 : goal.returns-then-m-lt1-2
returns-then-m-lt1-2 c = refused _ (λ r. omega arith)

pub returns-then-m-gt12 : goal.returns-then-m-gt12
returns-then-m-gt12 c = refused _ (λ r. omega arith)

pub returns-then-m-lt1-3 : goal.returns-then-m-lt1-3
returns-then-m-lt1-3 c = refused _ (λ r. omega arith)

pub returns-then-days_of_month-m : goal.returns-then-days_of_month-m
returns-then-days_of_month-m c = refused _ (λ r. omega arith)

pub returns-then-m-gt23 : goal.returns-then-m-gt23
returns-then-m-gt23 c = refused _ (λ r. omega arith)

pub returns-then-m-gt59 : goal.returns-then-m-gt59
returns-then-m-gt59 c = refused _ (λ r. omega arith)

pub returns-then-m-gt59-2 : goal.returns-then-m-gt59-2
returns-then-m-gt59-2 c = refused _ (λ r. omega arith)
