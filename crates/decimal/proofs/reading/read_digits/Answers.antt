-- `decimal::reading::read_digits` meets its contract. The loop's invariant: the digits passed are in the number so far.
use Rattle.std.specs.Prelude.{Some}
use mathlib.Core.Path.{◌≡◌, sym, ◌∙◌, ap}
use mathlib.Core.Logic.{◌⊎◌, inl, inr}
use mathlib.Core.List.{List}
use Prim.Native.Nat.{ℕ, ◌+◌, ◌-◌, ◌<◌}
use native.Mathlib.Nat.{add-zero}
use native.Mathlib.Omega.{arith}
use lib.ListN.{length, take, drop, length-drop}
use lib.Seq.{take_all}
use Rattle.decimal.specs.Reading.{more_digits}
use Rattle.decimal.proofs.DigitsRead.{too_few, front, all_read, no_digit, too_long, goes_on}
use Rattle.decimal.proofs.reading.read_digits.Goals as goal
use Rattle.decimal.proofs.reading.read_digits.Goals.{then-not-is_ascii_digit-via-then-not-is_ascii_digit, then-not-is_ascii_digit-via-else-not-is_ascii_digit+then-n-gt999999999999999999}

pub returns-in_err-b-items : goal.returns-in_err-b-items
returns-in_err-b-items c = by c.in_err-b-items.ensures.lookup.0
  where
    by : (c.args.count < 0) ⊎ (length c.in_ok-get.field-0.now < c.args.count) → c.from_residual-in_err-b-items.result ≡ more_digits c.args.count (drop c.args.from c.args.s.now) c.args.first c.args.from
    by (inl h) = absurd (omega arith)
    by (inr h) =
        c.from_residual-in_err-b-items.ensures
        ∙ sym (too_few _ _ _ _ (omega (arith, c.in_ok-get.ensures.lookup.0.3, length-drop c.args.from c.args.s.now)))

-- what is lent from a place on
rest : (s : List ℕ) (at : ℕ) → take (length s - at) (drop at s) ≡ drop at s
rest s at = take_all (length s - at) (drop at s) (omega (arith, length-drop at s))

pub loop-b-init : goal.loop-b-init
loop-b-init c =
    let a = c.args in
    let z : a.count - 0 ≡ a.count = omega arith in
    let e = c.in_ok-b-items.ensures.lookup.0.2 ∙ ap (λ m. take m c.in_ok-get.field-0.now) z ∙ ap (take a.count) (c.in_ok-get.ensures.lookup.0.2 ∙ rest a.s.now a.from) in
    rw (z, e, add-zero a.from) (front a.count (drop a.from a.s.now) a.first a.from)

pub returns-then-not-is_ascii_digit : goal.returns-then-not-is_ascii_digit
returns-then-not-is_ascii_digit c =
    let p : 0 < c.args.count - c.loop-b.b-index = omega (arith, c.loop-b-test.true, c.in_ok-b-items.ensures.lookup.0.3) in
    sym
    (sym c.loop-b.invariant
    ∙ elim c.then-not-is_ascii_digit.branch [
      | then-not-is_ascii_digit-via-then-not-is_ascii_digit w ↦ no_digit _ _ _ _ _ c.loop-b-test.true p (sym w.if-not-is_ascii_digit.ensures.value)
      | then-not-is_ascii_digit-via-else-not-is_ascii_digit+then-n-gt999999999999999999 w ↦ too_long _ _ _ _ _ c.loop-b-test.true p (sym w.if-not-is_ascii_digit.ensures.value) w.if-n-gt999999999999999999.true
    ])

pub loop-b-preserved : goal.loop-b-preserved
loop-b-preserved c =
    let k = c.loop-b.b-index in
    let p : 0 < c.args.count - k = omega (arith, c.loop-b-test.true, c.in_ok-b-items.ensures.lookup.0.3) in
    let l : c.args.count - k - 1 ≡ c.args.count - (k + 1) = omega arith in
    let m : c.args.from + k + 1 ≡ c.args.from + (k + 1) = omega arith in
    rw (c.from.ensures, ← l, ← m)
    (sym (goes_on _ _ _ _ _ c.loop-b-test.true p (sym c.if-not-is_ascii_digit.ensures.value) (omega (arith, c.if-n-gt999999999999999999.false)))
    ∙ c.loop-b.invariant)

pub returns : goal.returns
returns c =
    let k : c.loop-b.b-index ≡ c.args.count = omega (arith, c.loop-b-test.false, c.loop-b.auto.b-index-end, c.in_ok-b-items.ensures.lookup.0.3) in
    let z : c.args.count - c.loop-b.b-index ≡ 0 = omega (arith, k) in
    sym (sym c.loop-b.invariant ∙ all_read _ _ _ _ z ∙ ap (λ k. Some (c.loop-b.n, c.args.from + k)) k)
