-- `text::reading::read_more` meets its contract. The loop's invariant: the digits passed are in the number so far.
use mathlib.Core.Path.{◌≡◌, sym, ◌∙◌}
use Prim.Native.Nat.{◌+◌, ◌-◌, ◌*◌}
use native.Mathlib.Omega.{arith}
use lib.ListN.{get_or, length}
use Rattle.text.proofs.Decimals.{ends, stops, goes_on, too_large}
use Rattle.text.proofs.reading.read_more.Goals as goal

pub returns-then-not-is_ascii_digit : goal.returns-then-not-is_ascii_digit
returns-then-not-is_ascii_digit c =
    sym (sym c.loop-i.invariant ∙ stops _ _ _ c.loop-i-test.true (sym c.if-not-is_ascii_digit.ensures.value))

pub returns-in_err-checked_mul : goal.returns-in_err-checked_mul
returns-in_err-checked_mul c =
    c.from_residual.ensures
    ∙ sym (sym c.loop-i.invariant ∙ too_large _ _ _ c.loop-i-test.true (sym c.if-not-is_ascii_digit.ensures.value) (omega (arith, c.in_err-checked_mul.ensures)))

pub returns-in_err-n : goal.returns-in_err-n
returns-in_err-n c =
    c.from_residual-in_err-n.ensures
    ∙ sym
    (sym c.loop-i.invariant
    ∙ too_large _ _ _ c.loop-i-test.true (sym c.if-not-is_ascii_digit.ensures.value) (omega (arith, c.in_err-n.ensures, c.in_ok-checked_mul.ensures, c.from.ensures)))

pub loop-i-preserved : goal.loop-i-preserved
loop-i-preserved c =
    let e : c.in_ok-n.n ≡ c.loop-i.n * 10 + (get_or c.args.s.now c.loop-i.i 0 - 48) = omega (arith, c.in_ok-n.ensures, c.in_ok-checked_mul.ensures, c.from.ensures) in
    rw e
    (sym (goes_on _ _ _ c.loop-i-test.true (sym c.if-not-is_ascii_digit.ensures.value) (omega (arith, e, c.in_ok-n.ensures, c.in_ok-checked_mul.ensures)))
    ∙ c.loop-i.invariant)

pub returns : goal.returns
returns c =
    let all : c.loop-i.i ≡ length c.args.s.now = omega (arith, c.loop-i-test.false, c.loop-i.auto.i-end c.requires) in
    rw (← all) (sym (sym c.loop-i.invariant ∙ ends _ _ _ c.loop-i-test.false))
