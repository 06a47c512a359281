-- `text::reading::read_decimal` meets its contract.
use mathlib.Core.Path.{sym, ◌∙◌, ap}
use Prim.Native.Nat.{◌-◌, ◌+◌}
use lib.ListN.{drop}
use Rattle.text.specs.Reading.{is_digit, going_on}
use Rattle.text.proofs.Decimals.{nothing_left, no_digit, zero-alone, begins}
use Rattle.text.proofs.reading.read_decimal.Goals as goal

pub returns-in_err-b : goal.returns-in_err-b
returns-in_err-b c = c.from_residual.ensures ∙ sym (nothing_left _ _ c.in_err-b.ensures.lookup.3)

pub returns-then-b-eq48 : goal.returns-then-b-eq48
returns-then-b-eq48 c =
    let (h, is) = c.in_ok-b.ensures.lookup.3 in
    sym (zero-alone _ _ h (sym (is 0) ∙ c.if-b-eq48.true))

pub returns-then-not-is_ascii_digit : goal.returns-then-not-is_ascii_digit
returns-then-not-is_ascii_digit c =
    let (h, is) = c.in_ok-b.ensures.lookup.3 in
    sym (no_digit _ _ h (ap is_digit (sym (is 0)) ∙ sym c.if-not-is_ascii_digit.ensures.value))

pub returns : goal.returns
returns c =
    let (h, is) = c.in_ok-b.ensures.lookup.3 in
    let n = c.from.ensures ∙ ap (λ b. b - 48) (is 0) in
    c.read_more.ensures
    ∙ ap (λ n. going_on (drop (c.args.at + 1) c.args.s.now) n (c.args.at + 1)) n
    ∙ sym (begins _ _ h (ap is_digit (sym (is 0)) ∙ sym c.if-not-is_ascii_digit.ensures.value) (λ e. c.if-b-eq48.false (is 0 ∙ e)))
