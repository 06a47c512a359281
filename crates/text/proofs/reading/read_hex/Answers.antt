-- `text::reading::read_hex` meets its contract. The loop's invariant: the digits passed are in the number so far.
use mathlib.Core.Path.{◌≡◌, sym, ◌∙◌, ap}
use mathlib.Core.Logic.{◌⊎◌, inl, inr}
use mathlib.Core.List.{List}
use Prim.Native.Nat.{ℕ, ◌-◌, ◌<◌}
use native.Mathlib.Nat.{add-zero}
use native.Mathlib.Omega.{arith}
use lib.ListN.{length, take, drop, length-drop}
use lib.Seq.{take_all}
use Rattle.text.specs.Reading.{hex_at}
use Rattle.text.proofs.Hexadecimals.{sixteen, short, no_digit, a-digit, all_read, wider, within}
use Rattle.text.proofs.reading.read_hex.Goals as goal

-- what is lent from a place on
rest : (s : List ℕ) (at : ℕ) → take (length s - at) (drop at s) ≡ drop at s
rest s at = take_all (length s - at) (drop at s) (omega (arith, length-drop at s))

pub returns-in_err-get : goal.returns-in_err-get
returns-in_err-get c = by c.in_err-get.ensures.lookup.0
  where
    by : (length c.args.s.now < c.args.at) ⊎ (length c.args.s.now < length c.args.s.now) → c.from_residual.result ≡ hex_at c.args.s.now c.args.at
    by (inl h) = c.from_residual.ensures ∙ sym (short _ _ (omega arith))
    by (inr h) = absurd (omega arith)

pub returns-in_err-b-items : goal.returns-in_err-b-items
returns-in_err-b-items c = by c.in_err-b-items.ensures.lookup.0
  where
    by : (16 < 0) ⊎ (length c.in_ok-get.field-0.now < 16) → c.from_residual-in_err-b-items.result ≡ hex_at c.args.s.now c.args.at
    by (inl h) = absurd (omega arith)
    by (inr h) = c.from_residual-in_err-b-items.ensures ∙ sym (short _ _ (omega (arith, c.in_ok-get.ensures.lookup.0.3)))

pub loop-b-init : goal.loop-b-init
loop-b-init c =
    let e = c.in_ok-b-items.ensures.lookup.0.2 ∙ ap (take 16) (c.in_ok-get.ensures.lookup.0.2 ∙ rest c.args.s.now c.args.at) in
    (omega arith, rw (e, add-zero c.args.at) (sixteen c.args.s.now c.args.at))

pub returns-in_err-n : goal.returns-in_err-n
returns-in_err-n c =
    c.from_residual-in_err-n.ensures
    ∙ sym (sym c.loop-b.invariant.1 ∙ no_digit _ _ _ _ (omega (arith, c.loop-b-test.true, c.in_ok-b-items.ensures.lookup.0.3)) c.loop-b-test.true c.in_err-n.ensures)

pub loop-b-preserved : goal.loop-b-preserved
loop-b-preserved c =
    let (d, e) = c.in_ok-n.ensures in
    let k : c.loop-b.b-index < 16 = omega (arith, c.loop-b-test.true, c.in_ok-b-items.ensures.lookup.0.3) in
    rw e (wider _ _ _ c.loop-b.invariant.0 d, sym (a-digit _ _ _ _ k c.loop-b-test.true d) ∙ c.loop-b.invariant.1)

pub returns : goal.returns
returns c =
    let k : c.loop-b.b-index ≡ 16 = omega (arith, c.loop-b-test.false, c.loop-b.auto.b-index-end, c.in_ok-b-items.ensures.lookup.0.3) in
    rw (← k) (sym (sym c.loop-b.invariant.1 ∙ all_read _ _ _ _ k))

pub overflow_mul-n : goal.overflow_mul-n
overflow_mul-n c =
    let k : c.loop-b.b-index < 16 = omega (arith, c.loop-b-test.true, c.in_ok-b-items.ensures.lookup.0.3) in
    omega (arith, within _ _ k (wider _ _ 0 c.loop-b.invariant.0 (omega arith)))

pub overflow_add-n : goal.overflow_add-n
overflow_add-n c =
    let (d, e) = c.in_ok-n.ensures in
    let k : c.loop-b.b-index < 16 = omega (arith, c.loop-b-test.true, c.in_ok-b-items.ensures.lookup.0.3) in
    omega (arith, e, within _ _ k (wider _ _ _ c.loop-b.invariant.0 d))
