-- `message::measures::number_length` meets its contract: digits, a point, decimals, and a sign where the number is below 0.
use mathlib.Core.Path.{◌≡◌, sym, ◌∙◌, ap}
use Prim.Native.Nat.{ℕ, ◌+◌, ◌/◌, ◌^◌}
use native.Mathlib.Nat.{one-le-pow}
use native.Mathlib.Omega.{arith}
use lib.IntN.{ℤ, nat_abs}
use lib.ListN.{length}
use mir.Syntax.{w64}
use mir.Val.{SFits, to_z, of_z}
use mir.Facts.{to_z-of_z}
use Rattle.integers.specs.Tests.{failed, passed}
use Rattle.text.specs.Numbers.{decimal}
use Rattle.message.proofs.Lengths.{long-positive, long-negative, number-long, number-none}
use Rattle.std.proofs.lemmas.Bool.{not_from_false, not_from_true}
use Rattle.message.proofs.measures.number_length.Goals as goal

-- the digits before the point, as they were counted
counted : (places : ℕ) {n : ℤ} {d m unit : ℕ} → SFits w64 n → m ≡ nat_abs (to_z w64 (of_z w64 n)) → unit ≡ 10 ^ places → d ≡ length (decimal (m / unit))
    → d ≡ length (decimal (nat_abs n / 10 ^ places))
counted places f e u d = d ∙ rw (e, u, to_z-of_z {w = w64} f)

pub returns-then-not-has_few_digits : goal.returns-then-not-has_few_digits
returns-then-not-has_few_digits c =
    let a = c.args in
    let f = c.ranges.n in
    (number-none a.places a.n c.requires.0 f (rw (to_z-of_z {w = w64} f) at (failed c.has_few_digits.ensures.0 (not_from_false _ c.if-not-has_few_digits.true))), omega arith)

pub nonzero_div-size : goal.nonzero_div-size
nonzero_div-size c = rw c.requires.1 (one-le-pow c.args.places 10 (omega arith))

pub returns-then-n-lt0 : goal.returns-then-n-lt0
returns-then-n-lt0 c =
    let a = c.args in
    let f = c.ranges.n in
    let d = counted a.places f c.size.ensures c.requires.1 c.digits.ensures.0 in
    number-long a.places a.n c.requires.0 f (rw (to_z-of_z {w = w64} f) at (passed c.has_few_digits.ensures.0 (not_from_true _ c.if-not-has_few_digits.false)))
    (ap (λ k. k + 1 + a.places + 1) d ∙ sym (long-negative a.places a.n (rw (to_z-of_z {w = w64} f) at c.if-n-lt0.true)))

pub returns-else-n-lt0 : goal.returns-else-n-lt0
returns-else-n-lt0 c =
    let a = c.args in
    let f = c.ranges.n in
    let d = counted a.places f c.size.ensures c.requires.1 c.digits.ensures.0 in
    number-long a.places a.n c.requires.0 f (rw (to_z-of_z {w = w64} f) at (passed c.has_few_digits.ensures.0 (not_from_true _ c.if-not-has_few_digits.false)))
    (ap (λ k. k + 1 + a.places) d ∙ sym (long-positive a.places a.n (rw (to_z-of_z {w = w64} f) at c.if-n-lt0.false)))

pub overflow_add-length-2 : goal.overflow_add-length-2
overflow_add-length-2 c = omega arith

pub overflow_add-result : goal.overflow_add-result
overflow_add-result c = omega arith
