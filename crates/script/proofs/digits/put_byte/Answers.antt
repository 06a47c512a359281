-- `script::digits::put_byte` meets its contract: two digits, one after the other.
use mathlib.Core.Path.{◌≡◌, ◌∙◌, ap}
use mathlib.Core.List.{[], ◌∷◌}
use Prim.Native.Nat.{ℕ, ◌/◌, ◌%◌, ◌<◌}
use native.Mathlib.Omega.{arith}
use Rattle.text.specs.Numbers.{hex_digit, hex_digits}
use Rattle.text.proofs.Digits.{length-hex_digits}
use Rattle.text.proofs.Written.{then, retold}
use Rattle.script.specs.Bytes.{byte_digits}
use Rattle.script.proofs.digits.put_byte.Goals as goal

two_digits : (b : ℕ) → b < 256 → hex_digit (b / 16) ∷ hex_digit (b % 16) ∷ [] ≡ byte_digits b
unfolding hex_digits
two_digits b h =
    let e : b / 16 ≡ b / 16 % 16 = omega arith in
    ap (λ d. hex_digit d ∷ hex_digit (b % 16) ∷ []) e

pub put-requires : goal.put-requires
put-requires c = omega (arith, c.requires, length-hex_digits 2 c.args.b)

pub put-requires-2 : goal.put-requires-2
put-requires-2 c =
    let w = c.put.ensures.wrote in
    omega (arith, c.requires, length-hex_digits 2 c.args.b, w.ends, w.long)

pub returns : goal.returns
returns c =
    let high = c.digit.ensures in
    let low = c.digit-2.ensures in
    retold ((λ i. high i ∷ low i ∷ []) ∙ two_digits c.args.b (omega (arith, c.ranges.b))) (then c.put.ensures c.put-2.ensures)
