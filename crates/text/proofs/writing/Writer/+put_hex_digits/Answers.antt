-- `text::writing::Writer::put_hex_digits` meets its contract.
use Rattle.std.proofs.Common.{arith, ap, ◌≡◌, [], ◌∷◌, ◌++◌, ℕ, suc, ◌-◌, ◌/◌, ◌%◌, ◌<◌, length}
use Rattle.text.specs.Numbers.{hex_digit, hex_digits}
use Rattle.text.proofs.Digits.{length-hex_digits}
use Rattle.text.proofs.Written.{nothing, then}
use Rattle.text.proofs.writing.Writer.+put_hex_digits.Goals as goal

-- the two cases of the digits
none : (k n : ℕ) → k ≡ 0 → hex_digits k n ≡ []
unfolding hex_digits
none k n e = rw e

one_more : (k n : ℕ) → 0 < k → hex_digits k n ≡ hex_digits (k - 1) (n / 16) ++ (hex_digit (n % 16) ∷ [])
unfolding hex_digits
one_more k n f =
    let e : k ≡ suc (k - 1) = omega arith in
    ap (λ m. hex_digits m n) e

pub put_hex_digits-requires : goal.put_hex_digits-requires
put_hex_digits-requires t c = (
  omega arith,
  omega (arith, c.requires, length-hex_digits (c.args.k - 1) (c.args.n / 16), length-hex_digits c.args.k c.args.n),
)

pub put-requires : goal.put-requires
put-requires t c =
    let w = c.put_hex_digits.ensures.wrote in
    omega (arith, c.requires, w.ends, w.long, length-hex_digits (c.args.k - 1) (c.args.n / 16), length-hex_digits c.args.k c.args.n)

pub returns-then-k-gt0 : goal.returns-then-k-gt0
returns-then-k-gt0 t c =
    rw (one_more c.args.k c.args.n c.if-k-gt0.true, ← c.hex_digit.ensures) (then c.put_hex_digits.ensures c.put.ensures)

pub returns-else-k-gt0 : goal.returns-else-k-gt0
returns-else-k-gt0 t c = rw (none c.args.k c.args.n (omega arith)) (nothing c.args.self.now)
