-- `decimal::writing::put_last_digits` meets its contract.
use Rattle.std.proofs.Common.{arith, ap, ◌≡◌, [], ◌∷◌, ◌++◌, ℕ, suc, ◌-◌, ◌/◌, ◌%◌, ◌<◌}
use Rattle.text.specs.Numbers.{digit, last_digits}
use Rattle.text.proofs.Written.{nothing, then}
use Rattle.decimal.proofs.Digits.{length-last_digits}
use Rattle.decimal.proofs.writing.+put_last_digits.Goals as goal

-- the two cases of the digits
none : (k n : ℕ) → k ≡ 0 → last_digits k n ≡ []
unfolding last_digits
none k n e = rw e

one_more : (k n : ℕ) → 0 < k → last_digits k n ≡ last_digits (k - 1) (n / 10) ++ (digit (n % 10) ∷ [])
unfolding last_digits
one_more k n f =
    let e : k ≡ suc (k - 1) = omega arith in
    ap (λ m. last_digits m n) e

pub put_last_digits-requires : goal.put_last_digits-requires
put_last_digits-requires t c = (
  omega arith,
  omega (arith, c.requires, length-last_digits (c.args.k - 1) (c.args.n / 10), length-last_digits c.args.k c.args.n),
)

pub put-requires : goal.put-requires
put-requires t c =
    let w = c.put_last_digits.ensures.wrote in
    omega (arith, c.requires, w.ends, w.long, length-last_digits (c.args.k - 1) (c.args.n / 10), length-last_digits c.args.k c.args.n)

pub returns-then-k-gt0 : goal.returns-then-k-gt0
returns-then-k-gt0 t c =
    rw (one_more c.args.k c.args.n c.if-k-gt0.true) (then c.put_last_digits.ensures c.put.ensures)

pub returns-else-k-gt0 : goal.returns-else-k-gt0
returns-else-k-gt0 t c = rw (none c.args.k c.args.n (omega arith)) (nothing c.args.w.now)
