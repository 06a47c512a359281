-- `decimal::writing::put_size` meets its contract: the whole part, the point and the decimals, one after the other.
use mathlib.Core.Path.{◌≡◌}
use Prim.Native.Nat.{ℕ, ◌+◌, ◌/◌, ◌^◌}
use native.Mathlib.Nat.{one-le-pow}
use native.Mathlib.Omega.{arith}
use lib.ListN.{length}
use Rattle.text.specs.Numbers.{decimal, ascii}
use Rattle.text.proofs.Written.{then}
use Rattle.decimal.specs.Text.{fixed}
use Rattle.decimal.proofs.Digits.{length-fixed, length-last_digits}
use Rattle.decimal.proofs.writing.put_size.Goals as goal

pub nonzero_div-whole : goal.nonzero_div-whole
nonzero_div-whole c = rw c.pow.ensures (one-le-pow c.args.places 10 (omega arith))

-- how long the number is, by the whole part as it was worked out
long : (places n p : ℕ) → p ≡ 10 ^ places → length (fixed places n) ≡ length (decimal (n / p)) + 1 + places
long places n p e = rw e (length-fixed places n)

pub put_decimal-requires : goal.put_decimal-requires
put_decimal-requires c =
    omega (arith, c.requires.n_in_bounds, long c.args.places c.args.n c.pow.result c.pow.ensures)

pub put-requires : goal.put-requires
put-requires c =
    let p = c.pow in
    let w = c.put_decimal.ensures.wrote in
    omega (arith, c.requires.n_in_bounds, w.ends, w.long, long c.args.places c.args.n p.result p.ensures)

pub put_last_digits-requires : goal.put_last_digits-requires
put_last_digits-requires c =
    let p = c.pow in
    let w = c.put_decimal.ensures.wrote in
    let v = c.put.ensures.wrote in
    omega (arith, c.requires.n_in_bounds, w.ends, w.long, v.ends, v.long, length-last_digits c.args.places c.args.n, long c.args.places c.args.n p.result p.ensures)

pub returns : goal.returns
unfolding fixed ascii
returns c =
    let p = c.pow in
    rw (← p.ensures) (then (then c.put_decimal.ensures c.put.ensures) c.put_last_digits.ensures)
