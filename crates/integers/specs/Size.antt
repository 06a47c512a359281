-- How large sums, differences and products are, and that a machine word holds them.
-- `search sizes`, in the place of `search rules`, closes a `Need-add`, `Need-sub` or `Need-mul` of signed integers whose two operands have a `Sized` in reach.
use Rattle.std.specs.Prelude.{◌≡◌, ℕ, ◌+◌, ◌*◌, ◌^◌, ◌≤◌, ◌<◌, ℤ, pos, negsuc, neg_ℤ, nat_abs, ◌+ℤ◌, ◌-ℤ◌, ◌*ℤ◌, ◌≤ℤ◌, ◌<ℤ◌, T, leb, ltb, true, false}
use Rattle.std.proofs.Common.{sym, mul-le-mul, arith, ltb→lt, leb-true, le-leb, rules}
use Rattle.std.specs.Int.Signed.{lt_z, le_z, non_neg}
use Rattle.std.proofs.lemmas.Bool.{lt-leb}
use Rattle.std.specs.Int.{Width}
use mir.Val.{Fits, SFits, bits, hbits}
use Rattle.integers.specs.Tests.{agree}
use Rattle.integers.specs.Parts.{Sized, integers, +-parts, difference-parts, *-parts, neg-parts, nat_abs-parts, one-part}
use Rattle.integers.specs.Bridge.{parts, differences}

module _ (a b : ℤ) where
  pub nat_abs-+ℤ : nat_abs (a +ℤ b) ≤ nat_abs a + nat_abs b
  nat_abs-+ℤ = rw (parts a, parts b) (simp differences (omega arith))

  pub nat_abs-*ℤ : nat_abs (a *ℤ b) ≡ nat_abs a * nat_abs b
  nat_abs-*ℤ = rw (nat_abs-parts a, nat_abs-parts b) (omega (arith, nat_abs-parts (a *ℤ b), *-parts a b))

pub nat_abs-negℤ : (a : ℤ) → nat_abs (neg_ℤ a) ≡ nat_abs a
nat_abs-negℤ a = omega (arith, nat_abs-parts a, nat_abs-parts (neg_ℤ a), neg-parts a)

-- bounds carried through a product
pub nat_abs-*ℤ-≤ : (a b : ℤ) {m n : ℕ} → nat_abs a ≤ m → nat_abs b ≤ n → nat_abs (a *ℤ b) ≤ m * n
nat_abs-*ℤ-≤ a b h k = rw (nat_abs-*ℤ a b) (mul-le-mul h k)

-- a test of the size, as two tests of signed numbers make it
module _ (h : ℕ) (z : ℤ) where
  pub size_low : lt_z z (neg_ℤ (pos h)) ≡ true → false ≡ leb (nat_abs z) h
  size_low e = sym (lt-leb (nat_abs z) h (omega (integers, nat_abs-parts z, neg-parts (pos h))))

  pub size-high : lt_z z (neg_ℤ (pos h)) ≡ false → le_z z (pos h) ≡ leb (nat_abs z) h
  size-high e =
      agree (le_z z (pos h)) (leb (nat_abs z) h)
      (λ t. le-leb (nat_abs z) h (omega (integers, nat_abs-parts z, one-part z, neg-parts (pos h))))
      (λ t. omega (integers, nat_abs-parts z, leb-true (nat_abs z) h t))

-- ---- a machine word holds z

pub sfits-of-size : {w : Width} {z : ℤ} → nat_abs z < 2 ^ hbits w → SFits w z
sfits-of-size {w} {z} h = omega (integers, nat_abs-parts z)

-- what a cast to an unsigned word asks of a z that is not negative
pub cast_fits : (w : Width) (z : ℤ) → pos 0 ≤ℤ z → z <ℤ pos (2 ^ bits w) → T (non_neg z) × Fits w (nat_abs z)
cast_fits w (pos n) h k = (tt, record { fits = omega integers })
cast_fits w (negsuc n) h k = absurd h.le

-- ---- sizes go through sums, differences and products: `sum-sized (product-sized p q) r` says how large x * y + z can be

module _ {m n : ℕ} {a b : ℤ} (p : Sized m a) (q : Sized n b) where
  pub sum-sized : Sized (m + n) (a +ℤ b)
  sum-sized = omega (integers, +-parts a b)

  pub difference-sized : Sized (m + n) (a -ℤ b)
  difference-sized = omega (integers, difference-parts a b)

  pub product-sized : Sized (m * n) (a *ℤ b)
  product-sized = record { size = nat_abs-*ℤ-≤ a b p.size q.size }

-- the last argument is `tt`: the bound is compared with the width's by computing
pub sized-fits : {w : Width} {m : ℕ} {z : ℤ} → Sized m z → T (ltb m (2 ^ hbits w)) → SFits w z
sized-fits {w} {m} s t = omega (integers, ltb→lt m (2 ^ hbits w) t)

module _ {w : Width} (m n : ℕ) {a b : ℤ} (p : Sized m a) (q : Sized n b) where
  pub sum_fits : T (ltb (m + n) (2 ^ hbits w)) → SFits w (a +ℤ b)
  sum_fits t = sized-fits (sum-sized p q) t

  pub difference-fits : T (ltb (m + n) (2 ^ hbits w)) → SFits w (a -ℤ b)
  difference-fits t = sized-fits (difference-sized p q) t

  pub product-fits : T (ltb (m * n) (2 ^ hbits w)) → SFits w (a *ℤ b)
  product-fits t = sized-fits (product-sized p q) t

pub ruleset sizes = (rules, sum_fits, difference-fits, product-fits, sized-fits)
