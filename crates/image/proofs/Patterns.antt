-- Which patterns are of a number, and what the others are.
use mathlib.Core.Path.{◌≡◌, refl, sym, ◌∙◌, subst}
use mathlib.Core.Bool.{true, not}
use Prim.Native.Nat.{ℕ, ◌≤◌, ◌<◌}
use lib.Dec.{T}
use lib.Bits.{bit_and, and_mask}
use lib.Ieee.{Float, nan, inf, fin, binary64, nan_bits, is_nan, of_bits}
use lib.Ieee.Bits.{nan_bits_is, nan_bits_above}
use borrow.Author.Tests.{lt-ltb, le-ltb}

-- a pattern that without its sign is the infinity's or below it
pub no-nan-pattern : (n : ℕ) → bit_and n 9223372036854775807 ≤ 9218868437227405312 → T (not (nan_bits binary64 n))
no-nan-pattern n h = subst (λ b. T (not b)) (sym (nan_bits_above binary64 n ∙ le-ltb _ _ (rw (and_mask n 63) at h))) tt

pub is-nan : (x : Float) → is_nan x ≡ true → nan ≡ x
unfolding is_nan
is-nan nan e = refl
is-nan (inf s) e = absurd (subst T (sym e) tt)
is-nan (fin s m k) e = absurd (subst T (sym e) tt)

-- a pattern above the infinity's
pub nan_pattern : (n : ℕ) → 9218868437227405312 < bit_and n 9223372036854775807 → nan ≡ of_bits binary64 n
nan_pattern n h = is-nan (of_bits binary64 n) (sym (nan_bits_is binary64 n) ∙ nan_bits_above binary64 n ∙ lt-ltb _ _ (rw (and_mask n 63) at h))
