-- The whole number nearest to a fraction, and of two that are as near the even one: what that means, whatever way it is worked out,
-- That exactly one number is shows `proofs/Nearest`.
use Rattle.std.specs.Prelude.{◌≡◌, ℕ, suc, ◌*◌, ◌%◌, ◌≤◌, ℤ, pos, negsuc, neg_ℤ, nat_abs, ◌-ℤ◌, ◌*ℤ◌}
use Rattle.std.specs.Float.Ieee.Nearest.{closest}

-- n is nearest to the fraction a / d, for a d above 0: at most a half away, and even where it is just a half away.
-- 2 * |a / d - n| ≤ 1 is said with both sides times d.
pub record Nearest (a : ℤ) (d : ℕ) (n : ℤ) : Type 0 where
  pub near : 2 * nat_abs (a -ℤ n *ℤ pos d) ≤ d
  pub tie : 2 * nat_abs (a -ℤ n *ℤ pos d) ≡ d → nat_abs n % 2 ≡ 0

-- the one that is: `closest` is that of a fraction of natural numbers
unfoldable pub nearest_of : ℤ → ℕ → ℤ
nearest_of (pos a) d = pos (closest a d)
nearest_of (negsuc a) d = neg_ℤ (pos (closest (suc a) d))
