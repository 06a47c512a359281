-- Division by a positive natural number, rounded down, and the machine's `/` and `%`, which round toward zero.
use Rattle.std.specs.Prelude.{◌≡◌, refl, ℕ, suc, ◌-◌, ◌/◌, ◌%◌, ℤ, pos, negsuc, ◌+ℤ◌, ◌*ℤ◌}
use Rattle.std.proofs.Common.{sym, ap, ◌∙◌, div-add-mod', arith}
use Rattle.std.proofs.Math.Nat.{zero-div, zero-mod}
use Rattle.std.specs.Int.Signed.{quot_z, rem_z}
use Rattle.integers.specs.Parts.{pos_part, neg_part, neg-parts}
use Rattle.integers.specs.Bridge.{differences}

-- the quotient rounded down
abbrev pub floor_div : ℤ → ℕ → ℤ
floor_div (pos n) d = pos (n / d)
floor_div (negsuc n) d = negsuc (n / d)

-- what is left, at least 0
abbrev pub floor_mod : ℤ → ℕ → ℕ
floor_mod (pos n) d = n % d
floor_mod (negsuc n) d = d - suc (n % d)

-- ---- the machine's `/` and `%`

pub trunc-law : (z : ℤ) (d : ℕ) → z ≡ quot_z z (pos d) *ℤ pos d +ℤ rem_z z (pos d)
trunc-law (pos n) d = ap pos (sym (div-add-mod' n d))
trunc-law (negsuc n) d = simp differences (omega (arith, div-add-mod' (suc n) d))

pub quotient-parts : (z : ℤ) (d : ℕ) → (pos_part (quot_z z (pos d)) ≡ pos_part z / d) × (neg_part (quot_z z (pos d)) ≡ neg_part z / d)
quotient-parts (pos n) d = (refl, sym (zero-div d))
quotient-parts (negsuc n) d = ((neg-parts (pos (suc n / d))).0 ∙ sym (zero-div d), (neg-parts (pos (suc n / d))).1)

pub remainder-parts : (z : ℤ) (d : ℕ) → (pos_part (rem_z z (pos d)) ≡ pos_part z % d) × (neg_part (rem_z z (pos d)) ≡ neg_part z % d)
remainder-parts (pos n) d = (refl, sym (zero-mod d))
remainder-parts (negsuc n) d = ((neg-parts (pos (suc n % d))).0 ∙ sym (zero-mod d), (neg-parts (pos (suc n % d))).1)
