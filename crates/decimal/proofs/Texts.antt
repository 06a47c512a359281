-- A text with decimals, written and read: with a sign or without, and at a point.
use Rattle.std.specs.Prelude.{Some, None}
use mathlib.Core.Path.{◌≡◌, refl}
use mathlib.Core.Bool.{true, false}
use mathlib.Core.List.{List, ◌∷◌}
use Prim.Native.Nat.{ℕ, ◌+◌, ◌<◌, ◌≤◌}
use native.Mathlib.Numerals.{add-one}
use native.Mathlib.Omega.{arith}
use lib.IntN.{ℤ, pos, negsuc, nat_abs}
use lib.ListN.{length, drop, get_or, drop_of_length-le, get_or-eq_default}
use lib.Seq.{drop-cons}
use lib.Signed.{lt_z}
use borrow.Author.Tests.{ltb-true, ne_eqb}
use Rattle.integers.specs.Tests.{clash}
use Rattle.text.specs.Numbers.{ascii}
use Rattle.text.specs.Reading.{decimal_at, decimal_in, below, not_below}
use Rattle.decimal.specs.Text.{fixed, fixed_text}
use Rattle.decimal.specs.Reading.{more_digits, after_whole, with_decimals, size_at, fixed_at}

-- ---- written

pub negative-text : (places : ℕ) (z : ℤ) → lt_z z (pos 0) ≡ true → fixed_text places z ≡ 45 ∷ fixed places (nat_abs z)
unfolding fixed_text ascii
negative-text places (pos n) e = absurd (omega (arith, ltb-true n 0 e))
negative-text places (negsuc n) e = refl

pub positive-text : (places : ℕ) (z : ℤ) → lt_z z (pos 0) ≡ false → fixed_text places z ≡ fixed places (nat_abs z)
unfolding fixed_text
positive-text places (pos n) e = refl
positive-text places (negsuc n) e = clash refl e

-- ---- read: a point, or none

module _ (places : ℕ) (s : List ℕ) (at n : ℕ) where
  pub no_byte : length s ≤ at → after_whole places (drop at s) n at ≡ None
  unfolding after_whole
  no_byte h = rw (drop_of_length-le s h)

  pub no-point : at < length s → (get_or s at 0 ≡ 46 → ⊥) → after_whole places (drop at s) n at ≡ None
  unfolding after_whole
  no-point h f = rw (drop-cons s at 0 h, ne_eqb (get_or s at 0) 46 f)

  pub a_point : at < length s → get_or s at 0 ≡ 46 → after_whole places (drop at s) n at ≡ more_digits places (drop (at + 1) s) n (at + 1)
  unfolding after_whole
  a_point h e = rw (drop-cons s at 0 h, e, add-one at)

-- ---- read: a whole part, or none

module _ (places : ℕ) (s : List ℕ) (at : ℕ) where
  pub no_whole : decimal_at s at ≡ None → size_at places s at ≡ None
  unfolding size_at with_decimals
  no_whole e = rw e

  pub a-whole : (n mid : ℕ) → decimal_at s at ≡ Some (n, mid) → size_at places s at ≡ after_whole places (drop mid s) n mid
  unfolding size_at with_decimals
  a-whole n mid e = rw e

-- ---- read: a sign, or none

module _ (places : ℕ) (s : List ℕ) (at : ℕ) where
  pub past_the_end : length s ≤ at → fixed_at places s at ≡ None
  unfolding fixed_at size_at with_decimals decimal_at decimal_in not_below
  past_the_end h = rw (get_or-eq_default s 0 h, drop_of_length-le s h)

  pub with-minus : get_or s at 0 ≡ 45 → fixed_at places s at ≡ below (size_at places s (at + 1))
  unfolding fixed_at
  with-minus e = rw e

  pub without-minus : (get_or s at 0 ≡ 45 → ⊥) → fixed_at places s at ≡ not_below (size_at places s at)
  unfolding fixed_at
  without-minus f = rw (ne_eqb (get_or s at 0) 45 f)
