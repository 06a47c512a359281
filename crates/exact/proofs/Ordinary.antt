-- Every report is an ordinary float: no NaN, no infinity, no minus zero. That of a value above zero is above zero.
use Rattle.std.specs.Prelude.{◌≡◌, suc, ◌+◌, ◌^◌, ◌≤◌, ◌<◌, Bool, true, false, T, ℤ, pos, negsuc, nat_abs, ◌<ℤ◌, Float}
use Rattle.std.proofs.Common.{sym, subst, le_trans, eq-zero-or-pos, mul-le-mul_right, inl, inr, arith, lit<, lit≤}
use Rattle.std.specs.Float.{binary64}
use Rattle.std.specs.Float.Ieee.{low, round, add, div, of_int}
use Rattle.std.specs.Float.Ieee.Exact.{HasValue}
use Rattle.std.specs.Float.Ieee.Back.{round_whole}
use Rattle.std.specs.Float.Ieee.Positive.{num, den, positive, den_pos, own_value, value_pos}
use Rattle.integers.specs.Parts.{neg_part, integers, one-part, nat_abs-parts}
use Rattle.exact.specs.declared.Exact.{Exact}
use Rattle.exact.specs.Numerator.{D, numerator}
use Rattle.exact.proofs.Laws.{numerator-parts}
use Rattle.exact.specs.Report.{report_of}
use Rattle.exact.specs.Rounding.{ordinary}
use Rattle.exact.proofs.Rounding.{plus-positive}
use Rattle.exact.proofs.FloatSums.{Fraction}
use Rattle.exact.proofs.FloatSums.{fraction, quotient, sum-ordinary, sum-positive}

abbrev below-zero : ℤ → Bool
below-zero (pos n) = false
below-zero (negsuc n) = true

-- a whole number as a float is that number
whole-value : (z : ℤ) → nat_abs z ≤ 2 ^ 53 → HasValue (of_int binary64 z) (below-zero z) (nat_abs z) 1
unfolding of_int
whole-value (pos n) h = round_whole binary64 false n h
whole-value (negsuc n) h = round_whole binary64 true (suc n) h

-- part / D, rounded
abbrev remainder : Exact → Float
remainder e = div binary64 (of_int binary64 (pos e.part)) (of_int binary64 (pos D))

module _ (e : Exact) (p : e.part < D) where
  rounded : remainder e ≡ round binary64 false e.part D
  rounded = quotient (of_int binary64 (pos e.part)) (of_int binary64 (pos D)) e.part D (whole-value (pos e.part) (omega arith)) (whole-value (pos D) (lit≤ tt)) (lit< tt)

  remainder-fraction : Fraction (remainder e)
  remainder-fraction = subst Fraction (sym rounded) (fraction e.part D (lit< tt) (omega arith))

  remainder-positive : 0 < e.part → 0 < num (remainder e)
  remainder-positive a =
      let q = remainder e in
      let t : T (positive q) = subst (λ (x : Float). T (positive x)) (sym rounded) (plus-positive e.part D (lit< tt) (omega arith) (le_trans (lit≤ tt) (mul-le-mul_right (2 ^ low binary64) a))) in
      value_pos q (num q) (den q) t (den_pos q) (own_value q t)

  pub report-ordinary : nat_abs e.whole ≤ 2 ^ 53 → T (ordinary (report_of e))
  report-ordinary h = sum-ordinary (remainder e) (of_int binary64 e.whole) (below-zero e.whole) (nat_abs e.whole) remainder-fraction (whole-value e.whole h) h

  -- a value above zero is reported above zero
  pub report-positive : nat_abs e.whole ≤ 2 ^ 53 → pos 0 <ℤ numerator e → T (positive (report_of e))
  report-positive h a = go e.whole h (omega (integers, numerator-parts e, one-part e.whole)) (omega (integers, numerator-parts e, nat_abs-parts e.whole))
    where
      go : (z : ℤ) → nat_abs z ≤ 2 ^ 53 → neg_part z ≡ 0 → 0 < e.part + nat_abs z → T (positive (add binary64 (remainder e) (of_int binary64 z)))
      go (negsuc n) h none a = absurd (omega arith)
      go (pos n) h none a = sum-positive (remainder e) (of_int binary64 (pos n)) n remainder-fraction (whole-value (pos n) h) h
          (elim (eq-zero-or-pos e.part) [ inl z ↦ omega arith | inr b ↦ omega (arith, remainder-positive b) ])
