-- Both casts of a report lose nothing: each, cast back, is the number that it was made of.
use Rattle.std.specs.Prelude.{◌≡◌, ◌≤◌, ◌<◌, ◌^◌, T, ℤ, pos, negsuc, nat_abs}
use Rattle.std.proofs.Common.{arith, le→leb, lt→ltb, lit<}
use Rattle.std.specs.Float.{binary64}
use Rattle.std.specs.Float.Ieee.{of_int, in_float, to_signed, to_unsigned}
use Rattle.std.specs.Float.Ieee.Back.{unsigned_back, positive_back, negative_back}
use Rattle.integers.specs.Parts.{integers, nat_abs-parts, one-part}
use Rattle.exact.specs.declared.Exact.{Exact}
use Rattle.exact.specs.Numerator.{D, Bounded}

-- what the code's cast asks
pub cast-loses-nothing : (z : ℤ) → nat_abs z ≤ 2 ^ 53 → T (in_float binary64 z)
unfolding in_float
cast-loses-nothing (pos n) h = le→leb n (2 ^ 53) h
cast-loses-nothing (negsuc n) h = lt→ltb n (2 ^ 53) h

pub whole_back : (z : ℤ) → nat_abs z ≤ 2 ^ 53 → to_signed 63 (of_int binary64 z) ≡ z
whole_back (pos n) h = (positive_back binary64 63 n (cast-loses-nothing (pos n) h) (omega arith)).1
whole_back (negsuc n) h = (negative_back binary64 63 n (cast-loses-nothing (negsuc n) h) (omega arith)).1

pub part-back : (e : Exact) → e.part < D → to_unsigned 32 (of_int binary64 (pos e.part)) ≡ e.part
part-back e h = (unsigned_back binary64 32 e.part (cast-loses-nothing (pos e.part) (omega arith)) (omega arith)).1

pub D-back : to_unsigned 32 (of_int binary64 (pos D)) ≡ D
D-back = (unsigned_back binary64 32 D (cast-loses-nothing (pos D) (omega arith)) (lit< tt)).1

-- every position has a report
pub position-reports : (e : Exact) → Bounded (2 ^ 52) e → nat_abs e.whole ≤ 2 ^ 53
position-reports e b = omega (integers, nat_abs-parts e.whole, one-part e.whole)
