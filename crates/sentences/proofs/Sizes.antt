-- The size of a value by its whole part and its part, and the nearest number of units of the tenth decimal.
use mathlib.Core.Path.{◌≡◌, sym, ap}
use mathlib.Core.Bool.{true, false}
use Prim.Native.Nat.{ℕ, ◌+◌, ◌-◌, ◌*◌, ◌/◌, ◌%◌, ◌^◌, ◌<◌, ◌≤◌}
use native.Mathlib.Omega.{arith}
use lib.IntN.{pos, nat_abs, ◌-ℤ◌, ◌*ℤ◌}
use lib.Signed.{lt_z}
use Rattle.integers.specs.Parts.{nat_abs-parts, one-part, difference-parts, multiple-parts, lt_z-true-parts, lt_z-false-parts}
use Rattle.integers.proofs.Nearest.{nearest-means}
use Rattle.exact.specs.declared.Exact.{Exact}
use Rattle.exact.specs.Numerator.{D, numerator}
use Rattle.exact.proofs.Laws.{numerator-parts}
use Rattle.sentences.specs.declared.decimals.Size.{Size}
use Rattle.sentences.specs.Decimals.{size_of, ten_decimals}

-- ---- a size of q wholes and r parts

abbrev pub sized : ℕ → ℕ → Size
sized q r = record { whole = q; rest = r }

of_parts : (e : Exact) (q r : ℕ) → r < D → nat_abs (numerator e) ≡ q * D + r → sized q r ≡ size_of e
unfolding size_of
of_parts e q r l h =
    let a : q ≡ nat_abs (numerator e) / D = omega (arith, h, l) in
    let b : r ≡ nat_abs (numerator e) % D = omega (arith, h, l) in
    λ i. record { whole = a i; rest = b i }

module _ (e : Exact) (l : e.part < D) where
  pub no_part : e.part ≡ 0 → sized (nat_abs e.whole) 0 ≡ size_of e
  no_part z =
      of_parts e (nat_abs e.whole) 0 (omega arith)
      (omega (arith, z, numerator-parts e, nat_abs-parts (numerator e), one-part (numerator e), nat_abs-parts e.whole, one-part e.whole))

  pub from-below : (e.part ≡ 0 → ⊥) → lt_z e.whole (pos 0) ≡ true → sized (nat_abs e.whole - 1) (D - e.part) ≡ size_of e
  from-below n t =
      let s = lt_z-true-parts e.whole (pos 0) t in
      of_parts e (nat_abs e.whole - 1) (D - e.part) (omega (arith, n, l))
      (omega (arith, n, l, s, numerator-parts e, nat_abs-parts (numerator e), one-part (numerator e), nat_abs-parts e.whole, one-part e.whole))

  pub from-above : lt_z e.whole (pos 0) ≡ false → sized (nat_abs e.whole) e.part ≡ size_of e
  from-above t =
      let s = lt_z-false-parts e.whole (pos 0) t in
      of_parts e (nat_abs e.whole) e.part l
      (omega (arith, s, numerator-parts e, nat_abs-parts (numerator e), one-part (numerator e), nat_abs-parts e.whole, one-part e.whole))

-- a value below 0 is a whole below it at least
pub below-zero : (e : Exact) → lt_z e.whole (pos 0) ≡ true → 1 ≤ nat_abs e.whole
below-zero e t = omega (arith, lt_z-true-parts e.whole (pos 0) t, nat_abs-parts e.whole)

pub rest_below : (e : Exact) → (size_of e).rest < D
unfolding size_of
rest_below e = omega arith

-- ---- units of the tenth decimal: 2 * 10^10 * r is an odd multiple of D for no r, since D is no multiple of 2^11

pub ten-nearest : (r : ℕ) → (r * 10 ^ 10 + D / 2) / D ≡ ten_decimals r
unfolding ten_decimals
ten-nearest r =
    let m = r * 10 ^ 10 in
    let t = (r * 10 ^ 10 + D / 2) / D in
    let x = pos t *ℤ pos D in
    let y = pos m -ℤ x in
    let gap : nat_abs y ≡ m - t * D + (t * D - m) = omega (arith, nat_abs-parts y, one-part y, difference-parts (pos m) x, multiple-parts (pos t) D) in
    let near : 2 * nat_abs y ≤ D = omega (arith, gap) in
    let no_tie : 2 * nat_abs y ≡ D → ⊥ = λ u. omega (arith, gap, u) in
    sym (ap nat_abs ((nearest-means (pos m) D (omega arith) (pos t)).1 (record { near = near; tie = λ u. absurd (no_tie u) })))

-- a rest is shown neither as nothing nor as a whole tick
pub rest-shown : (r : ℕ) → 0 < r → r < D → (0 < ten_decimals r) × (ten_decimals r < 10 ^ 10)
rest-shown r l h =
    let e = ten-nearest r in
    (omega (arith, e, l), omega (arith, e, h))
