-- Every multiple of 1 / D is one exact value: `exact_of` and `numerator` undo each other. How a result is shown to be an exact value, and how two are compared.
use Rattle.std.specs.Prelude.{◌≡◌, refl, Bool, true, false, cond, ℕ, max, ◌+◌, ◌*◌, ◌<◌, leb, ℤ, pos, ◌*ℤ◌}
use Rattle.std.proofs.Common.{sym, ap, ap₂, ◌∙◌, arith, lit<, eq-eqb, eqb-true, leb-true, leb-false}
use Rattle.std.proofs.Math.IntN.{+ℤ_idr}
use Rattle.std.specs.Int.Signed.{le_z, lt_z}
use Rattle.integers.specs.Tests.{◌and◌, agree, joined}
use Rattle.integers.proofs.Tests.{eqℤ-true, eqℤ-refl}
use Rattle.integers.specs.Parts.{pos_part, neg_part, integers, +-parts, multiple-parts, parts-≡}
use Rattle.integers.proofs.Division.{floor-law, floor_mod-<, floor-unique}
use Rattle.exact.specs.declared.Exact.{Exact}
use Rattle.exact.specs.Numerator.{D, exact_of, numerator, wholly, same_exact, larger_of, lies}

pub part-below : (z : ℤ) → (exact_of z).part < D
unfolding exact_of
part-below z = floor_mod-< z D (lit< tt)

pub numerator-exact_of : (z : ℤ) → numerator (exact_of z) ≡ z
unfolding exact_of numerator
numerator-exact_of z = sym (floor-law z D (lit< tt))

pub exact_of-numerator : (e : Exact) → e.part < D → exact_of (numerator e) ≡ e
unfolding exact_of numerator
exact_of-numerator e h =
    let u = floor-unique (numerator e) e.whole (pos e.part) D refl (omega integers) (omega integers) in
    λ i. record { whole = u.0 i; part = pos_part (u.1 i) }

pub numerator-wholly : (n : ℤ) → numerator (wholly n) ≡ n *ℤ pos D
unfolding numerator
numerator-wholly n = +ℤ_idr (n *ℤ pos D)

-- what a numerator is, for `omega`
pub numerator-parts : (e : Exact) → pos_part (numerator e) + neg_part e.whole * D ≡ (pos_part e.whole * D + e.part) + neg_part (numerator e)
unfolding numerator
numerator-parts e = omega (arith, +-parts (e.whole *ℤ pos D) (pos e.part), multiple-parts e.whole D)

-- what a function has to show of the value that it makes
pub is-exact_of : (e : Exact) (z : ℤ) → e.part < D → pos_part e.whole * D + e.part + neg_part z ≡ pos_part z + neg_part e.whole * D → e ≡ exact_of z
is-exact_of e z h k = sym (exact_of-numerator e h) ∙ ap exact_of (parts-≡ (omega (arith, numerator-parts e)))

-- the numerator of a value that was made
pub made : {e : Exact} (z : ℤ) → e ≡ exact_of z → numerator e ≡ z
made z p = ap numerator p ∙ numerator-exact_of z

-- ---- comparing

-- the whole part lies between two whole numbers exactly when the value does
pub lies-exactly : (low high : ℤ) (e : Exact) → e.part < D → lies low high e ≡ (le_z (numerator (wholly low)) (numerator e) and lt_z (numerator e) (numerator (wholly high)))
lies-exactly low high e h =
    ap₂ (λ a b. a and b)
    (agree (le_z low e.whole) (le_z (numerator (wholly low)) (numerator e))
    (λ t. omega (integers, numerator-parts e, numerator-parts (wholly low)))
    (λ t. omega (integers, numerator-parts e, numerator-parts (wholly low))))
    (agree (lt_z e.whole high) (lt_z (numerator e) (numerator (wholly high)))
    (λ t. omega (integers, numerator-parts e, numerator-parts (wholly high)))
    (λ t. omega (integers, numerator-parts e, numerator-parts (wholly high))))

pub same_true : (e f : Exact) → same_exact e f ≡ true → e ≡ f
unfolding same_exact
same_true e f t =
    let (p, q) = simp joined at t in
    λ i. record { whole = eqℤ-true e.whole f.whole p i; part = eqb-true e.part f.part q i }

pub same_refl : (e : Exact) → same_exact e e ≡ true
unfolding same_exact
same_refl e = simp joined (eqℤ-refl e.whole, eq-eqb e.part e.part refl)

-- the larger of two sizes
pub larger-exact_of : (m n : ℕ) → larger_of (exact_of (pos m)) (exact_of (pos n)) ≡ exact_of (pos (max m n))
unfolding larger_of
larger-exact_of m n = rw (numerator-exact_of (pos m), numerator-exact_of (pos n)) (by (leb m n) refl)
  where
    by : (t : Bool) → leb m n ≡ t → cond t (exact_of (pos n)) (exact_of (pos m)) ≡ exact_of (pos (max m n))
    by true e = ap (λ k. exact_of (pos k)) (omega (arith, leb-true m n e))
    by false e = ap (λ k. exact_of (pos k)) (omega (arith, leb-false m n e))

-- as a caller knows it: by a contract
pub larger-size : (m n : ℕ) {r e f : Exact} → r ≡ larger_of e f → e ≡ exact_of (pos m) → f ≡ exact_of (pos n) → r ≡ exact_of (pos (max m n))
larger-size m n p e f = p ∙ ap₂ larger_of e f ∙ larger-exact_of m n
