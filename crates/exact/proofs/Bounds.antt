-- The ranges of exact values: a `Bounded h` value has a numerator within ± h D, and so have sums and differences of such values.
use Rattle.std.specs.Prelude.{◌≡◌, true, ℕ, ◌+◌, ◌*◌, ◌^◌, ◌≤◌, ◌<◌, T, leb, ℤ, pos, ◌+ℤ◌, ◌-ℤ◌}
use Rattle.std.proofs.Common.{arith, leb→le, SFits}
use Rattle.std.specs.Int.{w64}
use Rattle.integers.specs.Tests.{joined}
use Rattle.integers.specs.Parts.{integers, Within, sfits-within, neg-parts, +-parts, difference-parts}
use Rattle.exact.specs.declared.Exact.{Exact}
use Rattle.exact.specs.Numerator.{D, exact_of, numerator, between, Bounded}
use Rattle.exact.proofs.Laws.{numerator-parts, numerator-exact_of, part-below}

pub wider : (h k : ℕ) (e : Exact) → Bounded h e → h ≤ k → Bounded k e
wider h k e b l = omega (integers, neg-parts (pos h), neg-parts (pos k))

-- the last argument is `tt`: the two bounds are compared by computing
pub widen : {h : ℕ} {e : Exact} (k : ℕ) → Bounded h e → T (leb h k) → Bounded k e
widen {h} {e} k b t = wider h k e b (leb→le h k t)

pub bounded-fits : (e : Exact) → Bounded (2 ^ 62) e → SFits w64 e.whole
bounded-fits e b = omega integers

-- a passed test of the range
pub between-bounded : (h : ℕ) (e : Exact) → e.part < D → between h e ≡ true → Bounded h e
between-bounded h e p t = let (l, u) = simp joined at t in omega integers

-- ---- the range of the whole part is the range of the numerator

pub numerator-within : {h : ℕ} {e : Exact} → Bounded h e → Within (h * D) (numerator e)
numerator-within {h} {e} b = omega (integers, numerator-parts e, neg-parts (pos h))

pub bounded-by : (h : ℕ) (e : Exact) → e.part < D → Within (h * D) (numerator e) → Bounded h e
bounded-by h e p w = omega (integers, numerator-parts e, neg-parts (pos h))

pub within-bounded : (h : ℕ) (z : ℤ) → Within (h * D) z → Bounded h (exact_of z)
within-bounded h z w = bounded-by h (exact_of z) (part-below z) (rw (numerator-exact_of z) w)

-- ---- sums and differences

module _ {h k : ℕ} {a b : Exact} (p : Bounded h a) (q : Bounded k b) where
  pub sum-within : Bounded (h + k) (exact_of (numerator a +ℤ numerator b))
  sum-within = within-bounded (h + k) (numerator a +ℤ numerator b) (omega (arith, numerator-within p, numerator-within q, +-parts (numerator a) (numerator b)))

  pub difference-within : Bounded (h + k) (exact_of (numerator a -ℤ numerator b))
  difference-within = within-bounded (h + k) (numerator a -ℤ numerator b) (omega (arith, numerator-within p, numerator-within q, difference-parts (numerator a) (numerator b)))

-- as a caller knows them: by a contract
module _ (h k m : ℕ) (a b r : Exact) (p : Bounded h a) (q : Bounded k b) (l : h + k ≤ m) where
  pub difference-bounded : r ≡ exact_of (numerator a -ℤ numerator b) → Bounded m r
  difference-bounded e = rw e (wider (h + k) m (exact_of (numerator a -ℤ numerator b)) (difference-within p q) l)

-- ---- a value moved by a numerator that an i64 holds: 2 ^ 63 is less than 2 ^ 36 D

pub split-bounded : (z : ℤ) → SFits w64 z → Bounded (2 ^ 36) (exact_of z)
split-bounded z f = within-bounded (2 ^ 36) z (omega (arith, sfits-within f))

pub moved-bounded : (h : ℕ) {e : Exact} (z : ℤ) → Bounded h e → SFits w64 z → Bounded (h + 2 ^ 36) (exact_of (numerator e +ℤ z))
moved-bounded h {e} z b f = within-bounded (h + 2 ^ 36) (numerator e +ℤ z) (omega (arith, numerator-within b, sfits-within f, +-parts (numerator e) z))

pub lowered-bounded : (h : ℕ) {e : Exact} (z : ℤ) → Bounded h e → SFits w64 z → Bounded (h + 2 ^ 36) (exact_of (numerator e -ℤ z))
lowered-bounded h {e} z b f = within-bounded (h + 2 ^ 36) (numerator e -ℤ z) (omega (arith, numerator-within b, sfits-within f, difference-parts (numerator e) z))

-- and back: the value is known by what it moved to
pub before-move : (h : ℕ) (e : Exact) (z : ℤ) → e.part < D → SFits w64 z → Bounded h (exact_of (numerator e +ℤ z)) → Bounded (h + 2 ^ 36) e
before-move h e z p f b =
    let w : Within (h * D) (numerator e +ℤ z) = rw (numerator-exact_of (numerator e +ℤ z)) at (numerator-within b) in
    bounded-by (h + 2 ^ 36) e p (omega (arith, sfits-within f, +-parts (numerator e) z))

pub before-difference : (h k : ℕ) (a b : Exact) (z : ℤ) → a.part < D → Bounded k b → SFits w64 z → Bounded h (exact_of (numerator a -ℤ numerator b +ℤ z)) → Bounded (h + k + 2 ^ 36) a
before-difference h k a b z p q f r =
    let w : Within (h * D) (numerator a -ℤ numerator b +ℤ z) = rw (numerator-exact_of (numerator a -ℤ numerator b +ℤ z)) at (numerator-within r) in
    bounded-by (h + k + 2 ^ 36) a p
    (omega (arith, sfits-within f, numerator-within q, +-parts (numerator a -ℤ numerator b) z, difference-parts (numerator a) (numerator b)))
