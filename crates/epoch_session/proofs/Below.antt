-- A test at 0, 1, .., n-1, and the largest of n values.
use mathlib.Core.Path.{◌≡◌, refl, sym, ap, ◌∙◌}
use mathlib.Core.Bool.{Bool, true, false}
use Prim.Native.Nat.{ℕ, zero, suc, max, ◌≤◌, ◌<◌, zero-le}
use native.Mathlib.Nat.{not-suc-le-zero}
use native.Mathlib.Omega.{arith}
use borrow.Author.Tests.{ltb-true, ltb-false}
use lib.Dec.{ltb}
use Rattle.integers.specs.Tests.{◌and◌, joined, clash, fails}
use Rattle.epoch_session.specs.Rounds.{every_below, largest_below}

module _ (test : ℕ → Bool) where
  pub every-at : (n j : ℕ) → j < n → every_below n test ≡ true → test j ≡ true
  unfolding every_below
  every-at zero j l e = absurd (not-suc-le-zero l)
  every-at (suc n) j l e = let (f, g) = simp joined at e in by (λ h. every-at n j h f) g (ltb j n) refl
    where
      by : (j < n → test j ≡ true) → test n ≡ true → (b : Bool) → ltb j n ≡ b → test j ≡ true
      by f g true h = f (ltb-true j n h)
      by f g false h = let k : j ≡ n = omega (arith, ltb-false j n h) in ap test k ∙ g

  -- where one fails
  pub every-fails : (n j : ℕ) → j < n → test j ≡ false → false ≡ every_below n test
  every-fails n j l f = sym (fails (every_below n test) (λ e. clash (every-at n j l e) f))

  pub every_more : (n : ℕ) → every_below n test ≡ true → test n ≡ true → every_below (suc n) test ≡ true
  unfolding every_below
  every_more n e f = simp joined (e, f)

pub largest-within : (f : ℕ → ℕ) (m n : ℕ) → ((j : ℕ) → j < n → f j ≤ m) → largest_below n f ≤ m
unfolding largest_below
largest-within f m zero h = zero-le
largest-within f m (suc n) h = omega (arith, largest-within f m n (λ j l. h j (omega arith)), h n (omega arith))

-- values of several kinds, with a bound for each
module _ {K : Type 0} (m : K → ℕ) where
  abbrev Above : (K → ℕ) → Type 0
  Above x = (k : K) × (m k < x k)

  one-over : (a b : Bool) {x y : K → ℕ} → (a ≡ false → Above x) → (b ≡ false → Above y) → (a and b) ≡ false → Above (λ k. max (x k) (y k))
  one-over true b f g e = let (k, h) = g e in (k, omega (arith, h))
  one-over false b f g e = let (k, h) = f refl in (k, omega (arith, h))

  -- where a test fails only at values of which one is over its bound
  pub largest-over : (f : ℕ → K → ℕ) (test : ℕ → Bool) → ((j : ℕ) → test j ≡ false → Above (f j)) → (n : ℕ) → every_below n test ≡ false → Above (λ k. largest_below n (λ j. f j k))
  unfolding largest_below every_below
  largest-over f test h zero e = clash refl e
  largest-over f test h (suc n) e = one-over (every_below n test) (test n) (largest-over f test h n) (h n) e
