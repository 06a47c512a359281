-- Laws of sums of terms, for any terms: the lengths of years and those of months alike.
use Rattle.std.specs.Prelude.{◌≡◌, Bool, leb, ltb}
use Rattle.std.proofs.Math.Path.{refl}
use Rattle.std.proofs.Common.{sym, ◌∙◌, ap, le-leb, leb-true, leb-false, ltb-true, ltb-false}
use Rattle.std.proofs.Math.Bool.{true, false}
use Prim.Native.Nat.{ℕ, zero, suc, ◌+◌, ◌-◌, ◌≤◌, ◌<◌}
use native.Mathlib.Omega.{arith}
use Rattle.integers.specs.Tests.{clash}
use Rattle.calendar.specs.Calendar.{sum_to, fitting}

module _ (f : ℕ → ℕ) where
  pub one_more : (n : ℕ) → sum_to f (suc n) ≡ sum_to f n + f (suc n)
  unfolding sum_to
  one_more n = refl

  -- the term at k, where k is at least 1
  pub term : (k : ℕ) → 1 ≤ k → sum_to f (k - 1) + f k ≡ sum_to f k
  term k h =
      let e : suc (k - 1) ≡ k = omega arith in
      ap (λ i. sum_to f (k - 1) + f i) (sym e) ∙ sym (one_more (k - 1)) ∙ ap (sum_to f) e

  grows : (i j : ℕ) → i ≤ j → sum_to f i ≤ sum_to f j
  grows i zero h = let e : i ≡ 0 = omega arith in rw e (omega arith)
  grows i (suc j) h = by (leb i j) refl (grows i j)
    where
      by : (t : Bool) → leb i j ≡ t → (i ≤ j → sum_to f i ≤ sum_to f j) → sum_to f i ≤ sum_to f (suc j)
      by true t ih = omega (arith, one_more j, ih (leb-true i j t))
      by false t ih = let e : i ≡ suc j = omega (arith, leb-false i j t) in rw e (omega arith)

  -- a place in the term after i terms is before every place after j terms
  pub earlier : (i j a : ℕ) → i < j → a < f (suc i) → sum_to f i + a < sum_to f j
  earlier i j a h l = omega (arith, grows (suc i) j h, one_more i)

  -- ---- the terms that fit

  by-test : (n d : ℕ) (P : ℕ → Type 0)
      → (leb (sum_to f (suc n)) d ≡ true → P (suc n)) → (leb (sum_to f (suc n)) d ≡ false → P (fitting f n d)) → P (fitting f (suc n) d)
  unfolding fitting
  by-test n d P fits other = go (leb (sum_to f (suc n)) d) fits other
    where
      go : (t : Bool) → (t ≡ true → P (suc n)) → (t ≡ false → P (fitting f n d)) → P (elim t as (λ _. ℕ) [ true ↦ suc n | false ↦ fitting f n d ])
      go true fits other = fits refl
      go false fits other = other refl

  pub fitting-most : (n d : ℕ) → fitting f n d ≤ n
  unfolding fitting
  fitting-most zero d = omega arith
  fitting-most (suc n) d = by-test n d (λ k. k ≤ suc n) (λ _. omega arith) (λ _. omega (arith, fitting-most n d))

  pub fitting-low : (n d : ℕ) → sum_to f (fitting f n d) ≤ d
  unfolding fitting sum_to
  fitting-low zero d = omega arith
  fitting-low (suc n) d = by-test n d (λ k. sum_to f k ≤ d) (leb-true (sum_to f (suc n)) d) (λ _. fitting-low n d)

  pub fitting-high : (n d : ℕ) → d < sum_to f (suc n) → d < sum_to f (suc (fitting f n d))
  unfolding fitting
  fitting-high zero d h = h
  fitting-high (suc n) d h = by-test n d (λ k. d < sum_to f (suc k)) (λ _. h) (λ t. fitting-high n d (leb-false (sum_to f (suc n)) d t))

  -- terms that fit, where one more does not
  pub fitting-is : (n d k : ℕ) → k ≤ n → sum_to f k ≤ d → d < sum_to f (suc k) → fitting f n d ≡ k
  fitting-is n d k l h u =
      let g = fitting-high n d (omega (arith, grows (suc k) (suc n) (omega arith))) in
      by (ltb k (fitting f n d)) (ltb (fitting f n d) k) refl refl g
    where
      by : (s t : Bool) → ltb k (fitting f n d) ≡ s → ltb (fitting f n d) k ≡ t → d < sum_to f (suc (fitting f n d)) → fitting f n d ≡ k
      by true t p q g = absurd (omega (arith, fitting-low n d, grows (suc k) (fitting f n d) (ltb-true k (fitting f n d) p)))
      by false true p q g = absurd (omega (arith, grows (suc (fitting f n d)) k (ltb-true (fitting f n d) k q)))
      by false false p q g = omega (arith, ltb-false k (fitting f n d) p, ltb-false (fitting f n d) k q)

  pub fitting-all : (n d : ℕ) → sum_to f n ≤ d → fitting f n d ≡ n
  unfolding fitting
  fitting-all zero d h = refl
  fitting-all (suc n) d h = by-test n d (λ k. k ≡ suc n) (λ _. refl) (λ t. clash (le-leb (sum_to f (suc n)) d h) t)
