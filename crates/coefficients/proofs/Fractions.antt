-- Laws of sums of fractions: those that hold as equations, though fractions are not reduced, and those that hold of the values.
use mathlib.Core.Path.{◌≡◌, refl, sym, ◌∙◌, ap}
use Prim.Native.Nat.{ℕ, zero, suc, pred, ◌-◌, ◌*◌, ◌≤◌}
use native.Mathlib.Nat.{mul_assoc, mul_comm, mul-one, sub-zero, suc-sub-suc}
use native.Mathlib.Omega.{arith}
use lib.IntN.{ℤ, pos, ◌+ℤ◌, ◌*ℤ◌, +ℤ_comm, +ℤ_idr, zero-*ℤ}
use Rattle.integers.specs.Ring.{*ℤ-pos1}
use Rattle.integers.specs.Order.{*ℤ-cancel-right}
use Rattle.integers.specs.Parts.{integers}
use Rattle.integers.specs.Solver.{atom, terms, ring}
use Rattle.coefficients.specs.Fraction.{Fraction, denominator, ◌over◌, ◌⊕◌, ◌⊗◌, ◌≐◌}
use Rattle.coefficients.specs.Rules.{total}

-- a product of positive numbers stands below the line as it is
pub below-line : (m n : ℕ) → suc (pred (suc m * suc n)) ≡ suc m * suc n
below-line m n = omega arith

by_parts : {p q : Fraction} → p.top ≡ q.top → denominator p ≡ denominator q → p ≡ q
by_parts e f = λ i. record { top = e i; less = pred (f i) }

module _ (p q r : Fraction) where
  tops : (p ⊕ q ⊕ r).top ≡ (p ⊕ (q ⊕ r)).top
  tops =
      ap (λ n. (p ⊕ q).top *ℤ pos (denominator r) +ℤ r.top *ℤ pos n) (below-line p.less q.less)
      ∙ regroup p.top q.top r.top (pos (denominator p)) (pos (denominator q)) (pos (denominator r))
      ∙ sym (ap (λ n. p.top *ℤ pos n +ℤ (q ⊕ r).top *ℤ pos (denominator p)) (below-line q.less r.less))
    where
      regroup : (a b c x y z : ℤ) → (a *ℤ y +ℤ b *ℤ x) *ℤ z +ℤ c *ℤ (x *ℤ y) ≡ a *ℤ (y *ℤ z) +ℤ (b *ℤ z +ℤ c *ℤ y) *ℤ x
      regroup a b c x y z = rw (atom 0 a, atom 1 b, atom 2 c, atom 3 x, atom 4 y, atom 5 z) (simp terms (ring _ _ refl))

  denominators : denominator (p ⊕ q ⊕ r) ≡ denominator (p ⊕ (q ⊕ r))
  denominators =
      below-line (p ⊕ q).less r.less
      ∙ ap (λ n. n * denominator r) (below-line p.less q.less)
      ∙ mul_assoc (denominator p) (denominator q) (denominator r)
      ∙ sym (ap (λ n. denominator p * n) (below-line q.less r.less))
      ∙ sym (below-line p.less (q ⊕ r).less)

  ⊕-assoc : p ⊕ q ⊕ r ≡ p ⊕ (q ⊕ r)
  ⊕-assoc = by_parts tops denominators

pub ⊕-comm : (p q : Fraction) → p ⊕ q ≡ q ⊕ p
⊕-comm p q =
    by_parts (+ℤ_comm (p.top *ℤ pos (denominator q)) (q.top *ℤ pos (denominator p))) (ap (λ n. suc (pred n)) (mul_comm (denominator p) (denominator q)))

pub ⊕-zero : (q : Fraction) → q ⊕ pos 0 over 1 ≡ q
⊕-zero q = by_parts (rw (*ℤ-pos1 q.top, zero-*ℤ (pos (denominator q))) (+ℤ_idr q.top)) (below-line q.less 0 ∙ mul-one (denominator q))

-- a total from its first term on
pub total_first : (f : ℕ → Fraction) (n : ℕ) → total f (suc n) ≡ f 0 ⊕ total (λ k. f (suc k)) n
unfolding total
total_first f zero = refl
total_first f (suc n) = ap (λ t. t ⊕ f (suc (suc n))) (total_first f n) ∙ ⊕-assoc (f 0) (total (λ k. f (suc k)) n) (f (suc (suc n)))

-- a total of the same terms
pub total-same : (f g : ℕ → Fraction) (n : ℕ) → ((k : ℕ) → k ≤ n → f k ≡ g k) → total f n ≡ total g n
unfolding total
total-same f g zero h = h 0 (omega arith)
total-same f g (suc n) h = λ i. total-same f g n (λ k l. h k (omega arith)) i ⊕ h (suc n) (omega arith) i

-- a total from its last term on
pub total-turned : (f : ℕ → Fraction) (n : ℕ) → total f n ≡ total (λ k. f (n - k)) n
unfolding total
total-turned f zero = refl
total-turned f (suc n) =
    ⊕-comm (total f n) (f (suc n))
    ∙ (λ i. f (sym (sub-zero (suc n)) i) ⊕ total-turned f n i)
    ∙ (λ i. f (suc n - 0) ⊕ total (λ k. f (sym (suc-sub-suc n k) i)) n)
    ∙ sym (total_first (λ k. f (suc n - k)) n)

-- ---- values

-- (p + q) r is q r + p r
pub distributes : (p q r : Fraction) → (p ⊕ q) ⊗ r ≐ q ⊗ r ⊕ p ⊗ r
distributes p q r =
    rw (below-line (q ⊗ r).less (p ⊗ r).less, below-line (p ⊕ q).less r.less, below-line q.less r.less, below-line p.less r.less, below-line p.less q.less)
    (expand p.top q.top r.top (pos (denominator p)) (pos (denominator q)) (pos (denominator r)))
  where
    expand : (a b c x y z : ℤ) → (a *ℤ y +ℤ b *ℤ x) *ℤ c *ℤ (y *ℤ z *ℤ (x *ℤ z)) ≡ (b *ℤ c *ℤ (x *ℤ z) +ℤ a *ℤ c *ℤ (y *ℤ z)) *ℤ (x *ℤ y *ℤ z)
    expand a b c x y z = rw (atom 0 a, atom 1 b, atom 2 c, atom 3 x, atom 4 y, atom 5 z) (simp terms (ring _ _ refl))

-- two sums of two, added: a/t = c/v + d/w and b/u = e/x + f/y
module _ (a b c d e f t u v w x y : ℤ) where
  apart : (a *ℤ u +ℤ b *ℤ t) *ℤ (v *ℤ x *ℤ (w *ℤ y)) ≡ a *ℤ (v *ℤ w) *ℤ (u *ℤ x *ℤ y) +ℤ b *ℤ (x *ℤ y) *ℤ (t *ℤ v *ℤ w)
  apart = rw (atom 0 a, atom 1 b, atom 2 t, atom 3 u, atom 4 v, atom 5 w, atom 6 x, atom 7 y) (simp terms (ring _ _ refl))

  together : (c *ℤ w +ℤ d *ℤ v) *ℤ t *ℤ (u *ℤ x *ℤ y) +ℤ (e *ℤ y +ℤ f *ℤ x) *ℤ u *ℤ (t *ℤ v *ℤ w)
      ≡ ((c *ℤ x +ℤ e *ℤ v) *ℤ (w *ℤ y) +ℤ (d *ℤ y +ℤ f *ℤ w) *ℤ (v *ℤ x)) *ℤ (t *ℤ u)
  together = rw (atom 0 c, atom 1 d, atom 2 e, atom 3 f, atom 4 t, atom 5 u, atom 6 v, atom 7 w, atom 8 x, atom 9 y) (simp terms (ring _ _ refl))

  pairs : a *ℤ (v *ℤ w) ≡ (c *ℤ w +ℤ d *ℤ v) *ℤ t → b *ℤ (x *ℤ y) ≡ (e *ℤ y +ℤ f *ℤ x) *ℤ u
      → (a *ℤ u +ℤ b *ℤ t) *ℤ (v *ℤ x *ℤ (w *ℤ y)) ≡ ((c *ℤ x +ℤ e *ℤ v) *ℤ (w *ℤ y) +ℤ (d *ℤ y +ℤ f *ℤ w) *ℤ (v *ℤ x)) *ℤ (t *ℤ u)
  pairs p q = apart ∙ (λ i. p i *ℤ (u *ℤ x *ℤ y) +ℤ q i *ℤ (t *ℤ v *ℤ w)) ∙ together

pub in_pairs : (m n p q r s : Fraction) → m ≐ p ⊕ q → n ≐ r ⊕ s → m ⊕ n ≐ p ⊕ r ⊕ (q ⊕ s)
in_pairs m n p q r s e f =
    rw (below-line (p ⊕ r).less (q ⊕ s).less, below-line p.less r.less, below-line q.less s.less, below-line m.less n.less)
    (pairs m.top n.top p.top q.top r.top s.top
    (pos (denominator m)) (pos (denominator n)) (pos (denominator p)) (pos (denominator q)) (pos (denominator r)) (pos (denominator s))
    (rw (below-line p.less q.less) at e)
    (rw (below-line r.less s.less) at f))

-- added to 0: a/u = 0/w + b/v and b/v = d/t, with k = w v below the line
module _ (a b d k t u v w : ℤ) where
  inward : a *ℤ t *ℤ k ≡ a *ℤ k *ℤ t
  inward = rw (atom 0 a, atom 1 k, atom 2 t) (simp terms (ring _ _ refl))

  across : (pos 0 *ℤ v +ℤ b *ℤ w) *ℤ u *ℤ t ≡ b *ℤ t *ℤ (w *ℤ u)
  across = rw (atom 0 b, atom 1 t, atom 2 u, atom 3 v, atom 4 w) (simp terms (ring _ _ refl))

  outward : d *ℤ v *ℤ (w *ℤ u) ≡ d *ℤ u *ℤ (w *ℤ v)
  outward = rw (atom 0 d, atom 1 u, atom 2 v, atom 3 w) (simp terms (ring _ _ refl))

  times-k : k ≡ w *ℤ v → a *ℤ k ≡ (pos 0 *ℤ v +ℤ b *ℤ w) *ℤ u → b *ℤ t ≡ d *ℤ v → a *ℤ t *ℤ k ≡ d *ℤ u *ℤ k
  times-k p q r = inward ∙ ap (λ z. z *ℤ t) q ∙ across ∙ ap (λ z. z *ℤ (w *ℤ u)) r ∙ outward ∙ ap (λ z. d *ℤ u *ℤ z) (sym p)

pub zero-added : (m p q r : Fraction) → m ≐ p ⊕ q → p.top ≡ pos 0 → q ≐ r → m ≐ r
zero-added m p q r e n f =
    *ℤ-cancel-right (pos (denominator (p ⊕ q))) (λ z. omega integers)
    (times-k m.top q.top r.top (pos (denominator (p ⊕ q))) (pos (denominator r)) (pos (denominator m)) (pos (denominator q)) (pos (denominator p))
    (ap pos (below-line p.less q.less))
    (e ∙ ap (λ z. (z *ℤ pos (denominator q) +ℤ q.top *ℤ pos (denominator p)) *ℤ pos (denominator m)) n)
    f)
