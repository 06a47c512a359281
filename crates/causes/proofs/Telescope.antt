-- A predictor and a corrector of the same samples: where the coefficients of the one are the totals of those of the other, all but the last difference cancel.
use mathlib.Core.Path.{◌≡◌, refl, sym, ap, ◌∙◌, subst}
use mathlib.Core.Bool.{true}
use Prim.Native.Nat.{ℕ, zero, suc, ◌+◌, ◌*◌, ◌≤◌}
use native.Mathlib.Nat.{mul-one, le_of_suc-le-suc, not-suc-le-zero}
use native.Mathlib.Omega.{arith}
use lib.IntN.{ℤ, pos, ◌+ℤ◌, ◌-ℤ◌, ◌*ℤ◌}
use lib.ListN.{take}
use Rattle.integers.specs.Order.{*ℤ-cancel-right}
use Rattle.integers.specs.Parts.{integers}
use Rattle.integers.specs.Solver.{atom, terms, ring}
use Rattle.integers.specs.Differences.{back, older, by_differences}
use Rattle.exact.specs.Numerator.{D}
use Rattle.coefficients.specs.Fraction.{Fraction, denominator, ◌over◌, ◌⊕◌, ◌⊗◌, ◌≐◌, is_whole, times, times-exact}
use Rattle.coefficients.specs.Rules.{total}
use Rattle.coefficients.specs.Scaled.{all_whole, first, later, run}
use Rattle.coefficients.proofs.Fractions.{below-line}
use Rattle.reasons.specs.Differences.{difference}

-- ---- D times a sum is the sum of D times each

-- u/d = a/m and v/d = b/n and w/d = (a n + b m)/(m n), times m n
module _ (a b d m n u v w : ℤ) where
  apart : (u +ℤ v) *ℤ (m *ℤ n) ≡ u *ℤ m *ℤ n +ℤ v *ℤ n *ℤ m
  apart = rw (atom 0 u, atom 1 v, atom 2 m, atom 3 n) (simp terms (ring _ _ refl))

  together : d *ℤ a *ℤ n +ℤ d *ℤ b *ℤ m ≡ d *ℤ (a *ℤ n +ℤ b *ℤ m)
  together = rw (atom 0 a, atom 1 b, atom 2 d, atom 3 m, atom 4 n) (simp terms (ring _ _ refl))

  sums : u *ℤ m ≡ d *ℤ a → v *ℤ n ≡ d *ℤ b → w *ℤ (m *ℤ n) ≡ d *ℤ (a *ℤ n +ℤ b *ℤ m) → (u +ℤ v) *ℤ (m *ℤ n) ≡ w *ℤ (m *ℤ n)
  sums e f g = apart ∙ (λ i. e i *ℤ n +ℤ f i *ℤ m) ∙ together ∙ sym g

times-sum : (p q : Fraction) (u : is_whole D p ≡ true) (v : is_whole D q ≡ true) (w : is_whole D (p ⊕ q) ≡ true) → times D p u +ℤ times D q v ≡ times D (p ⊕ q) w
times-sum p q u v w =
    *ℤ-cancel-right (pos (denominator p * denominator q)) (λ z. omega integers)
    (sums p.top q.top (pos D) (pos (denominator p)) (pos (denominator q)) (times D p u) (times D q v) (times D (p ⊕ q) w)
    (times-exact D p u) (times-exact D q v)
    (sym (ap (λ n. times D (p ⊕ q) w *ℤ pos n) (below-line p.less q.less)) ∙ times-exact D (p ⊕ q) w))

next-total : (f : ℕ → Fraction) (i : ℕ) (u : is_whole D (total f i) ≡ true) (v : is_whole D (f (suc i)) ≡ true) (w : is_whole D (total f (suc i)) ≡ true) →
    times D (total f i) u +ℤ times D (f (suc i)) v ≡ times D (total f (suc i)) w
unfolding total
next-total f i u v w = times-sum (total f i) (f (suc i)) u v w

-- ---- D q times x, over D, is q times x

scaled : (q : Fraction) (w : is_whole D q ≡ true) (x : ℤ) → (times D q w *ℤ x) over D ≐ q ⊗ x over 1
scaled q w x =
    ap (λ n. times D q w *ℤ x *ℤ pos n) (below-line q.less 0 ∙ mul-one (denominator q))
    ∙ inward (times D q w) x (pos (denominator q))
    ∙ ap (λ z. z *ℤ x) (times-exact D q w)
    ∙ outward (pos D) q.top x
  where
    inward : (t x m : ℤ) → t *ℤ x *ℤ m ≡ t *ℤ m *ℤ x
    inward t x m = rw (atom 0 t, atom 1 x, atom 2 m) (simp terms (ring _ _ refl))

    outward : (d a x : ℤ) → d *ℤ a *ℤ x ≡ a *ℤ x *ℤ d
    outward d a x = rw (atom 0 d, atom 1 a, atom 2 x) (simp terms (ring _ _ refl))

-- ---- the sums: t y(0) + c₁ y(0) + c₂ By(0) + .. less (t + c₁) y(1) + (t + c₁ + c₂) By(1) + ..

alone : (t y : ℤ) → t *ℤ y +ℤ pos 0 -ℤ pos 0 ≡ t *ℤ y
alone t y = rw (atom 0 t, atom 1 y) (simp terms (ring _ _ refl))

-- a step up in the differences
up : (t c y z u v : ℤ) → t *ℤ y +ℤ (c *ℤ y +ℤ u) -ℤ ((t +ℤ c) *ℤ z +ℤ v) ≡ (t +ℤ c) *ℤ (y -ℤ z) +ℤ u -ℤ v
up t c y z u v = rw (atom 0 t, atom 1 c, atom 2 y, atom 3 z, atom 4 u, atom 5 v) (simp terms (ring _ _ refl))

steps_up : (t c n y z u v : ℤ) → t +ℤ c ≡ n → t *ℤ y +ℤ (c *ℤ y +ℤ u) -ℤ (n *ℤ z +ℤ v) ≡ n *ℤ (y -ℤ z) +ℤ u -ℤ v
steps_up t c n y z u v e = ap (λ m. t *ℤ y +ℤ (c *ℤ y +ℤ u) -ℤ (m *ℤ z +ℤ v)) (sym e) ∙ up t c y z u v ∙ ap (λ m. m *ℤ (y -ℤ z) +ℤ u -ℤ v) e

-- THE law: for every sequence of coefficients, from every index on, for every number of them
pub telescopes : (f : ℕ → Fraction) (i p n : ℕ) → p ≤ n → (w : all_whole f (suc i) n ≡ true) (v : all_whole (total f) i (suc n) ≡ true) (y : ℕ → ℤ) →
    (times D (total f i) (first (total f) i n v) *ℤ y 0
    +ℤ by_differences (take p (run f (suc i) n w)) y
    -ℤ by_differences (take p (run (total f) (suc i) n (later (total f) i n v))) (older y)) over D
    ≐ total f (i + p) ⊗ difference p y over 1
unfolding by_differences run difference
telescopes f i zero n h w v y =
    subst (λ z. z over D ≐ total f (i + 0) ⊗ y 0 over 1) (sym (alone (times D (total f i) (first (total f) i n v)) (y 0)))
    (subst (λ k. (times D (total f i) (first (total f) i n v) *ℤ y 0) over D ≐ total f k ⊗ y 0 over 1) (none i) (scaled (total f i) (first (total f) i n v) (y 0)))
  where
    none : (i : ℕ) → i ≡ i + 0
    none i = omega arith
telescopes f i (suc p) zero h w v y = absurd (not-suc-le-zero h)
telescopes f i (suc p) (suc n) h w v y =
    let v' = later (total f) i (suc n) v in
    let later-sums : ℤ = by_differences (take p (run (total f) (suc (suc i)) n (later (total f) (suc i) n v'))) (back (older y)) in
    subst (λ z. z over D ≐ total f (i + suc p) ⊗ difference p (back y) over 1)
    (sym (steps_up (times D (total f i) (first (total f) i (suc n) v)) (times D (f (suc i)) (first f (suc i) n w)) (times D (total f (suc i)) (first (total f) (suc i) n v'))
    (y 0) (y 1) (by_differences (take p (run f (suc (suc i)) n (later f (suc i) n w))) (back y)) later-sums
    (next-total f i (first (total f) i (suc n) v) (first f (suc i) n w) (first (total f) (suc i) n v'))))
    (subst (λ k. (times D (total f (suc i)) (first (total f) (suc i) n v') *ℤ (y 0 -ℤ y 1) +ℤ by_differences (take p (run f (suc (suc i)) n (later f (suc i) n w))) (back y) -ℤ later-sums) over D ≐ total f k ⊗ difference p (back y) over 1)
    (along i p) (telescopes f (suc i) p n (le_of_suc-le-suc h) (later f (suc i) n w) v' (back y)))
  where
    along : (i p : ℕ) → suc i + p ≡ i + suc p
    along i p = omega arith
