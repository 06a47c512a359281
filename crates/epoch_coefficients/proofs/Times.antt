-- A fraction q times d is the whole number u: how sums and products with a whole number keep this, and that it settles the value of q.
use mathlib.Core.Path.{◌≡◌, refl, sym, ◌∙◌, ap}
use Prim.Native.Nat.{ℕ, ◌<◌}
use native.Mathlib.Omega.{arith}
use lib.IntN.{ℤ, pos, neg_ℤ, nat_abs, ◌+ℤ◌, ◌*ℤ◌, zero-*ℤ}
use Rattle.integers.specs.Order.{*ℤ-cancel-right}
use Rattle.integers.specs.Solver.{atom, terms, ring}
use Rattle.coefficients.specs.Fraction.{Fraction, denominator, ◌over◌, ◌⊕◌, ◌⊗◌, ◌≐◌, negate}
use Rattle.coefficients.proofs.Fractions.{below-line}

pub record Times (d : ℕ) (q : Fraction) (u : ℤ) : Type 0 where
  pub across : u *ℤ pos (denominator q) ≡ q.top *ℤ pos d

module _ {d : ℕ} {p q : Fraction} {u v : ℤ} where
  pub sum : Times d p u → Times d q v → Times d (p ⊕ q) (u +ℤ v)
  sum e f =
      record {
        across =
            ap (λ n. (u +ℤ v) *ℤ pos n) (below-line p.less q.less)
            ∙ apart u v (pos (denominator p)) (pos (denominator q))
            ∙ (λ i. e.across i *ℤ pos (denominator q) +ℤ f.across i *ℤ pos (denominator p))
            ∙ together p.top q.top (pos (denominator p)) (pos (denominator q)) (pos d);
      }
    where
      apart : (u v m n : ℤ) → (u +ℤ v) *ℤ (m *ℤ n) ≡ u *ℤ m *ℤ n +ℤ v *ℤ n *ℤ m
      apart u v m n = rw (atom 0 u, atom 1 v, atom 2 m, atom 3 n) (simp terms (ring _ _ refl))

      together : (s t m n d : ℤ) → s *ℤ d *ℤ n +ℤ t *ℤ d *ℤ m ≡ (s *ℤ n +ℤ t *ℤ m) *ℤ d
      together s t m n d = rw (atom 0 s, atom 1 t, atom 2 m, atom 3 n, atom 4 d) (simp terms (ring _ _ refl))

module _ {d : ℕ} {q : Fraction} {u : ℤ} where
  pub scaled : (a : ℤ) → Times d q u → Times d (a over 1 ⊗ q) (a *ℤ u)
  scaled a e =
      record {
        across = ap (λ n. a *ℤ u *ℤ pos n) (below-line 0 q.less) ∙ apart a u (pos (denominator q)) ∙ ap (λ z. a *ℤ z) e.across ∙ together a q.top (pos d);
      }
    where
      apart : (a u n : ℤ) → a *ℤ u *ℤ (pos 1 *ℤ n) ≡ a *ℤ (u *ℤ n)
      apart a u n = rw (atom 0 a, atom 1 u, atom 2 n) (simp terms (ring _ _ refl))

      together : (a t d : ℤ) → a *ℤ (t *ℤ d) ≡ a *ℤ t *ℤ d
      together a t d = rw (atom 0 a, atom 1 t, atom 2 d) (simp terms (ring _ _ refl))

module _ {d : ℕ} {q : Fraction} {u : ℤ} where
  pub by_whole : (a : ℤ) → Times d q u → Times d (q ⊗ a over 1) (u *ℤ a)
  by_whole a e =
      record {
        across = ap (λ n. u *ℤ a *ℤ pos n) (below-line q.less 0) ∙ apart a u (pos (denominator q)) ∙ ap (λ z. z *ℤ a) e.across ∙ together a q.top (pos d);
      }
    where
      apart : (a u n : ℤ) → u *ℤ a *ℤ (n *ℤ pos 1) ≡ u *ℤ n *ℤ a
      apart a u n = rw (atom 0 a, atom 1 u, atom 2 n) (simp terms (ring _ _ refl))

      together : (a t d : ℤ) → t *ℤ d *ℤ a ≡ t *ℤ a *ℤ d
      together a t d = rw (atom 0 a, atom 1 t, atom 2 d) (simp terms (ring _ _ refl))

  pub negated : Times d q u → Times d (negate q) (neg_ℤ u)
  negated e = record { across = apart u (pos (denominator q)) ∙ ap neg_ℤ e.across ∙ sym (apart q.top (pos d)) }
    where
      apart : (a n : ℤ) → neg_ℤ a *ℤ n ≡ neg_ℤ (a *ℤ n)
      apart a n = rw (atom 0 a, atom 1 n) (simp terms (ring _ _ refl))

pub none : {d : ℕ} (q : Fraction) → Times d (pos 0 over 1 ⊗ q) (pos 0)
none {d} q = record { across = zero-*ℤ (pos (denominator (pos 0 over 1 ⊗ q))) ∙ sym (ap (λ z. z *ℤ pos d) (zero-*ℤ q.top) ∙ zero-*ℤ (pos d)) }

-- two fractions that come to the same are the same
pub settled : (d : ℕ) (p q : Fraction) {u : ℤ} → 0 < d → Times d p u → Times d q u → p ≐ q
settled d p q {u} h e f =
    *ℤ-cancel-right (pos d) (λ z. omega (arith, h, ap nat_abs z))
    (turned p.top (pos (denominator q)) (pos d)
    ∙ ap (λ z. z *ℤ pos (denominator q)) (sym e.across)
    ∙ turned u (pos (denominator p)) (pos (denominator q))
    ∙ ap (λ z. z *ℤ pos (denominator p)) f.across
    ∙ turned q.top (pos d) (pos (denominator p)))
  where
    turned : (a b c : ℤ) → a *ℤ b *ℤ c ≡ a *ℤ c *ℤ b
    turned a b c = rw (atom 0 a, atom 1 b, atom 2 c) (simp terms (ring _ _ refl))
