-- What the code makes of its calls' results, and how large it is. An i64 is passed on by its bits.
use mathlib.Core.Path.{◌≡◌, sym, ap, ◌∙◌}
use Prim.Native.Nat.{ℕ, ◌+◌, ◌^◌, ◌≤◌}
use native.Mathlib.Omega.{arith}
use lib.IntN.{ℤ, pos, nat_abs, ◌+ℤ◌, ◌-ℤ◌}
use mir.Syntax.{w64}
use mir.Val.{SFits, to_z, of_z}
use mir.Facts.{to_z-of_z}
use Rattle.integers.specs.Size.{product-sized, sized-fits}
use Rattle.exact.specs.declared.Exact.{Exact}
use Rattle.exact.specs.Numerator.{D, exact_of, numerator, Bounded}
use Rattle.exact.proofs.Bounds.{moved-bounded, lowered-bounded}
use Rattle.axis.specs.Formulas.{motion_of, ticks}

-- ---- a value moved by a call's result

module _ (e : Exact) (z : ℤ) {w : ℤ} {r : Exact} (f : SFits w64 z) (g : z ≡ w) where
  pub moved-is : r ≡ exact_of (numerator e +ℤ to_z w64 (of_z w64 z)) → r ≡ exact_of (numerator e +ℤ w)
  moved-is p = p ∙ ap (λ y. exact_of (numerator e +ℤ y)) (to_z-of_z f ∙ g)

  pub left_is : r ≡ exact_of (numerator e -ℤ to_z w64 (of_z w64 z)) → r ≡ exact_of (numerator e -ℤ w)
  left_is p = p ∙ ap (λ y. exact_of (numerator e -ℤ y)) (to_z-of_z f ∙ g)

pub left-bounded : (h : ℕ) (e : Exact) (z : ℤ) {r : Exact} → SFits w64 z → r ≡ exact_of (numerator e -ℤ to_z w64 (of_z w64 z)) → Bounded h e → Bounded (h + 2 ^ 36) r
left-bounded h e z f p b = rw (p, to_z-of_z f) (lowered-bounded h z b f)

-- ---- a sample in ticks, and a first sum moved by it

pub ticks-fit : (n : ℤ) → nat_abs n ≤ 2 ^ 28 → SFits w64 (ticks n)
ticks-fit n s = sized-fits (product-sized {m = 2 ^ 28} {n = D} {a = n} {b = pos D} (record { size = s }) (record { size = omega arith })) tt

module _ (e : Exact) (n : ℤ) {r : Exact} (f : SFits w64 n) (p : r ≡ exact_of (numerator e +ℤ ticks (to_z w64 (of_z w64 n)))) where
  pub next-is : r ≡ exact_of (numerator e +ℤ ticks n)
  next-is = p ∙ ap (λ y. exact_of (numerator e +ℤ ticks y)) (to_z-of_z f)

  pub next-bounded : (h : ℕ) → Bounded h e → nat_abs n ≤ 2 ^ 28 → Bounded (h + 2 ^ 36) r
  next-bounded h b s = rw next-is (moved-bounded h (ticks n) b (ticks-fit n s))

-- ---- a motion of two values that were made

pub motion-is : {p v : Exact} (m n : ℤ) → p ≡ exact_of m → v ≡ exact_of n → record { position = p; velocity = v } ≡ motion_of m n
unfolding motion_of
motion-is m n e f = λ i. record { position = e i; velocity = f i }

-- ---- what an arm of a match found with its own number

pub numbered : {A : Type 0} (f : ℕ → A) {k p : ℕ} {r : A} → p ≡ k → r ≡ f k → r ≡ f p
numbered f n e = e ∙ ap f (sym n)
