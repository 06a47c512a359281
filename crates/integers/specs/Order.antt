-- The laws of `◌≤ℤ◌` and `◌<ℤ◌` (`lib.Signed`, which has `≤ℤ_refl` and `<ℤ-≤ℤ_trans`), their tests both ways, and products.
use Rattle.std.specs.Prelude.{◌≡◌, refl, ◌↔◌, ◌≢◌, ◌⊎◌, zero, suc, ◌+◌, ◌*◌, ◌≤◌, ◌<◌, ℤ, pos, negsuc, neg_ℤ, nat_abs, ◌+ℤ◌, ◌-ℤ◌, ◌*ℤ◌, ◌≤ℤ◌, ◌<ℤ◌, true, false}
use Rattle.std.proofs.Common.{sym, ap, ◌∙◌, inl, inr, mul-le-mul_left, arith}
use Rattle.std.proofs.Math.Nat.{le_of_mul-le-mul_left}
use Rattle.std.proofs.Math.Decide.{dec_le}
use Rattle.std.proofs.Math.IntN.{*ℤ_comm}
use Rattle.std.specs.Int.Signed.{lt_z, le_z}
use Rattle.integers.specs.Ring.{negℤ-*ℤ-left}
use Rattle.integers.specs.Parts.{pos_part, neg_part, one-part, nat_abs-parts, integers, ≤-parts, parts-≤, difference-parts, *-parts}
use Rattle.integers.specs.Bridge.{parts, differences}

module _ {a b : ℤ} where
  pub ≤ℤ-antisym : a ≤ℤ b → b ≤ℤ a → a ≡ b
  ≤ℤ-antisym h k = omega integers

  pub <ℤ→≤ℤ : a <ℤ b → a ≤ℤ b
  <ℤ→≤ℤ h = omega integers

  pub ≡→≤ℤ : a ≡ b → a ≤ℤ b
  ≡→≤ℤ e = omega integers

pub ≤ℤ-or-<ℤ : (a b : ℤ) → (a ≤ℤ b) ⊎ (b <ℤ a)
≤ℤ-or-<ℤ a b = go (dec_le (pos_part a + neg_part b) (pos_part b + neg_part a))
  where
    go : Dec (pos_part a + neg_part b ≤ pos_part b + neg_part a) → (a ≤ℤ b) ⊎ (b <ℤ a)
    go (yes h) = inl (omega integers)
    go (no f) = inr (omega integers)

-- ---- tests, named as the kit's of natural numbers: `ltb-true`, `lt-ltb`

module _ (a b : ℤ) where
  pub lt_z-true : lt_z a b ≡ true → a <ℤ b
  lt_z-true e = omega integers

  pub lt_z-false : lt_z a b ≡ false → b ≤ℤ a
  lt_z-false e = omega integers

  pub le_z-true : le_z a b ≡ true → a ≤ℤ b
  le_z-true e = omega integers

  pub le_z-false : le_z a b ≡ false → b <ℤ a
  le_z-false e = omega integers

  pub le-le_z : a ≤ℤ b → le_z a b ≡ true
  le-le_z h = omega integers

  pub lt-le_z : b <ℤ a → le_z a b ≡ false
  lt-le_z h = omega integers

-- ---- sums and differences

pub +1≤ℤ : (a b : ℤ) → ((a +ℤ pos 1) ≤ℤ b) ↔ (a <ℤ b)
+1≤ℤ a b = rw (parts a, parts b) (simp differences (omega arith))

-- how far a and b are apart: the larger less the smaller
module _ {a b : ℤ} where
  pub apart-down : b ≤ℤ a → a -ℤ b ≡ pos (nat_abs (a -ℤ b))
  apart-down h = omega (integers, difference-parts a b, nat_abs-parts (a -ℤ b), one-part (a -ℤ b))

  pub apart-up : a ≤ℤ b → b -ℤ a ≡ pos (nat_abs (a -ℤ b))
  apart-up h = omega (integers, difference-parts a b, difference-parts b a, nat_abs-parts (a -ℤ b), one-part (a -ℤ b), one-part (b -ℤ a))

-- ---- products

pub *ℤ-mono-left : (k : ℤ) {a b : ℤ} → pos 0 ≤ℤ k → a ≤ℤ b → (k *ℤ a) ≤ℤ (k *ℤ b)
*ℤ-mono-left (pos k) {a} {b} h l = omega (integers, *-parts (pos k) a, *-parts (pos k) b, mul-le-mul_left k (≤-parts l))
*ℤ-mono-left (negsuc k) h l = absurd h.le

pub *ℤ-mono-right : (k : ℤ) {a b : ℤ} → pos 0 ≤ℤ k → a ≤ℤ b → (a *ℤ k) ≤ℤ (b *ℤ k)
*ℤ-mono-right k {a} {b} h l = rw (*ℤ_comm a k, *ℤ_comm b k) (*ℤ-mono-left k h l)

-- ---- a factor that is not 0 is cancelled

pub *ℤ-≤ℤ-cancel : (k : ℤ) {a b : ℤ} → pos 0 <ℤ k → (k *ℤ a) ≤ℤ (k *ℤ b) → a ≤ℤ b
*ℤ-≤ℤ-cancel (pos k) {a} {b} h l =
    let m : k * (pos_part a + neg_part b) ≤ k * (pos_part b + neg_part a) = omega (integers, ≤-parts l, *-parts (pos k) a, *-parts (pos k) b) in
    let less : 0 < k = omega integers in
    parts-≤ (le_of_mul-le-mul_left m less)
*ℤ-≤ℤ-cancel (negsuc k) h l = absurd h.lt

*ℤ-cancel-pos : (k : ℤ) {a b : ℤ} → pos 0 <ℤ k → k *ℤ a ≡ k *ℤ b → a ≡ b
*ℤ-cancel-pos k h e = ≤ℤ-antisym (*ℤ-≤ℤ-cancel k h (≡→≤ℤ e)) (*ℤ-≤ℤ-cancel k h (≡→≤ℤ (sym e)))

pub *ℤ-cancel-left : (k : ℤ) {a b : ℤ} → k ≢ pos 0 → k *ℤ a ≡ k *ℤ b → a ≡ b
*ℤ-cancel-left (pos zero) f e = absurd (f refl)
*ℤ-cancel-left (pos (suc k)) f e = *ℤ-cancel-pos (pos (suc k)) (omega integers) e
*ℤ-cancel-left (negsuc k) {a} {b} f e =
    *ℤ-cancel-pos (pos (suc k)) (omega integers) (negℤ-*ℤ-left (negsuc k) a ∙ ap neg_ℤ e ∙ sym (negℤ-*ℤ-left (negsuc k) b))

pub *ℤ-cancel-right : (k : ℤ) {a b : ℤ} → k ≢ pos 0 → a *ℤ k ≡ b *ℤ k → a ≡ b
*ℤ-cancel-right k {a} {b} f e = *ℤ-cancel-left k f (*ℤ_comm k a ∙ e ∙ *ℤ_comm b k)
