-- The bridge from ℤ to `omega` for a goal that holds sums, products and literals: an integer as the difference `p ⊖ n` of two naturals.
use Rattle.std.specs.Prelude.{◌≡◌, refl, ◌↔◌, ℕ, zero, suc, ◌+◌, ◌*◌, ◌-◌, ◌≤◌, ◌<◌, ◌^◌, cond, ltb, ℤ, pos, negsuc, nat_abs, ◌+ℤ◌, ◌-ℤ◌, ◌*ℤ◌, ◌≤ℤ◌, ◌<ℤ◌}
use Rattle.std.proofs.Common.{sym, ◌∙◌, add-zero, add_comm, arith}
use Rattle.std.proofs.Math.Path.{ap, ap₂}
use Rattle.std.proofs.Math.Dec.{leb-suc-zero}
use Rattle.std.proofs.Math.IntN.{neg_ℤ, sub_ℕ, +ℤ_assoc, +ℤ_comm, +ℤ_idl, neg_ℤ-+ℤ, neg_ℤ-neg_ℤ, -ℤ-+ℤ_cancel}
use Rattle.std.specs.Int.{Width}
use mir.Val.{SFits, hbits}
pub use Rattle.integers.specs.Parts.{pos_part, neg_part, one-part, nat_abs-parts, ≡-parts, parts-≡, +-parts, neg-parts, difference-parts, *-parts, multiple-parts, ≤-parts, parts-≤, <-parts, parts-<, sfits-pos_part, sfits-neg_part, parts-sfits, integers}
use Rattle.integers.specs.Ring.{*ℤ-distrib-left, *ℤ-distrib-right, negℤ-*ℤ-left, negℤ-*ℤ-right, +ℤ-cancel-right, minus-*}

-- p − n, for two naturals. Shut, so that it stays one term.
infix 60 ◌⊖◌
pub ◌⊖◌ : ℕ → ℕ → ℤ
p ⊖ n = pos p -ℤ pos n

pub parts : (z : ℤ) → z ≡ pos_part z ⊖ neg_part z
unfolding ◌⊖◌
parts (pos n) = ap pos (sym (add-zero n))
parts (negsuc n) = sym (+ℤ_idl (negsuc n))

-- ---- what the operations are on differences

pub ⊖-pos : (n : ℕ) → pos n ≡ n ⊖ 0
⊖-pos n = parts (pos n)

pub ⊖-negsuc : (n : ℕ) → negsuc n ≡ 0 ⊖ suc n
⊖-negsuc n = parts (negsuc n)

shuffle : (a b c d : ℤ) → (a +ℤ b) +ℤ (c +ℤ d) ≡ (a +ℤ c) +ℤ (b +ℤ d)
shuffle a b c d = simp (+ℤ_assoc, ← (+ℤ_assoc b c d), +ℤ_comm b c)

pub ⊖-+ : (p n q m : ℕ) → (p ⊖ n) +ℤ (q ⊖ m) ≡ (p + q) ⊖ (n + m)
unfolding ◌⊖◌
⊖-+ p n q m = shuffle (pos p) (neg_ℤ (pos n)) (pos q) (neg_ℤ (pos m)) ∙ ap (λ x. pos (p + q) +ℤ x) (sym (neg_ℤ-+ℤ (pos n) (pos m)))

pub ⊖-neg : (p n : ℕ) → neg_ℤ (p ⊖ n) ≡ n ⊖ p
unfolding ◌⊖◌
⊖-neg p n = neg_ℤ-+ℤ (pos p) (neg_ℤ (pos n)) ∙ +ℤ_comm (neg_ℤ (pos p)) (neg_ℤ (neg_ℤ (pos n))) ∙ ap (λ x. x -ℤ pos p) (neg_ℤ-neg_ℤ (pos n))

scale : (p q m : ℕ) → pos p *ℤ (q ⊖ m) ≡ (p * q) ⊖ (p * m)
unfolding ◌⊖◌
scale p q m = *ℤ-distrib-left (pos p) (pos q) (neg_ℤ (pos m)) ∙ ap (λ x. pos (p * q) +ℤ x) (negℤ-*ℤ-right (pos p) (pos m))

-- two that compute past the operation's name before `simp` sees them
pub ⊖-neg-pos : (n : ℕ) → neg_ℤ (pos n) ≡ 0 ⊖ n
⊖-neg-pos n = ap neg_ℤ (⊖-pos n) ∙ ⊖-neg n 0

⊖-sub : (p n : ℕ) → sub_ℕ p n ≡ p ⊖ n
unfolding ◌⊖◌
⊖-sub p zero = rw (leb-suc-zero p) (ap pos (omega arith))
⊖-sub p (suc n) = refl

pub ⊖-cond : (p n : ℕ) → cond (ltb p n) (0 ⊖ suc (n - suc p)) ((p - n) ⊖ 0) ≡ p ⊖ n
⊖-cond p n = rw (← (⊖-negsuc (n - suc p)), ← (⊖-pos (p - n))) (⊖-sub p n)

pub ⊖-* : (p n q m : ℕ) → (p ⊖ n) *ℤ (q ⊖ m) ≡ (p * q + n * m) ⊖ (p * m + n * q)
⊖-* p n q m =
    unfold ◌⊖◌ in *ℤ-distrib-right (pos p) (neg_ℤ (pos n)) (q ⊖ m)
    ∙ ap₂ (λ x y. x +ℤ y) (scale p q m) (negℤ-*ℤ-left (pos n) (q ⊖ m) ∙ ap neg_ℤ (scale n q m) ∙ ⊖-neg (n * q) (n * m))
    ∙ ⊖-+ (p * q) (p * m) (n * m) (n * q)

-- a literal on the left, where the operation has computed as far as it can and no longer shows its name
pub ⊖-pos-* : (k p n : ℕ) → pos k *ℤ (p ⊖ n) ≡ (k * p) ⊖ (k * n)
⊖-pos-* k p n = scale k p n

pub ⊖-negsuc-* : (k p n : ℕ) → negsuc k *ℤ (p ⊖ n) ≡ (suc k * n) ⊖ (suc k * p)
⊖-negsuc-* k p n = negℤ-*ℤ-left (pos (suc k)) (p ⊖ n) ∙ ap neg_ℤ (scale (suc k) p n) ∙ ⊖-neg (suc k * p) (suc k * n)

pub ⊖-pos-+ : (k p n : ℕ) → pos k +ℤ (p ⊖ n) ≡ (k + p) ⊖ (0 + n)
⊖-pos-+ k p n = ap (λ x. x +ℤ (p ⊖ n)) (⊖-pos k) ∙ ⊖-+ k 0 p n

pub ⊖-negsuc-+ : (k p n : ℕ) → negsuc k +ℤ (p ⊖ n) ≡ (0 + p) ⊖ (suc k + n)
⊖-negsuc-+ k p n = ap (λ x. x +ℤ (p ⊖ n)) (⊖-negsuc k) ∙ ⊖-+ 0 (suc k) p n

pub ⊖-minus-* : (k p n : ℕ) → elim (p ⊖ n) as (λ x. ℤ) [ pos b ↦ neg_ℤ (pos (k * b)) | negsuc b ↦ pos (k * suc b) ] ≡ (k * n) ⊖ (k * p)
⊖-minus-* k p n = minus-* k (p ⊖ n) ∙ ap neg_ℤ (scale k p n) ∙ ⊖-neg (k * p) (k * n)

-- ---- what the orders and the equality are on differences

-- (p − n) + (n + m) = p + m
back : (p n m : ℕ) → (p ⊖ n) +ℤ pos (n + m) ≡ pos (p + m)
unfolding ◌⊖◌
back p n m = sym (+ℤ_assoc (p ⊖ n) (pos n) (pos m)) ∙ ap (λ x. x +ℤ pos m) (-ℤ-+ℤ_cancel (pos p) (pos n))

back' : (p n m : ℕ) → (p ⊖ n) +ℤ pos (m + n) ≡ pos (p + m)
back' p n m = rw (add_comm m n) (back p n m)

pub ⊖-≡ : (p n q m : ℕ) → (p ⊖ n ≡ q ⊖ m) ↔ (p + m ≡ q + n)
⊖-≡ p n q m = (
  (λ e. ap pos_part (sym (back p n m) ∙ ap (λ x. x +ℤ pos (n + m)) e ∙ back' q m n)),
  (λ e. +ℤ-cancel-right (pos (n + m)) (back p n m ∙ ap pos e ∙ sym (back' q m n))),
)

-- `parts`, as `omega` reads it
pub ⊖-parts : (p n : ℕ) → pos_part (p ⊖ n) + n ≡ p + neg_part (p ⊖ n)
⊖-parts p n = sym ((⊖-≡ p n (pos_part (p ⊖ n)) (neg_part (p ⊖ n))).0 (parts (p ⊖ n)))

pub ⊖-≤ : (p n q m : ℕ) → ((p ⊖ n) ≤ℤ (q ⊖ m)) ↔ (p + m ≤ q + n)
⊖-≤ p n q m = (
  (λ h. omega (arith, ≤-parts h, ⊖-parts p n, ⊖-parts q m)),
  (λ h. parts-≤ (omega (arith, ⊖-parts p n, ⊖-parts q m))),
)

pub ⊖-< : (p n q m : ℕ) → ((p ⊖ n) <ℤ (q ⊖ m)) ↔ (p + m < q + n)
⊖-< p n q m = (
  (λ h. omega (arith, <-parts h, ⊖-parts p n, ⊖-parts q m)),
  (λ h. parts-< (omega (arith, ⊖-parts p n, ⊖-parts q m))),
)

pub ⊖-sfits : (w : Width) (p n : ℕ) → SFits w (p ⊖ n) ↔ ((p < 2 ^ hbits w + n) × (n ≤ 2 ^ hbits w + p))
⊖-sfits w p n = (
  (λ f. omega (arith, sfits-pos_part f, sfits-neg_part f, ⊖-parts p n)),
  (λ h. parts-sfits (omega (arith, ⊖-parts p n))),
)

pub ⊖-nat_abs : (p n : ℕ) → nat_abs (p ⊖ n) ≡ (p - n) + (n - p)
⊖-nat_abs p n = omega (arith, nat_abs-parts (p ⊖ n), one-part (p ⊖ n), ⊖-parts p n)

-- for `simp`, after `rw (parts a, parts b, ..)`: turns a statement on integers into one on naturals
pub ruleset differences = (⊖-pos, ⊖-negsuc, ⊖-pos-+, ⊖-negsuc-+, ⊖-pos-*, ⊖-negsuc-*, ⊖-minus-*, ⊖-neg-pos, ⊖-cond, ⊖-+, ⊖-neg, ⊖-*, ⊖-≡, ⊖-≤, ⊖-<, ⊖-sfits, ⊖-nat_abs)
