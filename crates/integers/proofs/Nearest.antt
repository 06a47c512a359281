-- The whole number nearest to a fraction, and of two that are as near the even one: what that means, whatever way it is worked out,
-- and that exactly one number is.
use Rattle.std.specs.Prelude.{◌≡◌, ◌↔◌, ◌⊎◌, ℕ, suc, ◌+◌, ◌-◌, ◌*◌, ◌%◌, ◌<◌, ℤ, pos, negsuc, neg_ℤ, nat_abs, ◌+ℤ◌, ◌-ℤ◌, ◌*ℤ◌, ◌≤ℤ◌, ◌<ℤ◌}
use Rattle.std.proofs.Common.{sym, ap, ◌∙◌, subst, inl, inr, arith}
use Rattle.std.specs.Float.Ieee.Nearest.{closest}
use Rattle.integers.specs.Parts.{pos_part, neg_part, nat_abs-parts, one-part, +-parts, neg-parts, difference-parts, ≡-parts, integers}
use Rattle.integers.specs.Ring.{*ℤ-distrib-right, one-*ℤ, negℤ-*ℤ-left}
use Rattle.integers.specs.Order.{≤ℤ-or-<ℤ, ≤ℤ-antisym, *ℤ-mono-right, *ℤ-cancel-right, +1≤ℤ}
use Rattle.integers.specs.Size.{nat_abs-negℤ}
use Rattle.integers.specs.Closest.{closest-near}
use Rattle.integers.specs.Nearest.{Nearest, nearest_of}

-- ---- it is nearest

-- |x - y| by the parts of x and y
gap : (x y : ℤ) → nat_abs (x -ℤ y) ≡ pos_part x + neg_part y - (pos_part y + neg_part x) + (pos_part y + neg_part x - (pos_part x + neg_part y))
gap x y = omega (arith, nat_abs-parts (x -ℤ y), one-part (x -ℤ y), difference-parts x y)

pub nearest_positive : (a d : ℕ) → 0 < d → Nearest (pos a) d (pos (closest a d))
nearest_positive a d D =
    let n = closest a d in
    let h = closest-near a d D in
    let e : nat_abs (pos a -ℤ pos (n * d)) ≡ a - n * d + (n * d - a) = omega (arith, gap (pos a) (pos (n * d))) in
    record { near = omega arith; tie = λ t. h.tie (omega arith) }

pub nearest_negative : {a : ℤ} {d : ℕ} {n : ℤ} → Nearest a d n → Nearest (neg_ℤ a) d (neg_ℤ n)
nearest_negative {a} {d} {n} h =
    let x = n *ℤ pos d in
    let away : nat_abs (neg_ℤ a -ℤ neg_ℤ x) ≡ nat_abs (a -ℤ x) = omega (arith, gap (neg_ℤ a) (neg_ℤ x), gap a x, neg-parts a, neg-parts x) in
    let same : nat_abs (neg_ℤ a -ℤ neg_ℤ n *ℤ pos d) ≡ nat_abs (a -ℤ x) = ap (λ z. nat_abs (neg_ℤ a -ℤ z)) (negℤ-*ℤ-left n (pos d)) ∙ away in
    record { near = rw same h.near; tie = λ t. ap (λ m. m % 2) (nat_abs-negℤ n) ∙ h.tie (omega (arith, same)) }

pub nearest-of : (a : ℤ) (d : ℕ) → 0 < d → Nearest a d (nearest_of a d)
unfolding nearest_of
nearest-of (pos a) d D = nearest_positive a d D
nearest-of (negsuc a) d D = nearest_negative (nearest_positive (suc a) d D)

-- ---- and no other number is

module _ (a : ℤ) (d : ℕ) (D : 0 < d) where
  -- n + 1 is above a half away where n is at most a half, unless both are just a half away, and then one of the two is odd
  not-below : (n k : ℤ) → Nearest a d n → Nearest a d k → n <ℤ k → ⊥
  not-below n k p q l =
      let x = n *ℤ pos d in
      let y = k *ℤ pos d in
      let next : (n +ℤ pos 1) *ℤ pos d ≡ x +ℤ pos d = *ℤ-distrib-right n (pos 1) (pos d) ∙ ap (λ z. x +ℤ z) (one-*ℤ (pos d)) in
      let least : (x +ℤ pos d) ≤ℤ y = rw next at (*ℤ-mono-right (pos d) (omega integers) ((+1≤ℤ n k).1 l)) in
      let g = gap a x in
      let h = gap a y in
      let u = +-parts x (pos d) in
      let b = p.near in
      let c = q.near in
      let even-n : nat_abs n % 2 ≡ 0 = p.tie (omega integers) in
      let even-k : nat_abs k % 2 ≡ 0 = q.tie (omega integers) in
      let same : y ≡ x +ℤ pos d = ≤ℤ-antisym (omega integers) least in
      let up : k ≡ n +ℤ pos 1 = *ℤ-cancel-right (pos d) (λ e. omega integers) (same ∙ sym next) in
      omega (integers, ≡-parts up, +-parts n (pos 1), nat_abs-parts n, nat_abs-parts k, one-part n, one-part k)

  pub one-nearest : (n k : ℤ) → Nearest a d n → Nearest a d k → n ≡ k
  one-nearest n k p q = go (≤ℤ-or-<ℤ n k) (≤ℤ-or-<ℤ k n)
    where
      go : (n ≤ℤ k) ⊎ (k <ℤ n) → (k ≤ℤ n) ⊎ (n <ℤ k) → n ≡ k
      go (inl h) (inl l) = ≤ℤ-antisym h l
      go (inr h) l = absurd (not-below k n q p h)
      go (inl h) (inr l) = absurd (not-below n k p q l)

  pub nearest-means : (n : ℤ) → (nearest_of a d ≡ n) ↔ Nearest a d n
  nearest-means n = (λ e. subst (Nearest a d) e (nearest-of a d D), one-nearest (nearest_of a d) n (nearest-of a d D))
