-- Rounding by a quotient and its rest, for any divisor: the one law by which positions and velocities are rounded.
use Rattle.std.specs.Prelude.{◌≡◌, refl, ℕ, ◌+◌, ◌-◌, ◌*◌, ◌/◌, ◌%◌, ◌≤◌, ◌<◌, ℤ, pos, nat_abs, ◌+ℤ◌, ◌-ℤ◌, ◌*ℤ◌}
use Rattle.std.proofs.Common.{sym, ap, ◌∙◌, div-add-mod', arith}
use Rattle.integers.specs.Parts.{integers, nat_abs-parts, one-part, +-parts, difference-parts}
use Rattle.integers.specs.Ring.{*ℤ-distrib-right, one-*ℤ}
use Rattle.integers.specs.Tactics.{atom, terms, ring}
use Rattle.integers.specs.Nearest.{nearest_of}
use Rattle.integers.proofs.Nearest.{nearest-means}

-- how far x + r is from x, and from x + d
from-below : (x : ℤ) (r : ℕ) → nat_abs ((x +ℤ pos r) -ℤ x) ≡ r
from-below x r =
    let y = (x +ℤ pos r) -ℤ x in
    omega (integers, nat_abs-parts y, one-part y, difference-parts (x +ℤ pos r) x, +-parts x (pos r))

from-above : (x : ℤ) (r d : ℕ) → r ≤ d → nat_abs ((x +ℤ pos r) -ℤ (x +ℤ pos d)) ≡ d - r
from-above x r d h =
    let y = (x +ℤ pos r) -ℤ (x +ℤ pos d) in
    omega (integers, nat_abs-parts y, one-part y, difference-parts (x +ℤ pos r) (x +ℤ pos d), +-parts x (pos r), +-parts x (pos d))

-- q + r / d: the nearest is q where the rest is below a half, q + 1 where it is above, and the even one of the two where it is a half
module _ (q : ℤ) (r d : ℕ) (l : r < d) where
  pub down : 2 * r ≤ d → (2 * r ≡ d → nat_abs q % 2 ≡ 0) → nearest_of (q *ℤ pos d +ℤ pos r) d ≡ q
  down h t =
      let e = from-below (q *ℤ pos d) r in
      (nearest-means (q *ℤ pos d +ℤ pos r) d (omega arith) q).1 (record { near = omega (arith, e); tie = λ u. t (omega (arith, e)) })

  pub up : d ≤ 2 * r → (2 * r ≡ d → nat_abs q % 2 ≡ 1) → nearest_of (q *ℤ pos d +ℤ pos r) d ≡ q +ℤ pos 1
  up h t =
      let x = q *ℤ pos d in
      let next : (q +ℤ pos 1) *ℤ pos d ≡ x +ℤ pos d = *ℤ-distrib-right q (pos 1) (pos d) ∙ ap (λ y. x +ℤ y) (one-*ℤ (pos d)) in
      let e : nat_abs ((x +ℤ pos r) -ℤ (q +ℤ pos 1) *ℤ pos d) ≡ d - r = ap (λ y. nat_abs ((x +ℤ pos r) -ℤ y)) next ∙ from-above x r d (omega arith) in
      let even : nat_abs q % 2 ≡ 1 → nat_abs (q +ℤ pos 1) % 2 ≡ 0 =
      λ o. omega (arith, +-parts q (pos 1), nat_abs-parts q, nat_abs-parts (q +ℤ pos 1), one-part q, one-part (q +ℤ pos 1)) in
      (nearest-means (x +ℤ pos r) d (omega arith) (q +ℤ pos 1)).1 (record { near = omega (arith, e); tie = λ u. even (t (omega (arith, e))) })

-- (w + s / d) / p in two divisions: s by d, and by p what w and that quotient come to
pub in_two : (w q : ℤ) (s m p d : ℕ) → w +ℤ pos (s / d) ≡ q *ℤ pos p +ℤ pos m
    → w *ℤ pos d +ℤ pos s ≡ q *ℤ pos (d * p) +ℤ pos (m * d + s % d)
in_two w q s m p d e =
    ap (λ t. w *ℤ pos d +ℤ pos t) (sym (div-add-mod' s d))
    ∙ gather w (pos (s / d)) (pos d) (pos (s % d))
    ∙ ap (λ x. x *ℤ pos d +ℤ pos (s % d)) e
    ∙ share q (pos p) (pos m) (pos d) (pos (s % d))
  where
    gather : (w c d r : ℤ) → w *ℤ d +ℤ (c *ℤ d +ℤ r) ≡ (w +ℤ c) *ℤ d +ℤ r
    gather w c d r = rw (atom 0 w, atom 1 c, atom 2 d, atom 3 r) (simp terms (ring _ _ refl))

    share : (q p m d r : ℤ) → (q *ℤ p +ℤ m) *ℤ d +ℤ r ≡ q *ℤ (d *ℤ p) +ℤ (m *ℤ d +ℤ r)
    share q p m d r = rw (atom 0 q, atom 1 p, atom 2 m, atom 3 d, atom 4 r) (simp terms (ring _ _ refl))

-- a value times a factor, by its whole part and its part
pub scaled : (w : ℤ) (part d f : ℕ) → (w *ℤ pos d +ℤ pos part) *ℤ pos f ≡ (w *ℤ pos f) *ℤ pos d +ℤ pos (part * f)
scaled w part d f = turn w (pos part) (pos d) (pos f)
  where
    turn : (w p d f : ℤ) → (w *ℤ d +ℤ p) *ℤ f ≡ (w *ℤ f) *ℤ d +ℤ p *ℤ f
    turn w p d f = rw (atom 0 w, atom 1 p, atom 2 d, atom 3 f) (simp terms (ring _ _ refl))
