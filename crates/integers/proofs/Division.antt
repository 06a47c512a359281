-- Division by a positive natural number, rounded down, and the machine's `/` and `%`, which round toward zero.
use Rattle.std.specs.Prelude.{◌≡◌, ◌⊎◌, ℕ, ◌<◌, ℤ, pos, negsuc, ◌+ℤ◌, ◌*ℤ◌, ◌≤ℤ◌, ◌<ℤ◌}
use Rattle.std.proofs.Common.{sym, ap, ◌∙◌, inl, inr, div-add-mod', mod-lt, arith}
use Rattle.integers.specs.Ring.{*ℤ-distrib-right, one-*ℤ, +ℤ-cancel-left}
use Rattle.integers.specs.Parts.{integers}
use Rattle.integers.specs.Bridge.{parts, differences}
use Rattle.integers.specs.Order.{≤ℤ-antisym, ≤ℤ-or-<ℤ, +1≤ℤ, *ℤ-mono-right}
use Rattle.integers.specs.Division.{floor_div, floor_mod}

pub floor-law : (z : ℤ) (d : ℕ) → 0 < d → z ≡ floor_div z d *ℤ pos d +ℤ pos (floor_mod z d)
floor-law (pos n) d h = ap pos (sym (div-add-mod' n d))
floor-law (negsuc n) d h = simp differences (omega (arith, div-add-mod' n d, mod-lt n h))

pub floor_mod-< : (z : ℤ) (d : ℕ) → 0 < d → floor_mod z d < d
floor_mod-< (pos n) d h = mod-lt n h
floor_mod-< (negsuc n) d h = omega arith

-- ---- it is the only one

too_far : (x y s t : ℤ) (d : ℕ) → x +ℤ s ≡ y +ℤ t → t <ℤ pos d → pos 0 ≤ℤ s → (y +ℤ pos d) ≤ℤ x → ⊥
too_far x y s t d = rw (parts x, parts y, parts s, parts t) (simp differences (omega arith))

-- the quotient of the smaller is no larger
below : (q p s t : ℤ) (d : ℕ) → q *ℤ pos d +ℤ s ≡ p *ℤ pos d +ℤ t → pos 0 ≤ℤ s → t <ℤ pos d → q ≤ℤ p
below q p s t d e hs ht = go (≤ℤ-or-<ℤ q p)
  where
    go : (q ≤ℤ p) ⊎ (p <ℤ q) → q ≤ℤ p
    go (inl h) = h
    go (inr h) = absurd (too_far (q *ℤ pos d) (p *ℤ pos d) s t d e ht hs
        (rw (*ℤ-distrib-right p (pos 1) (pos d), one-*ℤ (pos d)) at (*ℤ-mono-right (pos d) (omega integers) ((+1≤ℤ p q).1 h))))

pub floor-unique : (z q s : ℤ) (d : ℕ) → z ≡ q *ℤ pos d +ℤ s → pos 0 ≤ℤ s → s <ℤ pos d → (floor_div z d ≡ q) × (pos (floor_mod z d) ≡ s)
floor-unique z q s d e hs ht =
    let h : 0 < d = omega integers in
    let l : floor_div z d *ℤ pos d +ℤ pos (floor_mod z d) ≡ q *ℤ pos d +ℤ s = sym (floor-law z d h) ∙ e in
    let m : pos (floor_mod z d) <ℤ pos d = omega (integers, floor_mod-< z d h) in
    let same : floor_div z d ≡ q = ≤ℤ-antisym (below (floor_div z d) q (pos (floor_mod z d)) s d l (omega integers) ht) (below q (floor_div z d) s (pos (floor_mod z d)) d (sym l) hs m) in
    (same, +ℤ-cancel-left (q *ℤ pos d) (ap (λ f. f *ℤ pos d +ℤ pos (floor_mod z d)) (sym same) ∙ l))
