-- Differences: an array that is filled place by place, the differences of its places, and how large they become.
use mathlib.Core.Path.{◌≡◌, refl, sym, ap, ◌∙◌, subst}
use mathlib.Core.Bool.{Bool, true, false}
use mathlib.Core.List.{List}
use Prim.Native.Nat.{ℕ, zero, suc, ◌+◌, ◌-◌, ◌^◌, ◌≤◌, ◌<◌}
use native.Mathlib.Nat.{pow-suc, pow-le-pow_right}
use native.Mathlib.Numerals.{add-one}
use native.Mathlib.Omega.{arith}
use borrow.Author.Tests.{eqb-true, eqb-false, ltb-true, ltb-false}
use lib.Dec.{eqb, ltb}
use lib.IntN.{ℤ, pos, nat_abs, ◌-ℤ◌}
use lib.ListN.{length, set, get_or-eq_default}
use lib.Seq.{get_or-set_same, get_or-set_other}
use mir.Syntax.{w64}
use mir.Val.{SFits}
use Rattle.integers.specs.Parts.{integers, nat_abs-parts, one-part, difference-parts}
use Rattle.integers.specs.Solver.{atom, terms, ring}
use Rattle.integers.specs.Differences.{at, back, in_front}
use Rattle.reasons.specs.Differences.{difference, AtMost}

-- ---- the places below i are new, and those from i on as they were

pub record Mixed (new old : ℕ → ℤ) (i : ℕ) (out : List ℤ) : Type 0 where
  pub below : (k : ℕ) → k < i → at out k ≡ new k
  pub from : (k : ℕ) → i ≤ k → at out k ≡ old k

module _ {new old : ℕ → ℤ} {i : ℕ} {out : List ℤ} (m : Mixed new old i out) where
  -- a store at i
  pub next : (z : ℤ) → i < length out → z ≡ new i → Mixed new old (i + 1) (set out i z)
  next z l e =
      record {
        below = λ k h. by k h (eqb k i) refl;
        from = λ k h. get_or-set_other out i k z (pos 0) (λ f. omega (arith, f)) ∙ m.from k (omega arith);
      }
    where
      by : (k : ℕ) → k < i + 1 → (t : Bool) → eqb k i ≡ t → at (set out i z) k ≡ new k
      by k h true f = let same = eqb-true k i f in ap (at (set out i z)) same ∙ get_or-set_same out i z (pos 0) l ∙ e ∙ ap new (sym same)
      by k h false f = let other = eqb-false k i f in get_or-set_other out i k z (pos 0) other ∙ m.below k (omega (arith, h, other))

  -- the places that are left were new already
  pub all : ((k : ℕ) → i ≤ k → old k ≡ new k) → at out ≡ new
  all h = λ j k. by k (ltb k i) refl j
    where
      by : (k : ℕ) (t : Bool) → ltb k i ≡ t → at out k ≡ new k
      by k true f = m.below k (ltb-true k i f)
      by k false f = let l = ltb-false k i f in m.from k l ∙ h k l

-- ---- past the end

-- the last place less what is behind it is the last place
pub behind-last : (xs : List ℤ) (k : ℕ) → length xs ≤ k + 1 → at xs k ≡ back (at xs) k
behind-last xs k h = sym (ap (λ z. at xs k -ℤ z) (get_or-eq_default xs (pos 0) (omega (arith, add-one k))) ∙ less_none (at xs k))
  where
    less_none : (z : ℤ) → z -ℤ pos 0 ≡ z
    less_none z = rw (atom 0 z) (simp terms (ring _ _ refl))

pub in-front-end : (a : ℤ) (xs : List ℤ) (k : ℕ) → length xs < k → pos 0 ≡ in_front a (at xs) k
in-front-end a xs zero h = absurd (omega arith)
in-front-end a xs (suc k) h = sym (get_or-eq_default xs (pos 0) (omega arith))

-- ---- sizes

pub at-most-front : {m : ℕ} (a : ℤ) (x : ℕ → ℤ) → nat_abs a ≤ m → ((k : ℕ) → nat_abs (x k) ≤ m) → AtMost m (in_front a x)
at-most-front {m} a x h f = record { size = by }
  where
    by : (k : ℕ) → nat_abs (in_front a x k) ≤ m
    by zero = h
    by (suc k) = f k

size-of-difference : (a b : ℤ) {m : ℕ} → nat_abs a ≤ m → nat_abs b ≤ m → nat_abs (a -ℤ b) ≤ m + m
size-of-difference a b h l = omega (integers, nat_abs-parts a, nat_abs-parts b, nat_abs-parts (a -ℤ b), one-part (a -ℤ b), difference-parts a b)

-- a difference doubles the bound
pub at-most-back : (i : ℕ) (x : ℕ → ℤ) → AtMost (2 ^ (28 + i)) x → AtMost (2 ^ (28 + (i + 1))) (back x)
at-most-back i x h =
    record { size = λ k. let l = size-of-difference (x k) (x (suc k)) (h.size k) (h.size (suc k)) in omega (arith, l, pow-suc 2 (28 + i), ap (λ n. 2 ^ n) (up i)) }
  where
    up : (i : ℕ) → 28 + (i + 1) ≡ suc (28 + i)
    up i = omega arith

-- so the p-th one doubles it p times
pub difference-size : (p i : ℕ) (x : ℕ → ℤ) → AtMost (2 ^ (28 + i)) x → nat_abs (difference p x) ≤ 2 ^ (28 + (i + p))
unfolding difference
difference-size zero i x h = subst (λ n. nat_abs (x 0) ≤ 2 ^ (28 + n)) (none i) (h.size 0)
  where
    none : (i : ℕ) → i ≡ i + 0
    none i = omega arith
difference-size (suc p) i x h = subst (λ n. nat_abs (difference p (back x)) ≤ 2 ^ (28 + n)) (along i p) (difference-size p (i + 1) (back x) (at-most-back i x h))
  where
    along : (i p : ℕ) → i + 1 + p ≡ i + suc p
    along i p = omega arith

pub wide_enough : (i : ℕ) (x : ℕ → ℤ) → i ≤ 9 → AtMost (2 ^ (28 + i)) x → AtMost (2 ^ 61) x
wide_enough i x h m = let up : 2 ^ (28 + i) ≤ 2 ^ 61 = pow-le-pow_right {n = 2} (omega arith) {i = 28 + i} {j = 61} (omega arith) in record { size = λ k. omega (arith, m.size k) }

-- a difference of two places fits its type
pub back_fits : (x : ℕ → ℤ) (k : ℕ) → AtMost (2 ^ 61) x → SFits w64 (x k -ℤ x (suc k))
back_fits x k m = by (x k) (x (suc k)) (m.size k) (m.size (suc k))
  where
    by : (a b : ℤ) → nat_abs a ≤ 2 ^ 61 → nat_abs b ≤ 2 ^ 61 → SFits w64 (a -ℤ b)
    by a b h l = omega (integers, nat_abs-parts a, nat_abs-parts b, difference-parts a b)

-- ---- one turn of the differences

pub turn : (p i : ℕ) (x y : ℕ → ℤ) → i < p → y ≡ back x → difference (p - (i + 1)) y ≡ difference (p - i) x
unfolding difference
turn p i x y h e = ap (difference (p - (i + 1))) e ∙ ap (λ n. difference n x) (down p i h)
  where
    down : (p i : ℕ) → i < p → suc (p - (i + 1)) ≡ p - i
    down p i h = omega arith

-- none is left to make
pub last : (p i : ℕ) (x : ℕ → ℤ) → i ≡ p → difference (p - i) x ≡ x 0
unfolding difference
last p i x e = ap (λ n. difference n x) (none p i e)
  where
    none : (p i : ℕ) → i ≡ p → p - i ≡ 0
    none p i e = omega arith
