-- `closest` of `lib.Ieee.Nearest`: how far it is from the fraction, and what it is by the remainder.
use Rattle.std.specs.Prelude.{◌≡◌, refl, not, T, eqb}
use Rattle.std.proofs.Common.{ap, ◌∙◌, subst, add-zero, suc-mul, div-add-mod', mod-lt, arith, leb→le, eqb→eq}
use Prim.Native.Nat.{ℕ, zero, suc, ◌+◌, ◌-◌, ◌*◌, ◌/◌, ◌%◌, ◌≤◌, ◌<◌, compare, Ordering}
use Rattle.std.proofs.Math.Dec.{is_le, compare_is_eq, nleb→lt, eqb_refl}
use Rattle.std.proofs.Math.Arith.{lt_of_le-ne}
use lib.Ieee.{nearest}
use Rattle.std.specs.Float.Ieee.Nearest.{closest}

-- ---- `compare`, as a fact

abbrev pub Cmp : Ordering → ℕ → ℕ → Type 0
Cmp Ordering.lt a b = a < b
Cmp Ordering.eq a b = a ≡ b
Cmp Ordering.gt a b = b < a

cmp : (a b : ℕ) → Cmp (compare a b) a b
cmp a b = go (compare a b) (leb→le a b) (nleb→lt a b) (eqb→eq a b) (λ (e : a ≡ b). subst (λ (x : ℕ). T (eqb a x)) e (eqb_refl a))
  where
    go : (o : Ordering) → (T (is_le o) → a ≤ b) → (T (not (is_le o)) → b < a) → (T (compare_is_eq o) → a ≡ b) → (a ≡ b → T (compare_is_eq o)) → Cmp o a b
    go Ordering.lt h k e n = lt_of_le-ne (h tt) n
    go Ordering.eq h k e n = e tt
    go Ordering.gt h k e n = k tt

-- ---- natural numbers: n is at most a half away from a / d, and even where it is just a half away

pub record Near (a d n : ℕ) : Type 0 where
  pub above : 2 * (a - n * d) ≤ d
  pub below : 2 * (n * d - a) ≤ d
  pub tie : 2 * (a - n * d + (n * d - a)) ≡ d → n % 2 ≡ 0

-- with a = q * d + r, the two whole numbers about a / d are q and q + 1
nearest-is : (a d q r : ℕ) (o : Ordering) → q * d + r ≡ a → r < d → Cmp o (r * 2) d → Near a d (nearest q o)
nearest-is a d q r Ordering.lt e l h = record { above = omega arith; below = omega arith; tie = λ t. omega arith }
nearest-is a d q r Ordering.gt e l h =
    let m : suc q * d ≡ q * d + d = suc-mul q d in
    record { above = omega arith; below = omega arith; tie = λ t. omega arith }
nearest-is a d q r Ordering.eq e l h = go (q % 2) refl
  where
    go : (p : ℕ) → q % 2 ≡ p → Near a d (q + p)
    go zero z =
        let m : (q + 0) * d ≡ q * d = ap (λ (x : ℕ). x * d) (add-zero q) in
        record { above = omega arith; below = omega arith; tie = λ t. omega arith }
    go (suc p) z =
        let f : q + suc p ≡ suc q = omega arith in
        let m : (q + suc p) * d ≡ q * d + d = ap (λ (x : ℕ). x * d) f ∙ suc-mul q d in
        record { above = omega arith; below = omega arith; tie = λ t. omega arith }

pub closest-near : (a d : ℕ) → 0 < d → Near a d (closest a d)
closest-near a d D = nearest-is a d (a / d) (a % d) (compare (a % d * 2) d) (div-add-mod' a d) (mod-lt a D) (cmp (a % d * 2) d)

-- ---- `closest`, by how twice the remainder compares with the divisor

compare-is : (a b : ℕ) (o : Ordering) → Cmp o a b → compare a b ≡ o
compare-is a b o h = go o (compare a b) h (cmp a b)
  where
    go : (o p : Ordering) → Cmp o a b → Cmp p a b → p ≡ o
    go Ordering.lt Ordering.lt h k = refl
    go Ordering.lt Ordering.eq h k = absurd (omega arith)
    go Ordering.lt Ordering.gt h k = absurd (omega arith)
    go Ordering.eq Ordering.lt h k = absurd (omega arith)
    go Ordering.eq Ordering.eq h k = refl
    go Ordering.eq Ordering.gt h k = absurd (omega arith)
    go Ordering.gt Ordering.lt h k = absurd (omega arith)
    go Ordering.gt Ordering.eq h k = absurd (omega arith)
    go Ordering.gt Ordering.gt h k = refl

pub closest-by : (a d : ℕ) (o : Ordering) → Cmp o (a % d * 2) d → closest a d ≡ nearest (a / d) o
closest-by a d o h = ap (nearest (a / d)) (compare-is (a % d * 2) d o h)
