-- Of floats: a quotient of two whole numbers, from 0 to 1, plus a whole number; where that is ordinary, and where above zero. Nothing here is about exact values.
use Rattle.std.specs.Prelude.{◌≡◌, ℕ, zero, suc, ◌+◌, ◌-◌, ◌*◌, ◌%◌, ◌^◌, ◌≤◌, ◌<◌, Bool, true, false, ◌&&◌, ◌||◌, cond, T, ltb, leb, eqb, ℤ, Float}
use Rattle.std.proofs.Common.{sym, ap, ◌∙◌, subst, le_trans, le_of_eq, add-mul, mul-one, one-mul, mul-pos, zero-lt-suc, mul_comm, mul_assoc, mul_left_comm, mul-le-mul, mul-le-mul_left, mul-le-mul_right, le_of_mul-le-mul_right, lt_of_mul-lt-mul_right, arith, true≢false, ltb→lt, leb→le, eqb→eq, lit≤, pow_pos}
use Rattle.std.specs.Float.{nan, inf, fin, binary64}
use Rattle.std.specs.Float.Ieee.{low, up, down, round, le, fits, add, sum, div, prec, emax}
use Rattle.std.specs.Float.Ieee.Fits.{round-fits, up_pos, down_pos, and_l, and_r}
use Rattle.std.specs.Float.Ieee.Exact.{HasValue}
use Rattle.std.specs.Float.Ieee.Order.{round_mono}
use Rattle.std.specs.Float.Ieee.Scale.{round_same, grid}
use Rattle.std.specs.Float.Ieee.Back.{round_whole}
use Rattle.std.specs.Float.Ieee.Positive.{num, positive, first_pos}
use Rattle.exact.specs.Rounding.{ordinary}
use Rattle.exact.proofs.Rounding.{plus-ordinary, plus-positive, minus-ordinary, rounded-value}

-- a float from 0 to 1, with the sign +, that the format holds
abbrev pub Fraction : Float → Type 0
Fraction nan = ⊥
Fraction (inf s) = ⊥
Fraction (fin true m e) = ⊥
Fraction (fin false m e) = (m * up e ≤ down e) × (down e ≤ 2 ^ low binary64)

at_most : (a b : ℕ) → T (ltb a b || (eqb a b && true)) → a ≤ b
at_most a b = go (ltb a b) (eqb a b) (ltb→lt a b) (eqb→eq a b)
  where
    go : (s t : Bool) → (T s → a < b) → (T t → a ≡ b) → T (s || (t && true)) → a ≤ b
    go true t f g h = omega (arith, f tt)
    go false true f g h = le_of_eq (g tt)
    go false false f g h = absurd h

-- a float at most 1
up-to-one : (m : ℕ) (e : ℤ) (y : Float) → HasValue y false 1 1 → T (le (fin false m e) y) → m * up e ≤ down e
unfolding le
up-to-one m e nan v h = absurd v
up-to-one m e (inf t) v h = absurd v
up-to-one m e (fin true n d) v h = absurd (true≢false v.0)
up-to-one m e (fin false n d) v h =
    le_of_mul-le-mul_right {k = down d}
    (le_trans (at_most (m * up e * down d) (n * up d * down e) h) (le_of_eq (ap (λ (z : ℕ). z * down e) (sym (mul-one (n * up d)) ∙ v.1 ∙ one-mul (down d)) ∙ mul_comm (down d) (down e))))
    (down_pos d)

scaled : (m : ℕ) (e : ℤ) → T (fits binary64 (fin false m e)) → down e ≤ 2 ^ low binary64
unfolding fits
scaled zero e t = le_trans (subst (λ (z : ℕ). z ≤ up e * down e) (one-mul (down e)) (mul-le-mul_right (down e) (up_pos e))) (le_trans (le_of_eq (eqb→eq (up e * down e) 1 t)) (pow_pos (low binary64)))
scaled (suc m) e t = leb→le (down e) (2 ^ low binary64)
    (and_r (eqb (suc m % 2) 1 && ltb (suc m) (2 ^ prec binary64)) (leb (down e) (2 ^ low binary64))
    (and_l (eqb (suc m % 2) 1 && ltb (suc m) (2 ^ prec binary64) && leb (down e) (2 ^ low binary64)) (ltb (suc m * up e) (2 ^ suc (emax binary64) * down e)) t))

-- a / b, rounded, for a from 0 to b
pub fraction : (a b : ℕ) → 0 < b → a ≤ b → Fraction (round binary64 false a b)
fraction a b B h =
    go (round binary64 false a b) (rounded-value a b B (le_trans h (omega arith)) false)
    (round_mono binary64 a b 1 1 B (zero-lt-suc 0) (omega arith))
    (round-fits binary64 false a b)
  where
    go : (x : Float) → HasValue x false (grid binary64 a b) (2 ^ low binary64) → T (le x (round binary64 false 1 1)) → T (fits binary64 x) → Fraction x
    go nan v l t = absurd v
    go (inf s) v l t = absurd v
    go (fin true m e) v l t = absurd (true≢false v.0)
    go (fin false m e) v l t = (up-to-one m e (round binary64 false 1 1) (round_whole binary64 false 1 (lit≤ tt)) l, scaled m e t)

-- a quotient of two whole numbers
pub quotient : (x y : Float) (a b : ℕ) → HasValue x false a 1 → HasValue y false b 1 → 0 < b → div binary64 x y ≡ round binary64 false a b
unfolding div
quotient nan y a b v w B = absurd v
quotient (inf s) y a b v w B = absurd v
quotient (fin true m e) y a b v w B = absurd (true≢false v.0)
quotient (fin false m e) nan a b v w B = absurd w
quotient (fin false m e) (inf s) a b v w B = absurd w
quotient (fin false m e) (fin true n d) a b v w B = absurd (true≢false w.0)
quotient (fin false m e) (fin false n d) a b v w B = go (eqb n 0) (eqb→eq n 0)
  where
    N : 0 < n
    N = first_pos n (up d) (first_pos (n * up d) 1 (subst (λ (z : ℕ). 0 < z) (sym w.1) (mul-pos B (down_pos d))))

    cross : m * up e * down d * b ≡ a * (n * up d * down e)
    cross =
        let x : m * up e ≡ a * down e = sym (mul-one (m * up e)) ∙ v.1 in
        let y : n * up d ≡ b * down d = sym (mul-one (n * up d)) ∙ w.1 in
        rw (x, y) (simp (mul_assoc, mul_comm, mul_left_comm))

    go : (t : Bool) → (T t → n ≡ 0) → cond t (cond (eqb m 0) nan (inf false)) (round binary64 false (m * up e * down d) (n * up d * down e)) ≡ round binary64 false a b
    go true f = absurd (omega (arith, f tt, N))
    go false f = round_same binary64 false (m * up e * down d) (n * up d * down e) a b (mul-pos (mul-pos N (up_pos d)) (down_pos e)) B cross

-- a fraction and a whole number: A / C and B / C, with B = k C
module _ (A B C k : ℕ) (h : A ≤ C) (e : B ≡ k * C) (l : k ≤ 2 ^ 53) where
  roof-sum : A + B ≤ 2 ^ 54 * C
  roof-sum = omega (arith, mul-le-mul_right C l)

  roof-less : B - A ≤ 2 ^ 54 * C
  roof-less = omega (arith, mul-le-mul_right C l)

  roof-more : A - B ≤ 2 ^ 54 * C
  roof-more = omega arith

-- a multiple of d above zero, over p d, is not below the least value, 1 / l
least : (z p d l : ℕ) → d ≤ z → p ≤ l → p * d ≤ z * l
least z p d l h k = le_trans (mul-le-mul k h) (le_of_eq (mul_comm l z))

-- the same of the floats m 2^e, a fraction, and n 2^d, which is k
module _ (m : ℕ) (e : ℤ) (n : ℕ) (d : ℤ) (k : ℕ) (v : Fraction (fin false m e)) (w : n * up d * 1 ≡ k * down d) (h : k ≤ 2 ^ 53) where
  C : 0 < down e * down d
  C = mul-pos (down_pos e) (down_pos d)

  small : m * up e * down d ≤ down e * down d
  small = mul-le-mul_right (down d) v.0

  whole : n * up d ≡ k * down d
  whole = sym (mul-one (n * up d)) ∙ w

  multiple : n * up d * down e ≡ k * (down e * down d)
  multiple = rw whole (simp (mul_assoc, mul_comm))

  over-e : k * down e * down d ≡ n * up d * down e
  over-e = rw whole (simp (mul_assoc, mul_comm))

  roof : m * up e * down d + n * up d * down e ≤ 2 ^ 54 * (down e * down d)
  roof = roof-sum (m * up e * down d) (n * up d * down e) (down e * down d) k small multiple h

  more-ordinary : T (ordinary (round binary64 false (m * up e * down d + n * up d * down e) (down e * down d)))
  more-ordinary = plus-ordinary (m * up e * down d + n * up d * down e) (down e * down d) C roof

  -- where either is above zero
  more-positive : 0 < m * up e + k → T (positive (round binary64 false (m * up e * down d + n * up d * down e) (down e * down d)))
  more-positive a =
      let some : 0 < m * up e + k * down e = omega (arith, mul-le-mul_left k (down_pos e)) in
      plus-positive (m * up e * down d + n * up d * down e) (down e * down d) C roof
      (least (m * up e * down d + n * up d * down e) (down e) (down d) (2 ^ low binary64) (omega (arith, over-e, add-mul (m * up e) (k * down e) (down d), mul-le-mul_right (down d) some)) v.1)

  less-ordinary : (b : Bool) → (T b → m * up e * down d < n * up d * down e)
      → T (ordinary (cond b (round binary64 true (n * up d * down e - m * up e * down d) (down e * down d)) (round binary64 false (m * up e * down d - n * up d * down e) (down e * down d))))
  less-ordinary true f =
      let some : m * up e < k * down e = lt_of_mul-lt-mul_right (down d) (subst (λ (z : ℕ). m * up e * down d < z) (sym over-e) (f tt)) in
      minus-ordinary (n * up d * down e - m * up e * down d) (down e * down d) C (roof-less (m * up e * down d) (n * up d * down e) (down e * down d) k small multiple h)
      (least (n * up d * down e - m * up e * down d) (down e) (down d) (2 ^ low binary64) (omega (arith, over-e, mul-le-mul_right (down d) some)) v.1)
  less-ordinary false f = plus-ordinary (m * up e * down d - n * up d * down e) (down e * down d) C (roof-more (m * up e * down d) (n * up d * down e) (down e * down d) k small multiple h)

pub sum-ordinary : (x y : Float) (s : Bool) (k : ℕ) → Fraction x → HasValue y s k 1 → k ≤ 2 ^ 53 → T (ordinary (add binary64 x y))
unfolding add sum
sum-ordinary nan y s k v w h = absurd v
sum-ordinary (inf t) y s k v w h = absurd v
sum-ordinary (fin true m e) y s k v w h = absurd v
sum-ordinary (fin false m e) nan s k v w h = absurd w
sum-ordinary (fin false m e) (inf t) s k v w h = absurd w
sum-ordinary (fin false m e) (fin false n d) s k v w h = more-ordinary m e n d k v w.1 h
sum-ordinary (fin false m e) (fin true n d) s k v w h = less-ordinary m e n d k v w.1 h (ltb (m * up e * down d) (n * up d * down e)) (ltb→lt (m * up e * down d) (n * up d * down e))

pub sum-positive : (x y : Float) (k : ℕ) → Fraction x → HasValue y false k 1 → k ≤ 2 ^ 53 → 0 < num x + k → T (positive (add binary64 x y))
unfolding add sum
sum-positive nan y k v w h a = absurd v
sum-positive (inf t) y k v w h a = absurd v
sum-positive (fin true m e) y k v w h a = absurd v
sum-positive (fin false m e) nan k v w h a = absurd w
sum-positive (fin false m e) (inf t) k v w h a = absurd w
sum-positive (fin false m e) (fin true n d) k v w h a = absurd (true≢false w.0)
sum-positive (fin false m e) (fin false n d) k v w h a = more-positive m e n d k v w.1 h a
