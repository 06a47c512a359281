-- Laws of a number's last digits, and of how many digits it has.
use Rattle.std.specs.Prelude.{◌≡◌, refl, Bool, true, false, [], ◌∷◌, ◌++◌, ℕ, zero, suc, ◌+◌, ◌-◌, ◌*◌, ◌/◌, ◌%◌, ◌^◌, ◌<◌, ◌≤◌, ℤ, pos, negsuc, nat_abs, length, leb, ltb}
use Rattle.std.proofs.Common.{sym, ◌∙◌, ap, div-one, pow-suc, div-le_self, le-div_iff_mul-le, div-lt_iff_lt-mul, add-one, arith, pow-add, length-append, leb-true, le-leb, ltb-true, ltb-false}
use Rattle.std.proofs.Math.Nat.{div-div-eq-div-mul, pow-succ', one-le-pow}
use Rattle.integers.specs.Tests.{agree, passes}
use Rattle.text.specs.Numbers.{ascii, digit, decimal, last_digits}
use Rattle.text.proofs.Digits.{decimal-small, length_more, length-decimal}
use Rattle.decimal.specs.Text.{fixed, fixed_text, few_digits, digits_before}

-- ---- the digits after the point

pub length-last_digits : (k n : ℕ) → length (last_digits k n) ≡ k
unfolding last_digits
length-last_digits zero n = refl
length-last_digits (suc k) n = length-append (last_digits k (n / 10)) (digit (n % 10) ∷ []) ∙ add-one _ ∙ ap suc (length-last_digits k (n / 10))

pub length-fixed : (places n : ℕ) → length (fixed places n) ≡ length (decimal (n / 10 ^ places)) + 1 + places
unfolding fixed ascii
length-fixed places n =
    let whole = decimal (n / 10 ^ places) in
    omega (arith, length-append (whole ++ (46 ∷ [])) (last_digits places n), length-append whole (46 ∷ []), length-last_digits places n)

-- one power of ten more
pub tenth : (k n : ℕ) → n / 10 ^ suc k ≡ n / 10 ^ k / 10
tenth k n = ap (λ m. n / m) (pow-suc 10 k) ∙ sym (div-div-eq-div-mul n (10 ^ k) 10)

of-tenth : (k n : ℕ) → n / 10 / 10 ^ k ≡ n / 10 ^ suc k
of-tenth k n = div-div-eq-div-mul n 10 (10 ^ k) ∙ ap (λ m. n / m) (sym (pow-succ' 10 k))

-- the last digits by the first of them
pub first-digit : (k n : ℕ) → last_digits (suc k) n ≡ digit (n / 10 ^ k % 10) ∷ last_digits k n
unfolding last_digits
first-digit zero n = ap (λ m. digit (m % 10) ∷ []) (sym (div-one n))
first-digit (suc k) n =
    ap (λ ds. ds ++ (digit (n % 10) ∷ [])) (first-digit k (n / 10)) ∙ ap (λ m. digit (m % 10) ∷ last_digits (suc k) n) (of-tenth k n)

-- ---- how many digits stand before the point

one-by : (n : ℕ) (t : Bool) → ltb n 10 ≡ t → n < 2 ^ 64 → 0 < length (decimal n)
one-by n true t l = omega (arith, ap length (decimal-small n (ltb-true n 10 t)))
one-by n false t l = omega (arith, length_more n (ltb-false n 10 t) l)

pub one-at-least : (n : ℕ) → n < 2 ^ 64 → 0 < length (decimal n)
one-at-least n l = one-by n (ltb n 10) refl l

positive : (k : ℕ) → 0 < 10 ^ k
positive k = one-le-pow k 10 (omega arith)

-- a number from 10^k up has more than k digits
longer : (k n : ℕ) → 10 ^ k ≤ n → n < 2 ^ 64 → k < length (decimal n)
longer zero n h l = one-at-least n l
longer (suc k) n h l =
    let p = pow-suc 10 k in
    let q = positive k in
    omega (arith, length_more n (omega arith) l, longer k (n / 10) (omega arith) (omega arith))

-- the rule of 16 digits says how far a number is from 0, whatever the decimals
module _ (places : ℕ) (h : places ≤ 15) (m : ℕ) where
  parted : 10 ^ (16 - places) * 10 ^ places ≡ 10 ^ 16
  parted =
      let e : 16 - places + places ≡ 16 = omega arith in
      sym (pow-add 10 (16 - places) places) ∙ ap (λ k. 10 ^ k) e

  too_long : m < 2 ^ 64 → 10 ^ 16 ≤ m → 16 < length (decimal (m / 10 ^ places)) + places
  too_long l g =
      let up : 10 ^ (16 - places) ≤ m / 10 ^ places = (le-div_iff_mul-le (positive places)).1 (omega (arith, parted)) in
      omega (arith, longer (16 - places) (m / 10 ^ places) up (omega (arith, div-le_self m (10 ^ places))))

  short : m < 10 ^ 16 → length (decimal (m / 10 ^ places)) + places ≤ 16
  short l =
      let e : suc (15 - places) ≡ 16 - places = omega arith in
      let low : m / 10 ^ places < 10 ^ suc (15 - places) = rw e ((div-lt_iff_lt-mul (positive places)).1 (omega (arith, parted))) in
      omega (arith, length-decimal (15 - places) (m / 10 ^ places) low)

pub few-digits : (places : ℕ) (n : ℤ) → places ≤ 15 → nat_abs n < 2 ^ 64 → few_digits places n ≡ ltb (nat_abs n) (10 ^ 16)
unfolding few_digits digits_before
few-digits places n h l =
    let m = nat_abs n in
    let k = length (decimal (m / 10 ^ places)) + places in
    agree (leb k 16) (ltb m (10 ^ 16))
    (λ t. passes (ltb m (10 ^ 16)) (λ f. absurd (omega (arith, leb-true k 16 t, too_long places h m l (ltb-false m (10 ^ 16) f)))))
    (λ t. le-leb k 16 (short places h m (ltb-true m (10 ^ 16) t)))

-- and how long its text is: a sign, 16 digits and a point
pub length-text : (places : ℕ) (n : ℤ) → places ≤ 15 → nat_abs n < 10 ^ 16 → length (fixed_text places n) ≤ 18
unfolding fixed_text ascii
length-text places (pos m) h l = omega (arith, length-fixed places m, short places h m l)
length-text places (negsuc m) h l = omega (arith, length-fixed places (suc m), short places h (suc m) l)
