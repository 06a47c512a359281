-- Laws of a number's digits: the two cases of `decimal`, and how long a number's text is.
use Rattle.std.specs.Prelude.{◌≡◌, refl, Bool, true, false, List, [], ◌∷◌, ◌++◌, ℕ, zero, suc, ◌+◌, ◌/◌, ◌%◌, ◌^◌, ◌<◌, ◌≤◌, ltb, ℤ, pos, negsuc, nat_abs, length}
use Rattle.std.proofs.Common.{◌∙◌, ap, pow-suc, add-one, arith, length-append, lt-ltb, le-ltb}
use Rattle.text.specs.Numbers.{digit, digits, decimal, signed, ascii, hex_digit, hex_digits}

-- a number of more than one digit: its tenth has one digit less
tenth : (k n : ℕ) → n < 10 ^ suc k → n / 10 < 10 ^ k
tenth k n h = omega (arith, rw pow-suc at h)

-- one place more than needed changes nothing
enough : (k n : ℕ) → n < 10 ^ suc k → digits (suc k) n ≡ digits (suc (suc k)) n
unfolding digits
enough zero n h = rw (lt-ltb n 10 (omega arith))
enough (suc k) n h =
    ap (λ ds. elim (ltb n 10) as (λ _. List ℕ) [ true ↦ [] | false ↦ ds ] ++ (digit (n % 10) ∷ [])) (enough k (n / 10) (tenth (suc k) n h))

pub decimal-small : (n : ℕ) → n < 10 → decimal n ≡ digit n ∷ []
unfolding decimal digits
decimal-small n h =
    let e : n % 10 ≡ n = omega arith in
    rw (lt-ltb n 10 h, e)

pub decimal-more : (n : ℕ) → 10 ≤ n → n < 2 ^ 64 → decimal n ≡ decimal (n / 10) ++ (digit (n % 10) ∷ [])
unfolding decimal digits
decimal-more n h l = rw (le-ltb n 10 h) (ap (λ ds. ds ++ (digit (n % 10) ∷ [])) (enough 18 (n / 10) (omega arith)))

pub length_more : (n : ℕ) → 10 ≤ n → n < 2 ^ 64 → length (decimal n) ≡ length (decimal (n / 10)) + 1
length_more n h l = ap length (decimal-more n h l) ∙ length-append (decimal (n / 10)) (digit (n % 10) ∷ [])

-- ---- lengths

shorter : (f k n : ℕ) → n < 10 ^ suc k → length (digits f n) ≤ suc k
unfolding digits
shorter zero k n h = omega arith
shorter (suc f) zero n h = rw (lt-ltb n 10 (omega arith)) (omega arith)
shorter (suc f) (suc k) n h = by (ltb n 10) (shorter f k (n / 10) (tenth (suc k) n h))
  where
    by : (b : Bool) → length (digits f (n / 10)) ≤ suc k → length (elim b as (λ _. List ℕ) [ true ↦ [] | false ↦ digits f (n / 10) ] ++ (digit (n % 10) ∷ [])) ≤ suc (suc k)
    by true ih = omega arith
    by false ih = omega (arith, length-append (digits f (n / 10)) (digit (n % 10) ∷ []))

pub length-decimal : (k n : ℕ) → n < 10 ^ suc k → length (decimal n) ≤ suc k
unfolding decimal
length-decimal = shorter 20

pub length-signed : (k : ℕ) (z : ℤ) → nat_abs z < 10 ^ suc k → length (signed z) ≤ suc (suc k)
unfolding signed ascii
length-signed k (pos n) h = omega (arith, length-decimal k n h)
length-signed k (negsuc n) h = omega (arith, length-decimal k (suc n) h)

pub length-hex_digits : (k n : ℕ) → length (hex_digits k n) ≡ k
unfolding hex_digits
length-hex_digits zero n = refl
length-hex_digits (suc k) n = length-append (hex_digits k (n / 16)) (hex_digit (n % 16) ∷ []) ∙ add-one _ ∙ ap suc (length-hex_digits k (n / 16))
