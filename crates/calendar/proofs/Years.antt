-- Laws of the calendar: a year has 365 days, or 366 in a leap year; the days before a year by divisions; and in which year and month a day is.
use Rattle.std.specs.Prelude.{◌≡◌, refl, Bool, true, false, cond, List, [], ◌∷◌, ℕ, zero, suc, ◌+◌, ◌-◌, ◌*◌, ◌/◌, ◌%◌, ◌≤◌, ◌<◌, eqb, leb, ltb, get_or}
use Rattle.std.proofs.Common.{sym, ◌∙◌, ap, mod-lt, mod-eq_of_lt, arith, eqb-true, eq-eqb, ne_eqb, leb-true, ltb-true, ltb-false}
use Rattle.std.proofs.Math.Nat.{suc-mod, mod_self, mod-add-div', add-mul-div_right, div-eq_of_lt, div_self}
use Rattle.std.proofs.lemmas.Bool.{eqb-false}
use Rattle.integers.specs.Tests.{◌and◌, joined, clash}
use Rattle.calendar.specs.Calendar.{leap, lengths, days_of_month, sum_to, days_of_year, days_before_year, days_before_month, year_of, month_of}
use Rattle.calendar.proofs.Sums.{term, fitting-is, fitting-all}

pub year-length : (y : ℕ) → days_of_year y ≡ cond (leap y) 366 365
unfolding days_of_year days_of_month lengths sum_to
year-length y = by (leap y)
  where
    by : (t : Bool) → sum_to (λ m. get_or (lengths t) (m - 1) 0) 12 ≡ cond t 366 365
    by true = refl
    by false = refl

-- one number more is one multiple more, where it is a multiple
module _ (d n : ℕ) (p : 0 < d) where
  split : suc n / d ≡ suc (n % d) / d + n / d
  split =
      let e : suc n ≡ suc (n % d) + n / d * d = omega (arith, mod-add-div' n d) in
      ap (λ k. k / d) e ∙ add-mul-div_right (suc (n % d)) (n / d) p

  next-by : (t : Bool) → ltb (suc (n % d)) d ≡ t → suc n / d ≡ n / d + cond (eqb (suc n % d) 0) 1 0
  next-by true t =
      let h = ltb-true (suc (n % d)) d t in
      let e : eqb (suc n % d) 0 ≡ false = ne_eqb (suc n % d) 0 (λ z. omega (arith, suc-mod n d, mod-eq_of_lt h)) in
      rw e (omega (arith, split, div-eq_of_lt h))
  next-by false t =
      let s : suc (n % d) ≡ d = omega (arith, ltb-false (suc (n % d)) d t, mod-lt n p) in
      let e : eqb (suc n % d) 0 ≡ true = eq-eqb (suc n % d) 0 (suc-mod n d ∙ ap (λ k. k % d) s ∙ mod_self d) in
      rw e (omega (arith, split, ap (λ k. k / d) s, div_self p))

  one-multiple : suc n / d ≡ n / d + cond (eqb (suc n % d) 0) 1 0
  one-multiple = next-by (ltb (suc (n % d)) d) refl

-- a number that 100 divides is one that 4 divides, and one that 100 does not divide is none that 400 divides
divides-4 : (n : ℕ) → eqb (n % 100) 0 ≡ true → eqb (n % 4) 0 ≡ true
divides-4 n h = eq-eqb (n % 4) 0 (omega (arith, eqb-true (n % 100) 0 h))

divides-100 : (n : ℕ) → eqb (n % 100) 0 ≡ false → eqb (n % 400) 0 ≡ false
divides-100 n h = ne_eqb (n % 400) 0 (λ e. omega (arith, eqb-false (n % 100) 0 h))

-- the three counts, before the year and after it
counted : (n a b c : ℕ) (p q r : Bool) → b ≤ a → (p ≡ true → r ≡ true) → (p ≡ false → q ≡ false)
    → n * 365 + a - b + c + cond (cond p q r) 366 365 ≡ suc n * 365 + (a + cond r 1 0) - (b + cond p 1 0) + (c + cond q 1 0)
counted n a b c true true true h f g = omega arith
counted n a b c true false true h f g = omega arith
counted n a b c true q false h f g = clash (f refl) refl
counted n a b c false true r h f g = clash refl (g refl)
counted n a b c false false true h f g = omega arith
counted n a b c false false false h f g = omega arith

pub years-length : (n : ℕ) → sum_to days_of_year n ≡ n * 365 + n / 4 - n / 100 + n / 400
unfolding sum_to leap
years-length zero = refl
years-length (suc n) =
    let p = eqb (suc n % 100) 0 in
    let q = eqb (suc n % 400) 0 in
    let r = eqb (suc n % 4) 0 in
    ap (λ k. k + days_of_year (suc n)) (years-length n)
    ∙ ap (λ k. n * 365 + n / 4 - n / 100 + n / 400 + k) (year-length (suc n))
    ∙ counted n (n / 4) (n / 100) (n / 400) p q r (omega arith) (divides-4 (suc n)) (divides-100 (suc n))
    ∙ ap (λ k. suc n * 365 + k - (n / 100 + cond p 1 0) + (n / 400 + cond q 1 0)) (sym (one-multiple 4 n (omega arith)))
    ∙ ap (λ k. suc n * 365 + suc n / 4 - k + (n / 400 + cond q 1 0)) (sym (one-multiple 100 n (omega arith)))
    ∙ ap (λ k. suc n * 365 + suc n / 4 - suc n / 100 + k) (sym (one-multiple 400 n (omega arith)))

-- 400 years have 146097 days, and n years nearly their share
pub mean-high : (n : ℕ) → days_before_year (n + 1) * 400 ≤ n * 146097 + 396
unfolding days_before_year
mean-high n = let e : n + 1 - 1 ≡ n = omega arith in rw e (omega (arith, years-length n))

pub mean-low : (n : ℕ) → n * 146097 ≤ days_before_year (n + 1) * 400 + 699
unfolding days_before_year
mean-low n = let e : n + 1 - 1 ≡ n = omega arith in rw e (omega (arith, years-length n))

-- ---- months

abbrev short : List ℕ → Bool
short [] = true
short (n ∷ ns) = leb n 31 and short ns

within : (ns : List ℕ) → short ns ≡ true → (i : ℕ) → get_or ns i 0 ≤ 31
within [] h i = omega arith
within (n ∷ ns) h zero = let (p, _) = simp joined at h in leb-true n 31 p
within (n ∷ ns) h (suc i) = let (_, q) = simp joined at h in within ns q i

pub month-most : (y m : ℕ) → days_of_month y m ≤ 31
unfolding days_of_month lengths
month-most y m = by (leap y)
  where
    by : (t : Bool) → get_or (lengths t) (m - 1) 0 ≤ 31
    by true = within (lengths true) refl (m - 1)
    by false = within (lengths false) refl (m - 1)

-- and the months before one have at most 31 each
sum-most : (y k : ℕ) → sum_to (days_of_month y) k ≤ 31 * k
unfolding sum_to
sum-most y zero = omega arith
sum-most y (suc k) = omega (arith, sum-most y k, month-most y (suc k))

pub months-most : (y m : ℕ) → days_before_month y m ≤ 31 * (m - 1)
unfolding days_before_month
months-most y m = sum-most y (m - 1)

pub next-month : (y m : ℕ) → 1 ≤ m → days_before_month y m + days_of_month y m ≡ days_before_month y (m + 1)
unfolding days_before_month
next-month y m h =
    let e : m + 1 - 1 ≡ m = omega arith in
    rw e (term (days_of_month y) m h)

-- ---- the year and the month in which some days are over

pub year-is : (d k : ℕ) → k ≤ 9998 → days_before_year (k + 1) ≤ d → d < days_before_year (k + 2) → k + 1 ≡ year_of d
unfolding days_before_year year_of
year-is d k l h u =
    let e : k + 1 - 1 ≡ k = omega arith in
    let f : k + 2 - 1 ≡ suc k = omega arith in
    ap (λ i. i + 1) (sym (fitting-is days_of_year 9998 d k l (rw e at h) (rw f at u)))

pub month-is : (y d m : ℕ) → 1 ≤ m → m < 12 → days_before_month y m ≤ d → d < days_before_month y (m + 1) → m ≡ month_of y d
unfolding days_before_month month_of
month-is y d m l b h u =
    let e : m - 1 + 1 ≡ m = omega arith in
    let f : m + 1 - 1 ≡ suc (m - 1) = omega arith in
    sym (ap (λ i. i + 1) (fitting-is (days_of_month y) 11 d (m - 1) (omega arith) h (rw f at u)) ∙ e)

pub month-last : (y d : ℕ) → days_before_month y 12 ≤ d → 12 ≡ month_of y d
unfolding days_before_month month_of
month-last y d h = sym (ap (λ i. i + 1) (fitting-all (days_of_month y) 11 d h))
