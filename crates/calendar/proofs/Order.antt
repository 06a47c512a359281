-- Real moments are in the order of their seconds, and those with the same seconds are the same.
use Rattle.std.specs.Prelude.{◌≡◌, refl, Bool, true, false, List, [], ◌∷◌, ◌↔◌, ◌⊎◌, ltb, length, get_or}
use Rattle.std.proofs.Common.{sym, ap, ◌∙◌, inl, inr, ltb-true, ltb-false}
use Prim.Native.Nat.{ℕ, suc, ◌+◌, ◌-◌, ◌≤◌, ◌<◌}
use native.Mathlib.Omega.{arith}
use Rattle.calendar.specs.declared.Moment.{Moment}
use Rattle.calendar.specs.Calendar.{days_of_month, sum_to, days_of_year, days_before_year, days_before_month, Within, Real, days_of, seconds_of}
use Rattle.calendar.specs.Calendar.{Before, here, next, fields, Earlier}
use Rattle.calendar.proofs.Sums.{earlier}

-- ---- dates

module _ (y m d : ℕ) (month : Within 1 12 m) (day : Within 1 (days_of_month y m) d) where
  -- a date is before the days of a later month of its year
  by-month : (k : ℕ) → m ≤ k → days_before_month y m + (d - 1) < sum_to (days_of_month y) k
  unfolding days_before_month
  by-month k h =
      let e : suc (m - 1) ≡ m = omega arith in
      earlier (days_of_month y) (m - 1) k (d - 1) (omega arith) (rw e (omega arith))

  -- and so before the end of its year
  in-year : days_before_month y m + (d - 1) < days_of_year y
  unfolding days_of_year
  in-year = by-month 12 month.1

  -- and before the days of a later year
  pub by-year : (k : ℕ) → 1 ≤ y → y ≤ k → days_of y m d < sum_to days_of_year k
  unfolding days_of days_before_year
  by-year k l h =
      let e : suc (y - 1) ≡ y = omega arith in
      omega (arith, earlier days_of_year (y - 1) k (days_before_month y m + (d - 1)) (omega arith) (rw e in-year))

-- ---- the same order

abbrev days : Moment → ℕ
days m = days_of m.year m.month m.day

-- the days of two moments, by the first of year, month and day in which they differ
earlier-year : {a b : Moment} → Real a → Real b → a.year < b.year → days a < days b
unfolding days_of days_before_year
earlier-year {a} {b} r s h = omega (arith, by-year a.year a.month a.day r.month r.day (b.year - 1) r.year.0 (omega arith))

earlier-month : {a b : Moment} → Real a → Real b → a.year ≡ b.year → a.month < b.month → days a < days b
unfolding days_of days_before_month
earlier-month {a} {b} r s e h =
    let same = ap (λ y. days_of y b.month b.day) e in
    omega (arith, same, by-month a.year a.month a.day r.month r.day (b.month - 1) (omega arith))

earlier-day : {a b : Moment} → Real a → Real b → a.year ≡ b.year → a.month ≡ b.month → a.day < b.day → days a < days b
unfolding days_of
earlier-day {a} {b} r s e f h =
    let same = ap (λ y. days_of y b.month b.day) e in
    let alike = ap (λ m. days_of a.year m b.day) f in
    omega (arith, same, alike)

same-day : (a b : Moment) → a.year ≡ b.year → a.month ≡ b.month → a.day ≡ b.day → days a ≡ days b
same-day a b e f g = ap (λ y. days_of y a.month a.day) e ∙ ap (λ m. days_of b.year m a.day) f ∙ ap (days_of b.year b.month) g

earlier-fewer : {a b : Moment} → Real a → Real b → Earlier a b → seconds_of a < seconds_of b
unfolding seconds_of
earlier-fewer r s (here h) = omega (arith, earlier-year r s h)
earlier-fewer r s (next e (here h)) = omega (arith, earlier-month r s e h)
earlier-fewer r s (next e (next f (here h))) = omega (arith, earlier-day r s e f h)
earlier-fewer {a} {b} r s (next e (next f (next g (here h)))) = omega (arith, same-day a b e f g)
earlier-fewer {a} {b} r s (next e (next f (next g (next i (here h))))) = omega (arith, same-day a b e f g)
earlier-fewer {a} {b} r s (next e (next f (next g (next i (next j (here h)))))) = omega (arith, same-day a b e f g)
earlier-fewer r s (next e (next f (next g (next i (next j (next _ none)))))) = elim none [ ]

-- of two lists of one length, one is before the other, or they are the same
abbrev Compared : List ℕ → List ℕ → Type 0
Compared xs ys = Before xs ys ⊎ ((xs ≡ ys) ⊎ Before ys xs)

compare : (xs ys : List ℕ) → length xs ≡ length ys → Compared xs ys
compare [] [] e = inr (inl refl)
compare [] (y ∷ ys) e = absurd (omega arith)
compare (x ∷ xs) [] e = absurd (omega arith)
compare (x ∷ xs) (y ∷ ys) e = by (ltb x y) (ltb y x) refl refl (compare xs ys (omega arith))
  where
    rest : x ≡ y → Compared xs ys → Compared (x ∷ xs) (y ∷ ys)
    rest e (inl b) = inl (next e b)
    rest e (inr (inl f)) = inr (inl (cc))
    rest e (inr (inr b)) = inr (inr (next (sym e) b))

    by : (s t : Bool) → ltb x y ≡ s → ltb y x ≡ t → Compared xs ys → Compared (x ∷ xs) (y ∷ ys)
    by true t p q c = inl (here (ltb-true x y p))
    by false true p q c = inr (inr (here (ltb-true y x q)))
    by false false p q c =
        let e : x ≡ y = omega (arith, ltb-false x y p, ltb-false y x q) in
        rest e c

same-fields : (a b : Moment) → fields a ≡ fields b → a ≡ b
same-fields a b e =
    λ i. record {
      year = get_or (e i) 0 0;
      month = get_or (e i) 1 0;
      day = get_or (e i) 2 0;
      hour = get_or (e i) 3 0;
      minute = get_or (e i) 4 0;
      second = get_or (e i) 5 0;
    }

fewer-earlier : (a b : Moment) → Real a → Real b → seconds_of a < seconds_of b → Earlier a b
fewer-earlier a b r s h = by (compare (fields a) (fields b) refl)
  where
    by : Compared (fields a) (fields b) → Earlier a b
    by (inl e) = e
    by (inr (inl e)) = absurd (omega (arith, ap seconds_of (same-fields a b e)))
    by (inr (inr e)) = absurd (omega (arith, earlier-fewer s r e))

-- of two real moments one is earlier just where it has fewer seconds
pub same-order : (a b : Moment) → Real a → Real b → Earlier a b ↔ (seconds_of a < seconds_of b)
same-order a b r s = (earlier-fewer r s, fewer-earlier a b r s)

-- real moments with the same seconds are the same
pub one-to-one : (a b : Moment) → Real a → Real b → seconds_of a ≡ seconds_of b → a ≡ b
one-to-one a b r s h = by (compare (fields a) (fields b) refl)
  where
    by : Compared (fields a) (fields b) → a ≡ b
    by (inl e) = absurd (omega (arith, earlier-fewer r s e))
    by (inr (inl e)) = same-fields a b e
    by (inr (inr e)) = absurd (omega (arith, earlier-fewer s r e))
