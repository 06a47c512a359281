-- D times the coefficients, where D makes all of them whole. That it does is computed in `proofs/Scaled`.
use Rattle.std.specs.Prelude.{ℕ, zero, suc, ◌≡◌, refl, Bool, true, false, List, [], ◌∷◌, ℤ, pos}
use Rattle.std.proofs.Math.Bool.{and-eq-true_iff}
use Rattle.integers.specs.Tests.{◌and◌}
use Rattle.exact.specs.Numerator.{D}
use Rattle.coefficients.specs.Fraction.{Fraction, is_whole, times}

-- D f(i), .., D f(i+n-1) are whole
abbrev pub all_whole : (ℕ → Fraction) → ℕ → ℕ → Bool
all_whole f i zero = true
all_whole f i (suc n) = is_whole D (f i) and all_whole f (suc i) n

module _ (f : ℕ → Fraction) (i n : ℕ) (w : all_whole f i (suc n) ≡ true) where
  -- the first of them, and those after it
  pub first : is_whole D (f i) ≡ true
  first = ((and-eq-true_iff (is_whole D (f i)) (all_whole f (suc i) n)).0 w).0

  pub later : all_whole f (suc i) n ≡ true
  later = ((and-eq-true_iff (is_whole D (f i)) (all_whole f (suc i) n)).0 w).1

-- D f(i), .., D f(i+n-1)
unfoldable pub run : (f : ℕ → Fraction) (i n : ℕ) → all_whole f i n ≡ true → List ℤ
run f i zero w = []
run f i (suc n) w = times D (f i) (first f i n w) ∷ run f (suc i) n (later f i n w)

-- the same with the proof found where there is one, and 0 where D does not make a coefficient whole
abbrev pub times_by : (d : ℕ) (q : Fraction) (b : Bool) → is_whole d q ≡ b → ℤ
times_by d q true w = times d q w
times_by d q false w = pos 0

abbrev pub whole_times : ℕ → Fraction → ℤ
whole_times d q = times_by d q (is_whole d q) refl

unfoldable pub whole_run : (ℕ → Fraction) → ℕ → ℕ → List ℤ
whole_run f i zero = []
whole_run f i (suc n) = whole_times D (f i) ∷ whole_run f (suc i) n
