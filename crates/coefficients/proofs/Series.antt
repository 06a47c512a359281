-- A formula's sum over D is the series of the rules' coefficients, in fractions: for every sequence of coefficients that D makes whole, and so for each formula and each p.
use mathlib.Core.Path.{◌≡◌, refl, sym, ◌∙◌, ap}
use Prim.Native.Nat.{ℕ, zero, suc, ◌+◌, ◌*◌, ◌≤◌}
use native.Mathlib.Nat.{le_of_suc-le-suc, not-suc-le-zero, mul-one}
use native.Mathlib.Omega.{arith}
use mathlib.Core.List.{◌∷◌}
use mathlib.Core.Bool.{true, and-eq-true_iff}
use lib.IntN.{ℤ, pos, ◌+ℤ◌, ◌*ℤ◌}
use lib.ListN.{take}
use Rattle.integers.specs.Solver.{atom, terms, ring}
use Rattle.integers.specs.Differences.{back, by_differences}
use Rattle.exact.specs.Numerator.{D}
use Rattle.coefficients.specs.Fraction.{Fraction, denominator, ◌over◌, ◌⊕◌, ◌⊗◌, ◌≐◌, is_whole, times, times-exact}
use Rattle.coefficients.specs.Rules.{c, l}
use Rattle.coefficients.specs.Scaled.{all_whole, run, first, later}
use Rattle.coefficients.proofs.FromFirst.{unsummed_cowell-run, adams_moulton-run}
use Rattle.coefficients.proofs.Scaled.{c-whole, l-whole}
use Rattle.coefficients.specs.Formulas.{series, weights_of, coefficient_of, first_index, unsummed_cowell, adams_moulton}
use Rattle.coefficients.specs.declared.Formula.{Formula}
use Rattle.coefficients.proofs.Fractions.{below-line}
use Rattle.coefficients.proofs.Written.{whole_of, weights-run}

-- one term in front: t/d = q/m and u/d = r/n, so (t x + u)/d = (q x)/m + r/n
term : (t x u q r m n d : ℤ) → t *ℤ m ≡ d *ℤ q → u *ℤ n ≡ r *ℤ d → (t *ℤ x +ℤ u) *ℤ (m *ℤ n) ≡ (q *ℤ x *ℤ n +ℤ r *ℤ m) *ℤ d
term t x u q r m n d e f = apart t x u m n ∙ (λ i. e i *ℤ (x *ℤ n) +ℤ f i *ℤ m) ∙ together x q r m n d
  where
    apart : (t x u m n : ℤ) → (t *ℤ x +ℤ u) *ℤ (m *ℤ n) ≡ t *ℤ m *ℤ (x *ℤ n) +ℤ u *ℤ n *ℤ m
    apart t x u m n = rw (atom 0 t, atom 1 x, atom 2 u, atom 3 m, atom 4 n) (simp terms (ring _ _ refl))

    together : (x q r m n d : ℤ) → d *ℤ q *ℤ (x *ℤ n) +ℤ r *ℤ d *ℤ m ≡ (q *ℤ x *ℤ n +ℤ r *ℤ m) *ℤ d
    together x q r m n d = rw (atom 0 x, atom 1 q, atom 2 r, atom 3 m, atom 4 n, atom 5 d) (simp terms (ring _ _ refl))

-- the same with what stands below the line of the sum
added : (d : ℕ) (t x u : ℤ) (q r : Fraction) → t *ℤ pos (denominator q) ≡ pos d *ℤ q.top → u *ℤ pos (denominator r) ≡ r.top *ℤ pos d →
    (t *ℤ x +ℤ u) *ℤ pos (denominator (q ⊗ x over 1 ⊕ r)) ≡ (q ⊗ x over 1 ⊕ r).top *ℤ pos d
added d t x u q r e f =
    let once : denominator (q ⊗ x over 1) ≡ denominator q = below-line q.less 0 ∙ mul-one (denominator q) in
    ap (λ n. (t *ℤ x +ℤ u) *ℤ pos n) (below-line (q ⊗ x over 1).less r.less ∙ ap (λ n. n * denominator r) once)
    ∙ term t x u q.top r.top (pos (denominator q)) (pos (denominator r)) (pos d) e f
    ∙ sym (ap (λ n. (q.top *ℤ x *ℤ pos (denominator r) +ℤ r.top *ℤ pos n) *ℤ pos d) once)

-- THE law: for every f, i, n and samples
pub run-series : (f : ℕ → Fraction) (i n : ℕ) (w : all_whole f i n ≡ true) (x : ℕ → ℤ) → by_differences (run f i n w) x over D ≐ series f i n x
unfolding by_differences run series
run-series f i zero w x = refl
run-series f i (suc n) w x =
    added D (times D (f i) (first f i n w)) (x 0) (by_differences (run f (suc i) n (later f i n w)) (back x)) (f i) (series f (suc i) n (back x))
    (times-exact D (f i) (first f i n w)) (run-series f (suc i) n (later f i n w) (back x))

-- ---- the first p of n

fewer : (f : ℕ → Fraction) (i p n : ℕ) → p ≤ n → all_whole f i n ≡ true → all_whole f i p ≡ true
fewer f i zero n h w = refl
fewer f i (suc p) zero h w = absurd (not-suc-le-zero h)
fewer f i (suc p) (suc n) h w = (and-eq-true_iff (is_whole D (f i)) (all_whole f (suc i) p)).1 (first f i n w, fewer f (suc i) p n (le_of_suc-le-suc h) (later f i n w))

take-run : (f : ℕ → Fraction) (i p n : ℕ) → p ≤ n → (w : all_whole f i n ≡ true) (v : all_whole f i p ≡ true) → take p (run f i n w) ≡ run f i p v
unfolding run times
take-run f i zero n h w v = refl
take-run f i (suc p) zero h w v = absurd (not-suc-le-zero h)
take-run f i (suc p) (suc n) h w v = ap (λ ts. times D (f i) (first f i n w) ∷ ts) (take-run f (suc i) p n (le_of_suc-le-suc h) (later f i n w) (later f i p v))

pub first-series : (f : ℕ → Fraction) (i p n : ℕ) → p ≤ n → (w : all_whole f i n ≡ true) (x : ℕ → ℤ) → by_differences (take p (run f i n w)) x over D ≐ series f i p x
first-series f i p n h w x =
    let v = fewer f i p n h w in
    rw (take-run f i p n h w v) (run-series f i p v x)

-- ---- each formula

pub formula-series : (f : Formula) (p : ℕ) → p ≤ 9 → (x : ℕ → ℤ) → by_differences (weights_of f p) x over D ≐ series (coefficient_of f) (first_index f) p x
formula-series f p h x = rw (weights-run f p) (first-series (coefficient_of f) (first_index f) p 9 h (whole_of f) x)

pub cowell-series : (p : ℕ) → p ≤ 9 → (x : ℕ → ℤ) → by_differences (unsummed_cowell p) x over D ≐ series l 0 (p + 2) x
cowell-series p h x = rw (unsummed_cowell-run p) (first-series l 0 (p + 2) 11 (omega arith) l-whole x)

pub adams-series : (p : ℕ) → p ≤ 9 → (x : ℕ → ℤ) → by_differences (adams_moulton p) x over D ≐ series c 0 (p + 1) x
adams-series p h x = rw (adams_moulton-run p) (first-series c 0 (p + 1) 10 (omega arith) c-whole x)
