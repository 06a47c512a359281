-- The lists that the contracts cite are the two series, cut: what stands at k, over D, is the coefficient of x^k, for every p to 9 and every j.
use mathlib.Core.Path.{◌≡◌, refl, sym, ◌∙◌, ap, subst}
use mathlib.Core.Bool.{true}
use mathlib.Core.List.{List, [], ◌∷◌}
use Prim.Native.Nat.{ℕ, zero, suc, ◌+◌, ◌-◌, ◌≤◌, ◌<◌}
use native.Mathlib.Nat.{le_of_suc-le-suc, not-suc-le-zero, add-zero, add-suc, suc-add, sub-zero}
use native.Mathlib.Omega.{arith}
use lib.IntN.{ℤ, pos, neg_ℤ, ◌+ℤ◌, ◌-ℤ◌, +ℤ_idr, *ℤ_comm}
use lib.ListN.{length, take}
use Rattle.integers.specs.Ring.{one-*ℤ, minus-one-*ℤ}
use Rattle.integers.specs.Differences.{at}
use Rattle.exact.specs.Numerator.{D}
use Rattle.coefficients.specs.Fraction.{Fraction, ◌over◌, ◌⊕◌, ◌⊗◌, ◌≐◌, negate, times, times-exact}
use Rattle.coefficients.specs.Rules.{c, l, total}
use Rattle.coefficients.specs.Scaled.{all_whole, run, first, later}
use Rattle.coefficients.specs.Formulas.{weights_of, coefficient_of, first_index, position_corrector, velocity_corrector}
use Rattle.coefficients.specs.declared.Formula.{Formula}
use Rattle.coefficients.specs.declared.Formula.TheVariants.{PositionCorrector, VelocityCorrector}
use Rattle.coefficients.proofs.Written.{whole_of, weights-run}
use Rattle.coefficients.proofs.Rows.{length-weights}
use Rattle.epoch_coefficients.specs.Series.{Series, one, one_less_x, less, product, over_x, lessened, position_series, velocity_series}
use Rattle.epoch_coefficients.specs.Formulas.{less_before, cut, earlier_position, earlier_velocity}
use Rattle.epoch_coefficients.proofs.Rows.{length-less, length_cut}
use Rattle.epoch_coefficients.proofs.Times.{Times, sum, scaled, none}

-- ---- times 1 - x

module _ {d : ℕ} where
  nothing-more : {q r : Fraction} {u : ℤ} → Times d q u → Times d r (pos 0) → Times d (q ⊕ r) u
  nothing-more {q} {r} {u} e f = subst (Times d (q ⊕ r)) (+ℤ_idr u) (sum e f)

  -- a total of which only the first two terms are not 0
  two-terms : (f : Series) {u v : ℤ} → Times d (f 0) u → Times d (f 1) v → ((i : ℕ) → Times d (f (suc (suc i))) (pos 0)) → (m : ℕ) → Times d (total f (suc m)) (u +ℤ v)
  unfolding total
  two-terms f a b z zero = sum a b
  two-terms f a b z (suc m) = nothing-more (two-terms f a b z m) (z m)

  -- (1-x) f has f(0) at 0, and f(k+1) - f(k) at k + 1
  product-0 : (f : Series) {u : ℤ} → Times d (f 0) u → Times d (product one_less_x f 0) u
  unfolding total
  product-0 f {u} a = subst (Times d (product one_less_x f 0)) (one-*ℤ u) (scaled (pos 1) a)

  product-suc : (f : Series) (k : ℕ) {u v : ℤ} → Times d (f (suc k)) u → Times d (f k) v → Times d (product one_less_x f (suc k)) (u -ℤ v)
  product-suc f k {u} {v} a b =
      two-terms (λ i. one_less_x i ⊗ f (suc k - i))
      (subst (λ q. Times d (pos 1 over 1 ⊗ q) u) (ap f (sym (sub-zero (suc k)))) (subst (Times d (pos 1 over 1 ⊗ f (suc k))) (one-*ℤ u) (scaled (pos 1) a)))
      (subst (λ q. Times d (negate (pos 1 over 1) ⊗ q) (neg_ℤ v)) (ap f before) (subst (Times d (negate (pos 1 over 1) ⊗ f k)) (minus-one-*ℤ v) (scaled (neg_ℤ (pos 1)) b)))
      (λ i. none (f (suc k - suc (suc i))))
      k
    where
      before : k ≡ suc k - 1
      before = omega arith

-- ---- the list loses in the same way

less-first : (b : ℤ) (ws : List ℤ) → 0 < length ws → at (less_before b ws) 0 ≡ at ws 0 -ℤ b
unfolding less_before
less-first b [] h = absurd (not-suc-le-zero h)
less-first b (w ∷ ws) h = refl

less-next : (b : ℤ) (ws : List ℤ) (k : ℕ) → suc k < length ws → at (less_before b ws) (suc k) ≡ at ws (suc k) -ℤ at ws k
unfolding less_before
less-next b [] k h = absurd (not-suc-le-zero h)
less-next b (w ∷ ws) zero h = less-first w ws (le_of_suc-le-suc h)
less-next b (w ∷ ws) (suc k) h = less-next w ws k (le_of_suc-le-suc h)

-- the list has D times the first coefficients of the series
abbrev pub Cut : Series → List ℤ → Type 0
Cut f ws = (k : ℕ) → k < length ws → Times D (f k) (at ws k)

once : (f : Series) (ws : List ℤ) → Cut f ws → Cut (product one_less_x f) (less_before (pos 0) ws)
once f ws h zero l =
    let some : 0 < length ws = omega (arith, l, length-less (pos 0) ws) in
    subst (Times D (product one_less_x f 0)) (sym (less-first (pos 0) ws some ∙ +ℤ_idr (at ws 0))) (product-0 f (h 0 some))
once f ws h (suc k) l =
    let more : suc k < length ws = omega (arith, l, length-less (pos 0) ws) in
    subst (Times D (product one_less_x f (suc k))) (sym (less-next (pos 0) ws k more)) (product-suc f k (h (suc k) more) (h k (omega arith)))

-- THE law: for every series, every list that begins it, and every j
pub cut-law : (f : Series) (ws : List ℤ) → Cut f ws → (j : ℕ) → Cut (lessened j f) (cut j ws)
unfolding lessened cut
cut-law f ws h zero = h
cut-law f ws h (suc j) = once (lessened j f) (cut j ws) (cut-law f ws h j)

-- ---- the corrector's weights begin the series of its coefficients

run_at : (f : Series) (i p n : ℕ) (w : all_whole f i n ≡ true) → p ≤ n → (k : ℕ) → k < p → Times D (f (i + k)) (at (take p (run f i n w)) k)
unfolding run
run_at f i zero n w h k l = absurd (not-suc-le-zero l)
run_at f i (suc p) zero w h k l = absurd (not-suc-le-zero h)
run_at f i (suc p) (suc n) w h zero l =
    subst (λ m. Times D (f m) (times D (f i) (first f i n w))) (sym (add-zero i)) (record { across = times-exact D (f i) (first f i n w) ∙ *ℤ_comm (pos D) (f i).top })
run_at f i (suc p) (suc n) w h (suc k) l =
    subst (λ m. Times D (f m) (at (take p (run f (suc i) n (later f i n w))) k)) (suc-add i k ∙ sym (add-suc i k))
    (run_at f (suc i) p n (later f i n w) (le_of_suc-le-suc h) k (le_of_suc-le-suc l))

module _ (f : Formula) (p : ℕ) (h : p ≤ 9) where
  weights-cut : (k : ℕ) → k < length (weights_of f p) → Times D (coefficient_of f (first_index f + k)) (at (weights_of f p) k)
  weights-cut k l =
      subst (λ ws. Times D (coefficient_of f (first_index f + k)) (at ws k)) (sym (weights-run f p))
      (run_at (coefficient_of f) (first_index f) p 9 (whole_of f) h k (omega (arith, l, length-weights f p h)))

  -- k < p is within the list
  within : (j k : ℕ) → k < p → k < length (cut j (weights_of f p))
  within j k l = omega (arith, l, length_cut j (weights_of f p), length-weights f p h)

-- what is taken away before the divisions by x has no term as far as these
nothing-off : (q : Fraction) {u : ℤ} → Times D q u → Times D (q ⊕ negate (pos 0 over 1)) u
nothing-off q e = nothing-more {q = q} {r = negate (pos 0 over 1)} e (record { across = refl })

module _ (p : ℕ) (h : p ≤ 9) where
  position-base : Cut (over_x (over_x (less (product c c) one_less_x))) (weights_of PositionCorrector p)
  unfolding l
  position-base k b = nothing-off (l (suc (suc k))) (subst (λ i. Times D (l i) (at (weights_of PositionCorrector p) k)) (omega arith) (weights-cut PositionCorrector p h k b))

  velocity-base : Cut (over_x (less c one)) (weights_of VelocityCorrector p)
  velocity-base k b = nothing-off (c (suc k)) (subst (λ i. Times D (c i) (at (weights_of VelocityCorrector p) k)) (omega arith) (weights-cut VelocityCorrector p h k b))

  module _ (j k : ℕ) (b : k < p) where
    pub position-times : Times D (position_series j k) (at (earlier_position j p) k)
    unfolding position_series earlier_position
    position-times = cut-law (over_x (over_x (less (product c c) one_less_x))) (weights_of PositionCorrector p) position-base j k (within PositionCorrector p h j k b)

    pub velocity-times : Times D (velocity_series j k) (at (earlier_velocity j p) k)
    unfolding velocity_series earlier_velocity
    velocity-times = cut-law (over_x (less c one)) (weights_of VelocityCorrector p) velocity-base j k (within VelocityCorrector p h j k b)

    pub position-cut : at (earlier_position j p) k over D ≐ position_series j k
    position-cut = position-times.across

    pub velocity-cut : at (earlier_velocity j p) k over D ≐ velocity_series j k
    velocity-cut = velocity-times.across

-- ---- at the newest point they are the corrector's

pub position-newest : (p : ℕ) → earlier_position 0 p ≡ position_corrector p
unfolding earlier_position cut
position-newest p = refl

pub velocity-newest : (p : ℕ) → earlier_velocity 0 p ≡ velocity_corrector p
unfolding earlier_velocity cut
velocity-newest p = refl
