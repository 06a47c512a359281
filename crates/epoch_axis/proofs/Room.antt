-- How large the sums are: each step that they are run moves S1 by one sample and S2 by one S1.
use mathlib.Core.Path.{◌≡◌, refl, subst}
use Prim.Native.Nat.{ℕ, zero, suc, ◌+◌, ◌*◌, ◌-◌, ◌^◌, ◌≤◌, ◌<◌}
use native.Mathlib.Nat.{not-suc-le-zero}
use native.Mathlib.Numerals.{unary_clauses}
use native.Mathlib.Omega.{arith}
use lib.IntN.{ℤ, nat_abs, ◌-ℤ◌}
use Rattle.exact.specs.Numerator.{numerator, Bounded}
use Rattle.exact.proofs.Laws.{numerator-exact_of}
use Rattle.exact.proofs.Bounds.{wider, sum-within, difference-within, moved-bounded, lowered-bounded}
use Rattle.axis.specs.Formulas.{ticks}
use Rattle.axis.proofs.Places.{less_one}
use Rattle.axis.proofs.Sums.{ticks-fit}
use Rattle.epoch_axis.specs.declared.Sums.{Sums}
use Rattle.epoch_axis.specs.Formulas.{next_sums, back_sums, run_on, run_back}

-- n steps after S1 was within h and S2 within k
pub record Room (h k n : ℕ) (s : Sums) : Type 0 where
  pub first : Bounded (h + n * 2 ^ 36) s.first
  pub before : Bounded (k + n * (h + 2 ^ 40)) s.before

pub at_first : (h k n : ℕ) {s : Sums} → Bounded h s.first → Bounded k s.before → Room h k n s
at_first h k n f b = record { first = wider _ _ _ f (omega arith); before = wider _ _ _ b (omega arith) }

one_more : (n m : ℕ) → suc n * m ≡ n * m + m
one_more n m = omega arith

module _ (h k n : ℕ) {s : Sums} (l : n ≤ 8) (r : Room h k n s) (a : ℤ) (small : nat_abs a ≤ 2 ^ 28) where
  pub next-room : Room h k (suc n) (next_sums s a)
  unfolding next_sums
  next-room =
      record {
        first = wider _ _ _ (moved-bounded _ (ticks a) r.first (ticks-fit a small)) (omega arith);
        before = wider _ _ _ (sum-within r.before r.first) (omega (arith, one_more n (h + 2 ^ 40)));
      }

  pub back-room : Room h k (suc n) (back_sums s a)
  unfolding back_sums
  back-room =
      let first = lowered-bounded _ (ticks a) r.first (ticks-fit a small) in
      record {
        first = wider _ _ _ first (omega arith);
        before = wider _ _ _ (rw (numerator-exact_of (numerator s.first -ℤ ticks a)) at (difference-within r.before first)) (omega (arith, one_more n (h + 2 ^ 40)));
      }

-- run on over small samples
pub run-on-room : (h k : ℕ) (a : ℕ → ℤ) → ((i : ℕ) → nat_abs (a i) ≤ 2 ^ 28) → (j n : ℕ) {s : Sums} → n + j ≤ 8 → Room h k n s → Room h k (n + j) (run_on a j s)
unfolding run_on
run-on-room h k a small zero n l r = simp unary_clauses r
run-on-room h k a small (suc j) n {s} l r =
    let e : suc n + j ≡ n + suc j = omega arith in
    subst (λ m. Room h k m (run_on a j (next_sums s (a j)))) e (run-on-room h k a small j (suc n) (omega arith) (next-room h k n (omega arith) r (a j) (small j)))

-- and back
pub run-back-room : (h k : ℕ) (a : ℕ → ℤ) → ((i : ℕ) → nat_abs (a i) ≤ 2 ^ 28) → (j : ℕ) {s : Sums} → j ≤ 8 → Room h k 0 s → Room h k j (run_back a j s)
unfolding run_back
run-back-room h k a small zero l r = r
run-back-room h k a small (suc j) l r = back-room h k j (omega arith) (run-back-room h k a small j (omega arith) r) (a j) (small j)

-- the first of the steps that are left
pub run-on-step : (a : ℕ → ℤ) (left : ℕ) (s : Sums) → 0 < left → run_on a left s ≡ run_on a (left - 1) (next_sums s (a (left - 1)))
unfolding run_on
run-on-step a zero s h = absurd (not-suc-le-zero h)
run-on-step a (suc j) s h = rw (less_one j) refl
