-- The tests of one coordinate of a record decide the statements: its sample places, values that are zero, and the remainders.
use mathlib.Core.Path.{◌≡◌, refl, ap}
use mathlib.Core.Bool.{true}
use mathlib.Core.List.{List, [], ◌∷◌}
use Prim.Native.Nat.{ℕ, zero, suc, ◌^◌, ◌≤◌, zero-le}
use native.Mathlib.Omega.{arith}
use borrow.Author.Tests.{leb-true, le-leb, lt-ltb}
use lib.IntN.{ℤ, pos, nat_abs}
use Rattle.integers.specs.Tests.{eqℤ, joined}
use Rattle.integers.proofs.Tests.{eqℤ-true}
use Rattle.integers.specs.Parts.{integers, nat_abs-parts, one-part}
use Rattle.integers.specs.Differences.{at}
use Rattle.exact.specs.declared.Exact.{Exact}
use Rattle.exact.specs.Numerator.{exact_of}
use Rattle.axis.specs.declared.Axis.{Axis}
use Rattle.axis.specs.declared.Motion.{Motion}
use Rattle.axis.specs.Formulas.{motion_of, still}
use Rattle.axis.specs.Holding.{remainders_hold, samples_small, empty_zero}
use Rattle.axis.proofs.Sound as A
use Rattle.demands.specs.Records.{SampleInRange, Zero, Remainders}

-- ---- the sample places of a coordinate

module _ (a : ℤ) where
  size-to : nat_abs a ≤ 2 ^ 28 → SampleInRange a
  size-to h = (omega (integers, nat_abs-parts a, one-part a), omega (integers, nat_abs-parts a, one-part a))

  pub size-from : SampleInRange a → nat_abs a ≤ 2 ^ 28
  size-from (l, u) = omega (integers, nat_abs-parts a, one-part a)

pub samples-to : (xs : List ℤ) → samples_small xs ≡ true → (i : ℕ) → SampleInRange (at xs i)
unfolding samples_small
samples-to [] t i = size-to (pos 0) zero-le
samples-to (x ∷ xs) t zero = let (h, _) = simp joined at t in size-to x (leb-true (nat_abs x) (2 ^ 28) h)
samples-to (x ∷ xs) t (suc i) = let (_, rest) = simp joined at t in samples-to xs rest i

pub samples-from : (xs : List ℤ) → ((i : ℕ) → SampleInRange (at xs i)) → samples_small xs ≡ true
unfolding samples_small
samples-from [] h = refl
samples-from (x ∷ xs) h = simp joined (le-leb (nat_abs x) (2 ^ 28) (size-from x (h 0)), samples-from xs (λ i. h (suc i)))

pub empty-to : (p : ℕ) (xs : List ℤ) → empty_zero p xs ≡ true → (i : ℕ) → p ≤ i → at xs i ≡ pos 0
unfolding empty_zero
empty-to p [] t i l = refl
empty-to zero (x ∷ xs) t zero l = let (h, _) = simp joined at t in eqℤ-true x (pos 0) h
empty-to zero (x ∷ xs) t (suc i) l = let (_, rest) = simp joined at t in empty-to zero xs rest i zero-le
empty-to (suc p) (x ∷ xs) t zero l = absurd (omega (arith, l))
empty-to (suc p) (x ∷ xs) t (suc i) l = empty-to p xs t i (omega (arith, l))

pub empty-from : (p : ℕ) (xs : List ℤ) → ((i : ℕ) → p ≤ i → at xs i ≡ pos 0) → empty_zero p xs ≡ true
unfolding empty_zero
empty-from p [] h = refl
empty-from zero (x ∷ xs) h = simp joined (ap (λ y. eqℤ y (pos 0)) (h 0 zero-le), empty-from zero xs (λ i l. h (suc i) zero-le))
empty-from (suc p) (x ∷ xs) h = empty-from p xs (λ i l. h (suc i) (omega (arith, l)))

-- ---- zero values

pub zero-to : {e : Exact} → e ≡ exact_of (pos 0) → Zero e
unfolding exact_of
zero-to h = (ap (λ e. e.whole) h, ap (λ e. e.part) h)

pub zero-from : {e : Exact} → Zero e → e ≡ exact_of (pos 0)
unfolding exact_of
zero-from (w, p) = λ i. record { whole = w i; part = p i }

pub still-to : {m : Motion} → m ≡ still → Zero m.position × Zero m.velocity
unfolding still motion_of
still-to h = (zero-to (ap (λ m. m.position) h), zero-to (ap (λ m. m.velocity) h))

pub still-from : {m : Motion} → Zero m.position × Zero m.velocity → m ≡ still
unfolding still motion_of
still-from (x, v) = λ i. record { position = zero-from x i; velocity = zero-from v i }

-- ---- remainders

pub remainders-to : (a : Axis) → remainders_hold a ≡ true → Remainders a
remainders-to a t = let r = A.remainders a t in record { first = r.first; second = r.second; position = r.position; velocity = r.velocity }

pub remainders-from : (a : Axis) → Remainders a → remainders_hold a ≡ true
unfolding remainders_hold
remainders-from a r = simp joined (lt-ltb _ _ r.first, (lt-ltb _ _ r.second, (lt-ltb _ _ r.position, lt-ltb _ _ r.velocity)))
