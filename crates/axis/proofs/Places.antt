-- The nine places of an axis: filled, looked at, and small where they hold.
use mathlib.Core.Path.{◌≡◌, refl, ap, ◌∙◌}
use mathlib.Core.Bool.{Bool, true, false}
use mathlib.Core.List.{List, [], ◌∷◌, ◌++◌}
use Prim.Native.Nat.{ℕ, zero, suc, ◌-◌, ◌^◌, ◌≤◌, ◌<◌}
use native.Mathlib.Nat.{not-suc-le-zero}
use native.Mathlib.Omega.{arith}
use borrow.Author.Tests.{lt-ltb, le-ltb, leb-true, le-leb, ltb-false}
use lib.Dec.{ltb}
use lib.IntN.{ℤ, pos, nat_abs}
use lib.ListN.{length, take, drop, set, replicate}
use lib.Seq.{drop-cons}
use Rattle.integers.specs.Tests.{◌and◌, eqℤ, joined, agree}
use Rattle.integers.proofs.Tests.{eqℤ-true}
use Rattle.integers.specs.Differences.{at}
use Rattle.coefficients.specs.Formulas.{Small, largest}
use Rattle.coefficients.proofs.Samples.{none, cons}
use Rattle.axis.specs.Formulas.{places}
use Rattle.axis.specs.Holding.{place_holds, places_hold, samples_small, empty_zero}

pub less_one : (n : ℕ) → suc n - 1 ≡ n
less_one n = omega arith

less_both : (n i : ℕ) → suc n - suc i ≡ n - i
less_both n i = omega arith

pub less_none : (n : ℕ) → n - 0 ≡ n
less_none n = omega arith

-- ---- filling

filled : (n i : ℕ) (ys : List ℤ) → i < n → i < length ys → set (take i ys ++ replicate (n - i) (pos 0)) i (at ys i) ≡ take (suc i) ys ++ replicate (n - suc i) (pos 0)
filled zero i ys h l = absurd (not-suc-le-zero h)
filled (suc n) i [] h l = absurd (not-suc-le-zero l)
filled (suc n) zero (y ∷ ys) h l = rw (less_one n, less_none (suc n)) refl
filled (suc n) (suc i) (y ∷ ys) h l = rw (less_both n i, less_both n (suc i)) (ap (λ (zs : List ℤ). y ∷ zs) (filled n i ys (omega arith) (omega arith)))

pub placed-next : (i : ℕ) (ys : List ℤ) → i < 9 → i < length ys → set (places i ys) i (at ys i) ≡ places (suc i) ys
placed-next i ys h l = filled 9 i ys h l

-- the place before, behind a new first one
pub at-behind : (x : ℤ) (xs : List ℤ) (i : ℕ) → 1 ≤ i → at (x ∷ xs) i ≡ at xs (i - 1)
at-behind x xs zero h = absurd (not-suc-le-zero h)
at-behind x xs (suc i) h = rw (less_one i) refl

-- ---- looking, place by place

first-place : (q : ℕ) (x : ℤ) (xs : List ℤ) → places_hold q (x ∷ xs) ≡ (place_holds (ltb 0 q) x and places_hold (q - 1) xs)
unfolding places_hold
first-place zero x xs = refl
first-place (suc q) x xs = rw (less_one q, lt-ltb 0 (suc q) (omega arith)) refl

used : (p i : ℕ) (t : Bool) → ltb i p ≡ t → ltb 0 (p - i) ≡ t
used p i true e = lt-ltb 0 (p - i) (omega (arith, leb-true (suc i) p e))
used p i false e = le-ltb 0 (p - i) (omega (arith, ltb-false i p e))

pub hold-next : (p i : ℕ) (xs : List ℤ) → i < length xs → places_hold (p - i) (drop i xs) ≡ (place_holds (ltb i p) (at xs i) and places_hold (p - suc i) (drop (suc i) xs))
hold-next p i xs l =
    ap (places_hold (p - i)) (drop-cons xs i (pos 0) l)
    ∙ first-place (p - i) (at xs i) (drop (suc i) xs)
    ∙ ap (λ b. place_holds b (at xs i) and places_hold (p - i - 1) (drop (suc i) xs)) (used p i (ltb i p) refl)
    ∙ ap (λ q. place_holds (ltb i p) (at xs i) and places_hold q (drop (suc i) xs)) (omega arith)

-- ---- what the code looks at is what the rules say: every place small, and those past the first p zero

module _ (x : ℤ) (xs : List ℤ) where
  small-parts : samples_small (x ∷ xs) ≡ true → (nat_abs x ≤ 2 ^ 28) × (samples_small xs ≡ true)
  unfolding samples_small
  small-parts t = let (a, b) = simp joined at t in (leb-true (nat_abs x) (2 ^ 28) a, b)

zero-small : (x : ℤ) → eqℤ x (pos 0) ≡ true → nat_abs x ≤ 2 ^ 28
zero-small x e = rw (eqℤ-true x (pos 0) e) (omega arith)

hold-rules : (p : ℕ) (xs : List ℤ) → places_hold p xs ≡ true → (samples_small xs and empty_zero p xs) ≡ true
unfolding places_hold samples_small empty_zero
hold-rules p [] t = refl
hold-rules zero (x ∷ xs) t =
    let (a, b) = simp joined at t in
    let (s, e) = simp joined at (hold-rules zero xs b) in
    simp joined ((le-leb (nat_abs x) (2 ^ 28) (zero-small x a), s), (a, e))
hold-rules (suc p) (x ∷ xs) t =
    let (a, b) = simp joined at t in
    let (s, e) = simp joined at (hold-rules p xs b) in
    simp joined ((a, s), e)

rules-hold : (p : ℕ) (xs : List ℤ) → (samples_small xs and empty_zero p xs) ≡ true → places_hold p xs ≡ true
unfolding places_hold samples_small empty_zero
rules-hold p [] t = refl
rules-hold zero (x ∷ xs) t = let ((s, ss), (e, es)) = simp joined at t in simp joined (e, rules-hold zero xs (simp joined (ss, es)))
rules-hold (suc p) (x ∷ xs) t = let ((s, ss), es) = simp joined at t in simp joined (s, rules-hold p xs (simp joined (ss, es)))

pub places-by-rules : (p : ℕ) (xs : List ℤ) → places_hold p xs ≡ (samples_small xs and empty_zero p xs)
places-by-rules p xs = agree (places_hold p xs) (samples_small xs and empty_zero p xs) (hold-rules p xs) (rules-hold p xs)

-- ---- places that hold are small, and those that are filled with small samples hold

all_small : (xs : List ℤ) → samples_small xs ≡ true → Small xs
all_small [] t = none
all_small (x ∷ xs) t = let (h, rest) = small-parts x xs t in cons h (all_small xs rest)

pub small-samples : (p : ℕ) (xs : List ℤ) → places_hold p xs ≡ true → Small xs
small-samples p xs t = let (s, e) = simp joined at (hold-rules p xs t) in all_small xs s

zeros-hold : (p n : ℕ) → places_hold p (replicate n (pos 0)) ≡ true
unfolding places_hold
zeros-hold p zero = refl
zeros-hold zero (suc n) = zeros-hold zero n
zeros-hold (suc p) (suc n) = zeros-hold p n

filled-holds : (p n : ℕ) (ys : List ℤ) → ((k : ℕ) → nat_abs (at ys k) ≤ largest) → places_hold p (take p ys ++ replicate n (pos 0)) ≡ true
unfolding places_hold
filled-holds zero n ys h = zeros-hold zero n
filled-holds (suc p) n [] h = zeros-hold (suc p) n
filled-holds (suc p) n (y ∷ ys) h = rw (le-leb (nat_abs y) (2 ^ 28) (h 0)) (filled-holds p n ys (λ k. h (suc k)))

pub places-hold : (p : ℕ) (ys : List ℤ) → Small ys → places_hold p (places p ys) ≡ true
places-hold p ys s = filled-holds p (9 - p) ys s.small

pub places-small : (p : ℕ) {ys : List ℤ} → Small ys → Small (places p ys)
places-small p {ys} s = small-samples p (places p ys) (places-hold p ys s)
