-- Reading so many digits, one byte at a time.
use Rattle.std.specs.Prelude.{Option, Some, None}
use mathlib.Core.Path.{◌≡◌, refl, ap}
use mathlib.Core.Bool.{Bool, true, false, cond}
use mathlib.Core.List.{List, [], ◌∷◌}
use Prim.Native.Nat.{ℕ, zero, suc, ◌+◌, ◌-◌, ◌*◌, ◌^◌, ◌<◌, ◌≤◌}
use native.Mathlib.Numerals.{add-one}
use native.Mathlib.Omega.{arith}
use lib.Dec.{ltb}
use lib.ListN.{length, take, drop, get_or}
use lib.Seq.{drop-cons}
use borrow.Author.Tests.{lt-ltb, le-ltb}
use Rattle.integers.specs.Tests.{◌and◌}
use Rattle.text.specs.Reading.{is_digit}
use Rattle.decimal.specs.Reading.{more_digits}

-- ---- all the digits: too few bytes, and none but theirs

either_way : (t : Bool) (u : Option (ℕ × ℕ)) → u ≡ None → cond t u None ≡ None
either_way true u e = e
either_way false u e = refl

pub too_few : (count : ℕ) (text : List ℕ) (n at : ℕ) → length text < count → more_digits count text n at ≡ None
unfolding more_digits
too_few zero text n at h = absurd (omega arith)
too_few (suc k) [] n at h = refl
too_few (suc k) (b ∷ text) n at h = either_way (is_digit b and ltb n (10 ^ 18)) _ (too_few k text (n * 10 + (b - 48)) (at + 1) (omega arith))

same_digit : (t : Bool) (u v : Option (ℕ × ℕ)) → u ≡ v → cond t u None ≡ cond t v None
same_digit t u v e = ap (λ o. cond t o None) e

pub front : (count : ℕ) (text : List ℕ) (n at : ℕ) → more_digits count (take count text) n at ≡ more_digits count text n at
unfolding more_digits
front zero text n at = refl
front (suc k) [] n at = refl
front (suc k) (b ∷ text) n at = same_digit (is_digit b and ltb n (10 ^ 18)) _ _ (front k text (n * 10 + (b - 48)) (at + 1))

-- ---- a number n so far, the bytes of a text from the k-th on, and so many digits left to read

pub all_read : (text : List ℕ) (left n at : ℕ) → left ≡ 0 → more_digits left text n at ≡ Some (n, at)
unfolding more_digits
all_read text left n at e = rw e

module _ (text : List ℕ) (k n at left : ℕ) (h : k < length text) (p : 0 < left) where
  pub no_digit : is_digit (get_or text k 0) ≡ false → more_digits left (drop k text) n at ≡ None
  unfolding more_digits
  no_digit d =
      let e : left ≡ suc (left - 1) = omega arith in
      rw (e, drop-cons text k 0 h, d)

  module _ (d : is_digit (get_or text k 0) ≡ true) where
    pub too_long : 10 ^ 18 ≤ n → more_digits left (drop k text) n at ≡ None
    unfolding more_digits
    too_long f =
        let e : left ≡ suc (left - 1) = omega arith in
        rw (e, drop-cons text k 0 h, d, le-ltb n (10 ^ 18) f)

    pub goes_on : n < 10 ^ 18 → more_digits left (drop k text) n at ≡ more_digits (left - 1) (drop (k + 1) text) (n * 10 + (get_or text k 0 - 48)) (at + 1)
    unfolding more_digits
    goes_on f =
        let e : left ≡ suc (left - 1) = omega arith in
        let g : suc (left - 1) - 1 ≡ left - 1 = omega arith in
        rw (e, g, drop-cons text k 0 h, d, lt-ltb n (10 ^ 18) f, add-one k)
