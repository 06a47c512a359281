-- Reading 16 hexadecimal digits, one byte at a time.
use Rattle.std.specs.Prelude.{Option, Some, None}
use mathlib.Core.Path.{◌≡◌, refl, ap}
use mathlib.Core.Bool.{Bool, true, false, cond}
use mathlib.Core.List.{List, [], ◌∷◌}
use Prim.Native.Nat.{ℕ, zero, suc, ◌+◌, ◌-◌, ◌*◌, ◌^◌, ◌<◌, ◌≤◌}
use native.Mathlib.Nat.{pow-suc, pow-le-pow_right}
use native.Mathlib.Numerals.{add-one}
use native.Mathlib.Omega.{arith}
use lib.Dec.{ltb}
use lib.ListN.{length, take, drop, get_or, length-drop}
use lib.Seq.{drop-cons}
use borrow.Author.Tests.{lt-ltb, le-ltb}
use Rattle.text.specs.Reading.{hex_digit_of, hex_going_on, hex_at}

-- ---- too few bytes

either_way : (t : Bool) (u : Option (ℕ × ℕ)) → u ≡ None → cond t u None ≡ None
either_way true u e = e
either_way false u e = refl

too_few : (k : ℕ) (text : List ℕ) (n at : ℕ) → length text < k → hex_going_on k text n at ≡ None
unfolding hex_going_on
too_few zero text n at h = absurd (omega arith)
too_few (suc k) [] n at h = refl
too_few (suc k) (b ∷ text) n at h = either_way (ltb (hex_digit_of b) 16) _ (too_few k text (n * 16 + hex_digit_of b) (at + 1) (omega arith))

-- the digits alone
same_digit : (t : Bool) (u v : Option (ℕ × ℕ)) → u ≡ v → cond t u None ≡ cond t v None
same_digit t u v e = ap (λ o. cond t o None) e

front : (k : ℕ) (text : List ℕ) (n at : ℕ) → hex_going_on k (take k text) n at ≡ hex_going_on k text n at
unfolding hex_going_on
front zero text n at = refl
front (suc k) [] n at = refl
front (suc k) (b ∷ text) n at = same_digit (ltb (hex_digit_of b) 16) _ _ (front k text (n * 16 + hex_digit_of b) (at + 1))

pub sixteen : (s : List ℕ) (at : ℕ) → hex_going_on 16 (take 16 (drop at s)) 0 at ≡ hex_at s at
unfolding hex_at
sixteen s at = front 16 (drop at s) 0 at

pub short : (s : List ℕ) (at : ℕ) → length s < at + 16 → hex_at s at ≡ None
unfolding hex_at
short s at h = too_few 16 (drop at s) 0 at (omega (arith, length-drop at s))

-- ---- k digits of a text were read, which stands at a place

module _ (text : List ℕ) (at k n : ℕ) (h : k < 16) (l : k < length text) where
  pub no_digit : (hex_digit_of (get_or text k 0) < 16 → ⊥) → hex_going_on (16 - k) (drop k text) n (at + k) ≡ None
  unfolding hex_going_on
  no_digit e =
      let m : 16 - k ≡ suc (15 - k) = omega arith in
      rw (m, drop-cons text k 0 l, le-ltb (hex_digit_of (get_or text k 0)) 16 (omega (arith, e)))

  pub a-digit : hex_digit_of (get_or text k 0) < 16
      → hex_going_on (16 - k) (drop k text) n (at + k) ≡ hex_going_on (16 - (k + 1)) (drop (k + 1) text) (n * 16 + hex_digit_of (get_or text k 0)) (at + (k + 1))
  unfolding hex_going_on
  a-digit d =
      let m : 16 - k ≡ suc (15 - k) = omega arith in
      let m' : 16 - (k + 1) ≡ 15 - k = omega arith in
      let p : at + (k + 1) ≡ at + k + 1 = omega arith in
      rw (m, m', p, drop-cons text k 0 l, lt-ltb (hex_digit_of (get_or text k 0)) 16 d, add-one k)

pub all_read : (text : List ℕ) (k n at : ℕ) → k ≡ 16 → hex_going_on (16 - k) text n at ≡ Some (n, at)
unfolding hex_going_on
all_read text k n at e = rw e

pub wider : (k n d : ℕ) → n < 16 ^ k → d < 16 → n * 16 + d < 16 ^ (k + 1)
wider k n d h l = rw (add-one k) (omega (arith, pow-suc 16 k))

pub within : (k n : ℕ) → k < 16 → n < 16 ^ (k + 1) → n < 2 ^ 64
within k n h l =
    let m : k + 1 ≤ 16 = omega arith in
    omega (arith, pow-le-pow_right {n = 16} (omega arith) m)
