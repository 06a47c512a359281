-- Reading decimal digits, one byte at a time.
use Rattle.std.specs.Prelude.{Some, None, true, false}
use mathlib.Core.Path.{◌≡◌}
use mathlib.Core.List.{List}
use Prim.Native.Nat.{ℕ, ◌+◌, ◌-◌, ◌*◌, ◌^◌, ◌<◌, ◌≤◌}
use native.Mathlib.Numerals.{add-one}
use lib.ListN.{length, drop, get_or, drop_of_length-le}
use lib.Seq.{drop-cons}
use borrow.Author.Tests.{lt-ltb, le-ltb, ne_eqb}
use Rattle.text.specs.Reading.{is_digit, going_on, decimal_in, decimal_at}

-- ---- a number so far, and the bytes from place i on

pub ends : (s : List ℕ) (i n : ℕ) → length s ≤ i → going_on (drop i s) n i ≡ Some (n, i)
unfolding going_on
ends s i n h = rw (drop_of_length-le s h)

module _ (s : List ℕ) (i n : ℕ) (h : i < length s) where
  pub stops : is_digit (get_or s i 0) ≡ false → going_on (drop i s) n i ≡ Some (n, i)
  unfolding going_on
  stops d = rw (drop-cons s i 0 h, d)

  module _ (d : is_digit (get_or s i 0) ≡ true) where
    pub goes_on : n * 10 + (get_or s i 0 - 48) < 2 ^ 64 → going_on (drop i s) n i ≡ going_on (drop (i + 1) s) (n * 10 + (get_or s i 0 - 48)) (i + 1)
    unfolding going_on
    goes_on f = rw (drop-cons s i 0 h, d, lt-ltb (n * 10 + (get_or s i 0 - 48)) (2 ^ 64) f, add-one i)

    pub too_large : 2 ^ 64 ≤ n * 10 + (get_or s i 0 - 48) → going_on (drop i s) n i ≡ None
    unfolding going_on
    too_large f = rw (drop-cons s i 0 h, d, le-ltb (n * 10 + (get_or s i 0 - 48)) (2 ^ 64) f)

-- ---- the first byte

pub nothing_left : (s : List ℕ) (i : ℕ) → length s ≤ i → decimal_at s i ≡ None
unfolding decimal_at decimal_in
nothing_left s i h = rw (drop_of_length-le s h)

module _ (s : List ℕ) (i : ℕ) (h : i < length s) where
  pub no_digit : is_digit (get_or s i 0) ≡ false → decimal_at s i ≡ None
  unfolding decimal_at decimal_in
  no_digit d = rw (drop-cons s i 0 h, d)

  pub zero-alone : get_or s i 0 ≡ 48 → decimal_at s i ≡ Some (0, i + 1)
  unfolding decimal_at decimal_in
  zero-alone e = rw (drop-cons s i 0 h, e)

  pub begins : is_digit (get_or s i 0) ≡ true → (get_or s i 0 ≡ 48 → ⊥) → decimal_at s i ≡ going_on (drop (i + 1) s) (get_or s i 0 - 48) (i + 1)
  unfolding decimal_at decimal_in
  begins d f = rw (drop-cons s i 0 h, d, ne_eqb (get_or s i 0) 48 f, add-one i)
