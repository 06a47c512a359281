-- Where rounding to a float gives an ordinary one, finite and not minus zero, and where one above zero. Nothing here is about exact values.
use Rattle.std.specs.Prelude.{refl, Bool, true, false, cond, T, ltb, Float}
use Rattle.std.proofs.Common.{sym, subst, mul-one, one-mul, mul-pos, zero-lt-suc, true≢false, ltb→lt, lt→ltb, lit<, pow_pos}
use Prim.Native.Nat.{ℕ, suc, ◌+◌, ◌-◌, ◌*◌, ◌/◌, ◌%◌, ◌^◌, ◌≤◌, ◌<◌, compare}
use Rattle.std.proofs.lemmas.Bool.{false≢true}
use Rattle.std.specs.Float.{nan, inf, fin, Format, binary64}
use Rattle.std.specs.Float.Ieee.{prec, low, up, size, nearest, odd, units, round, le}
use Rattle.std.specs.Float.Ieee.Fits.{round_is, down_pos}
use Rattle.std.specs.Float.Ieee.Exact.{HasValue, units_val, round_exact}
use Rattle.std.specs.Float.Ieee.Order.{round_mono}
use Rattle.std.specs.Float.Ieee.Scale.{grid, overflow, finite}
use Rattle.std.specs.Float.Ieee.Positive.{positive, between, value_pos, positive_of_value, first_pos}
use Rattle.exact.specs.Rounding.{ordinary}

-- what is at most a finite value, and was rounded with the sign +, is finite
units-below : (f : Format) (q k : ℕ) (y : Float) → T (finite y) → T (le (units f false q k) y) → q * 2 ^ k < overflow f
unfolding units le
units-below f q k nan t h = absurd t
units-below f q k (inf s) t h = absurd t
units-below f q k (fin s m e) t h = go (ltb (q * 2 ^ k) (overflow f)) (ltb→lt (q * 2 ^ k) (overflow f)) h
  where
    go : (b : Bool) → (T b → q * 2 ^ k < overflow f) → T (le (cond b (odd (suc (prec f)) false q k (low f)) (inf false)) (fin s m e)) → q * 2 ^ k < overflow f
    go true a h = a tt
    go false a h = absurd h

-- the roof: 2 ^ 54
roof-value : HasValue (round binary64 false (2 ^ 54) 1) false (2 ^ 54) 1
roof-value = round_exact binary64 false (2 ^ 54) 1 1 (54 + low binary64) (zero-lt-suc 0) (lit< tt) (lit< tt) refl

value-finite : (x : Float) (s : Bool) (a c : ℕ) → HasValue x s a c → T (finite x)
value-finite nan s a c v = v
value-finite (inf t) s a c v = v
value-finite (fin t m e) s a c v = tt

module _ (a c : ℕ) (C : 0 < c) (h : a ≤ 2 ^ 54 * c) where
  under-roof : T (le (round binary64 false a c) (round binary64 false (2 ^ 54) 1))
  under-roof = round_mono binary64 a c (2 ^ 54) 1 C (zero-lt-suc 0) (subst (λ (z : ℕ). z ≤ 2 ^ 54 * c) (sym (mul-one a)) h)

  in-range : grid binary64 a c < overflow binary64
  in-range =
      let k = size (a * 2 ^ low binary64 / c) - prec binary64 in
      units-below binary64 (nearest (a * 2 ^ low binary64 / (c * 2 ^ k)) (compare (a * 2 ^ low binary64 % (c * 2 ^ k) * 2) (c * 2 ^ k))) k (round binary64 false (2 ^ 54) 1)
      (value-finite (round binary64 false (2 ^ 54) 1) false (2 ^ 54) 1 roof-value)
      (subst (λ (z : Float). T (le z (round binary64 false (2 ^ 54) 1))) (round_is binary64 false a c) under-roof)

  -- with either sign
  pub rounded-value : (s : Bool) → HasValue (round binary64 s a c) s (grid binary64 a c) (2 ^ low binary64)
  rounded-value s =
      let k = size (a * 2 ^ low binary64 / c) - prec binary64 in
      subst (λ (z : Float). HasValue z s (grid binary64 a c) (2 ^ low binary64)) (sym (round_is binary64 s a c))
      (units_val binary64 s (nearest (a * 2 ^ low binary64 / (c * 2 ^ k)) (compare (a * 2 ^ low binary64 % (c * 2 ^ k) * 2) (c * 2 ^ k))) k in-range)

  pub plus-ordinary : T (ordinary (round binary64 false a c))
  plus-ordinary = go (round binary64 false a c) (rounded-value false)
    where
      go : (x : Float) → HasValue x false (grid binary64 a c) (2 ^ low binary64) → T (ordinary x)
      go nan v = v
      go (inf t) v = v
      go (fin true m e) v = absurd (true≢false v.0)
      go (fin false m e) v = tt

-- the floor: the smallest positive value
least-value : HasValue (round binary64 false 1 (2 ^ low binary64)) false 1 (2 ^ low binary64)
least-value = round_exact binary64 false 1 (2 ^ low binary64) 1 0 (pow_pos (low binary64)) (lit< tt) (lit< tt) refl

module _ (a c : ℕ) (C : 0 < c) (h : a ≤ 2 ^ 54 * c) (l : c ≤ a * 2 ^ low binary64) where
  over-least : T (le (round binary64 false 1 (2 ^ low binary64)) (round binary64 false a c))
  over-least = round_mono binary64 1 (2 ^ low binary64) a c (pow_pos (low binary64)) C (subst (λ (z : ℕ). z ≤ a * 2 ^ low binary64) (sym (one-mul c)) l)

  pub plus-positive : T (positive (round binary64 false a c))
  plus-positive =
      between (round binary64 false 1 (2 ^ low binary64)) (round binary64 false a c) (round binary64 false (2 ^ 54) 1)
      (positive_of_value (round binary64 false 1 (2 ^ low binary64)) 1 (2 ^ low binary64) least-value (zero-lt-suc 0))
      (positive_of_value (round binary64 false (2 ^ 54) 1) (2 ^ 54) 1 roof-value (lit< tt))
      over-least
      (under-roof a c C h)

  above_zero : 0 < grid binary64 a c
  above_zero = value_pos (round binary64 false a c) (grid binary64 a c) (2 ^ low binary64) plus-positive (pow_pos (low binary64)) (rounded-value a c C h false)

  pub minus-ordinary : T (ordinary (round binary64 true a c))
  minus-ordinary = go (round binary64 true a c) (rounded-value a c C h true)
    where
      go : (x : Float) → HasValue x true (grid binary64 a c) (2 ^ low binary64) → T (ordinary x)
      go nan v = v
      go (inf t) v = v
      go (fin true m e) v = lt→ltb 0 m (first_pos m (up e) (first_pos (m * up e) (2 ^ low binary64) (subst (λ (z : ℕ). 0 < z) (sym v.1) (mul-pos above_zero (down_pos e)))))
      go (fin false m e) v = absurd (false≢true v.0)
