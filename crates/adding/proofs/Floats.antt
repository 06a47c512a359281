-- Floats that are whole ticks round to them, and their sums as floats are the sums.
use mathlib.Core.Path.{◌≡◌, refl, sym, ap, subst, ◌∙◌}
use mathlib.Core.Bool.{Bool, true, false, cond}
use Prim.Native.Nat.{ℕ, ◌+◌, ◌-◌, ◌*◌, ◌^◌, ◌≤◌, ◌<◌}
use native.Mathlib.Nat.{mul-one, mul-pos, mul_comm, mul_assoc, add-mul, lt_of_mul-lt-mul_right, le_of_mul-le-mul_right}
use native.Mathlib.Omega.{arith}
use borrow.Author.Tests.{ltb-true, ltb-false}
use lib.Dec.{ltb}
use lib.IntN.{ℤ, pos, neg_ℤ, nat_abs, ◌+ℤ◌, ◌-ℤ◌, ◌*ℤ◌}
use lib.Ieee.{Float, nan, inf, fin, binary64, up, down, round, sum, add}
use lib.Ieee.Fits.{down_pos}
use lib.Ieee.Exact.{HasValue}
use lib.Ieee.Back.{round_whole}
use lib.Ieee.Scale.{round_same}
use Rattle.integers.specs.Parts.{integers, parts-≡, nat_abs-parts, one-part, +-parts, neg-parts, difference-parts}
use Rattle.integers.specs.Ring.{negℤ-*ℤ-left}
use Rattle.integers.specs.Nearest.{Nearest}
use Rattle.ticks.specs.declared.Sample.{Sample}
use Rattle.std.specs.Prelude.{Ok}
use Rattle.ticks.specs.Round.{limit, signed, rounded_of, ticks_in}
use Rattle.ticks.specs.Samples.{whole_of}
use Rattle.ticks.specs.Nearest.{NearestTo}
use Rattle.ticks.proofs.Meaning.{rounded-means}
use Rattle.session.specs.Coordinates.{Coordinate, on_x, on_y, on_z, ticks_on}
use Rattle.adding.specs.Floats.{WholeTicks, float_on, float_sum}

-- ---- signs and sizes

signed-size : (s : Bool) (n : ℕ) → nat_abs (signed s n) ≡ n
signed-size false n = refl
signed-size true n = omega (arith, nat_abs-parts (neg_ℤ (pos n)), neg-parts (pos n))

signed-times : (s : Bool) (n d : ℕ) → signed s (n * d) ≡ signed s n *ℤ pos d
signed-times false n d = refl
signed-times true n d = sym (negℤ-*ℤ-left (pos n) (pos d))

-- ---- a whole float rounds to its number

none_left : (a : ℤ) → nat_abs (a -ℤ a) ≡ 0
none_left a = omega (integers, nat_abs-parts (a -ℤ a), one-part (a -ℤ a), difference-parts a a)

nearest-itself : (n : ℤ) (d : ℕ) → 0 < d → Nearest (n *ℤ pos d) d n
nearest-itself n d h =
    let e = none_left (n *ℤ pos d) in
    record { near = omega (arith, e); tie = λ t. absurd (omega (arith, e, t)) }

module _ (x : Float) (z : ℤ) (w : WholeTicks x z) where
  whole-nearest : NearestTo x z
  whole-nearest = go x w.value
    where
      go : (y : Float) → HasValue y w.negative w.size 1 → NearestTo y z
      go nan v = absurd v
      go (inf s) v = absurd v
      go (fin s m e) v =
          let scaled : m * up e ≡ w.size * down e = sym (mul-one (m * up e)) ∙ v.1 in
          let same : signed s (m * up e) ≡ z *ℤ pos (down e) =
          (λ i. signed (v.0 i) (scaled i)) ∙ signed-times w.negative w.size (down e) ∙ ap (λ n. n *ℤ pos (down e)) w.number in
          subst (λ a. Nearest a (down e) z) (sym same) (nearest-itself z (down e) (down_pos e))

  small : nat_abs z ≤ limit
  small = omega (arith, signed-size w.negative w.size, ap nat_abs w.number, w.within)

  pub whole-rounds : rounded_of x ≡ Ok z
  whole-rounds = (rounded-means x (Ok z)).1 (whole-nearest, small)

-- ---- a float addition of whole numbers is exact

-- a float with a value that is a whole number
record Whole (x : Float) (z : ℤ) : Type 0 where
  negative : Bool
  size : ℕ
  value : HasValue x negative size 1
  number : signed negative size ≡ z

abbrev most : ℕ
most = 2 ^ 53

module _ (c : ℕ) (C : 0 < c) where
  whole-quotient : (s : Bool) (n a : ℕ) → n ≤ most → a ≡ n * c → HasValue (round binary64 s a c) s n 1
  whole-quotient s n a h e = subst (λ y. HasValue y s n 1) (sym (round_same binary64 s a c n 1 C (omega arith) (mul-one a ∙ e))) (round_whole binary64 s n h)

  -- a difference of multiples
  less : (m n : ℕ) → n ≤ m → m * c - n * c ≡ (m - n) * c
  less m n h =
      let back : m ≡ m - n + n = omega arith in
      let e : m * c ≡ (m - n) * c + n * c = ap (λ z. z * c) back ∙ add-mul (m - n) n c in
      omega (arith, e)

  ordered : (m n : ℕ) (b : Bool) → ltb (m * c) (n * c) ≡ b → cond b (m < n) (n ≤ m)
  ordered m n true e = lt_of_mul-lt-mul_right c (ltb-true (m * c) (n * c) e)
  ordered m n false e = le_of_mul-le-mul_right (ltb-false (m * c) (n * c) e) C

  -- of m and -n, and of -m and n: the sign of the larger; nothing is left where they are level
  sum-whole : (s t : Bool) (m n : ℕ) → m + n ≤ most → Whole (sum binary64 s (m * c) t (n * c) c) (signed s m +ℤ signed t n)
  unfolding sum
  sum-whole false false m n h =
      record { negative = false; size = m + n; value = whole-quotient false (m + n) (m * c + n * c) h (sym (add-mul m n c)); number = refl }
  sum-whole true true m n h =
      record {
        negative = true;
        size = m + n;
        value = whole-quotient true (m + n) (m * c + n * c) h (sym (add-mul m n c));
        number = parts-≡ (omega (arith, neg-parts (pos (m + n)), neg-parts (pos m), neg-parts (pos n), +-parts (neg_ℤ (pos m)) (neg_ℤ (pos n))));
      }
  sum-whole false true m n h = go (ltb (m * c) (n * c)) (ordered m n (ltb (m * c) (n * c)) refl)
    where
      go : (b : Bool) → cond b (m < n) (n ≤ m) →
          Whole (cond b (round binary64 true (n * c - m * c) c) (round binary64 false (m * c - n * c) c)) (pos m +ℤ neg_ℤ (pos n))
      go true l =
          record {
            negative = true;
            size = n - m;
            value = whole-quotient true (n - m) (n * c - m * c) (omega arith) (less n m (omega arith));
            number = parts-≡ (omega (arith, neg-parts (pos (n - m)), neg-parts (pos n), +-parts (pos m) (neg_ℤ (pos n))));
          }
      go false l =
          record {
            negative = false;
            size = m - n;
            value = whole-quotient false (m - n) (m * c - n * c) (omega arith) (less m n l);
            number = parts-≡ (omega (arith, neg-parts (pos n), +-parts (pos m) (neg_ℤ (pos n))));
          }
  sum-whole true false m n h = go (ltb (m * c) (n * c)) (ltb (n * c) (m * c)) (ordered m n (ltb (m * c) (n * c)) refl) (ordered n m (ltb (n * c) (m * c)) refl)
    where
      go : (b d : Bool) → cond b (m < n) (n ≤ m) → cond d (n < m) (m ≤ n) →
          Whole (cond b (round binary64 false (n * c - m * c) c) (round binary64 d (m * c - n * c) c)) (neg_ℤ (pos m) +ℤ pos n)
      go true d l k =
          record {
            negative = false;
            size = n - m;
            value = whole-quotient false (n - m) (n * c - m * c) (omega arith) (less n m (omega arith));
            number = parts-≡ (omega (arith, neg-parts (pos m), +-parts (neg_ℤ (pos m)) (pos n)));
          }
      go false true l k =
          record {
            negative = true;
            size = m - n;
            value = whole-quotient true (m - n) (m * c - n * c) (omega arith) (less m n l);
            number = parts-≡ (omega (arith, neg-parts (pos (m - n)), neg-parts (pos m), +-parts (neg_ℤ (pos m)) (pos n)));
          }
      go false false l k =
          record {
            negative = false;
            size = m - n;
            value = whole-quotient false (m - n) (m * c - n * c) (omega arith) (less m n l);
            number = parts-≡ (omega (arith, neg-parts (pos m), +-parts (neg_ℤ (pos m)) (pos n)));
          }

module _ (x y : Float) (u v : ℤ) (a : WholeTicks x u) (b : WholeTicks y v) where
  added-whole : Whole (add binary64 x y) (u +ℤ v)
  unfolding add
  added-whole = go x y a.value b.value
    where
      go : (x y : Float) → HasValue x a.negative a.size 1 → HasValue y b.negative b.size 1 → Whole (add binary64 x y) (u +ℤ v)
      go nan y p q = absurd p
      go (inf s) y p q = absurd p
      go (fin s m e) nan p q = absurd q
      go (fin s m e) (inf t) p q = absurd q
      go (fin s m e) (fin t n d) p q =
          let c = down e * down d in
          let left : m * up e * down d ≡ a.size * c =
          ap (λ k. k * down d) (sym (mul-one (m * up e)) ∙ p.1) ∙ mul_assoc a.size (down e) (down d) in
          let right : n * up d * down e ≡ b.size * c =
          ap (λ k. k * down e) (sym (mul-one (n * up d)) ∙ q.1) ∙ mul_assoc b.size (down d) (down e) ∙ ap (λ k. b.size * k) (mul_comm (down d) (down e)) in
          let sums : Whole (sum binary64 s (a.size * c) t (b.size * c) c) (signed s a.size +ℤ signed t b.size) =
          sum-whole c (mul-pos (down_pos e) (down_pos d)) s t a.size b.size (omega (arith, a.within, b.within)) in
          let number : signed s a.size +ℤ signed t b.size ≡ u +ℤ v =
          (λ i. signed (p.0 i) a.size +ℤ signed (q.0 i) b.size) ∙ (λ i. a.number i +ℤ b.number i) in
          subst (Whole (sum binary64 s (m * up e * down d) t (n * up d * down e) c)) number
          (subst (λ k. Whole (sum binary64 s (m * up e * down d) t k c) (signed s a.size +ℤ signed t b.size)) (sym right)
          (subst (λ k. Whole (sum binary64 s k t (b.size * c) c) (signed s a.size +ℤ signed t b.size)) (sym left) sums))

  -- within the limit too
  pub whole_sum : nat_abs (u +ℤ v) ≤ limit → WholeTicks (add binary64 x y) (u +ℤ v)
  whole_sum h =
      let w = added-whole in
      record {
        negative = w.negative;
        size = w.size;
        value = w.value;
        number = w.number;
        within = omega (arith, signed-size w.negative w.size, ap nat_abs w.number);
      }

  pub sum-rounds : nat_abs (u +ℤ v) ≤ limit → ticks_in (rounded_of (add binary64 x y)) ≡ ticks_in (rounded_of x) +ℤ ticks_in (rounded_of y)
  sum-rounds h =
      ap ticks_in (whole-rounds (add binary64 x y) (u +ℤ v) (whole_sum h))
      ∙ (λ i. ticks_in (sym (whole-rounds x u a) i) +ℤ ticks_in (sym (whole-rounds y v b) i))

-- ---- samples

pub samples-round : (a b : Sample) (u v : Coordinate → ℤ) → ((k : Coordinate) → WholeTicks (float_on k a) (u k)) → ((k : Coordinate) → WholeTicks (float_on k b) (v k)) →
    ((k : Coordinate) → nat_abs (u k +ℤ v k) ≤ limit) → (k : Coordinate) → ticks_on k (whole_of (float_sum a b)) ≡ ticks_on k (whole_of a) +ℤ ticks_on k (whole_of b)
samples-round a b u v f g h on_x = sum-rounds a.x b.x (u on_x) (v on_x) (f on_x) (g on_x) (h on_x)
samples-round a b u v f g h on_y = sum-rounds a.y b.y (u on_y) (v on_y) (f on_y) (g on_y) (h on_y)
samples-round a b u v f g h on_z = sum-rounds a.z b.z (u on_z) (v on_z) (f on_z) (g on_z) (h on_z)
