-- An integer z as two natural numbers, `pos_part z` less `neg_part z`, of which one is 0. Each law says in these what an operation, an order or a range is: that is linear, so `omega` reads it.
use Rattle.std.specs.Prelude.{◌≡◌, refl, Bool, true, false, not, cond, ℕ, zero, suc, ◌+◌, ◌*◌, ◌-◌, ◌≤◌, ◌<◌, ◌^◌, min, max, T, ltb, ℤ, pos, negsuc, neg_ℤ, nat_abs, ◌+ℤ◌, ◌-ℤ◌, ◌*ℤ◌, ◌≤ℤ◌, ◌<ℤ◌}
use Rattle.std.proofs.Common.{sym, ap, subst, true≢false, arith, leb→le, le→leb, ltb→lt, lt→ltb, nltb→le, leb-false}
use Rattle.std.proofs.Math.IntN.{sub_ℕ}
use Rattle.std.specs.Int.Signed.{le_z, lt_z, le_z_yes, lt_z_yes, lt_z_no}
use Rattle.std.specs.Int.{Width}
use mir.Val.{SFits, hbits}
use Rattle.integers.specs.Tests.{passes, fails}

abbrev pub pos_part : ℤ → ℕ
pos_part (pos n) = n
pos_part (negsuc n) = 0

abbrev pub neg_part : ℤ → ℕ
neg_part (pos n) = 0
neg_part (negsuc n) = suc n

pub one-part : (z : ℤ) → min (pos_part z) (neg_part z) ≡ 0
one-part (pos n) = omega arith
one-part (negsuc n) = omega arith

pub nat_abs-parts : (z : ℤ) → nat_abs z ≡ pos_part z + neg_part z
nat_abs-parts (pos n) = omega arith
nat_abs-parts (negsuc n) = omega arith

-- ---- equality

clash : ◌≡◌ {A = ℕ} 0 1 → ⊥
clash h = omega arith

pub ≡-parts : {a b : ℤ} → a ≡ b → pos_part a + neg_part b ≡ pos_part b + neg_part a
≡-parts {a} {b} e = omega (arith, ap pos_part e, ap neg_part e)

pub parts-≡ : {a b : ℤ} → pos_part a + neg_part b ≡ pos_part b + neg_part a → a ≡ b
parts-≡ {a = pos a} {b = pos b} h = let e : a ≡ b = omega arith in ap pos e
parts-≡ {a = pos a} {b = negsuc b} h = absurd (clash (omega arith))
parts-≡ {a = negsuc a} {b = pos b} h = absurd (clash (omega arith))
parts-≡ {a = negsuc a} {b = negsuc b} h = let e : a ≡ b = omega arith in ap negsuc e

-- ---- sums, negation, differences, products

by_cases : (c : Bool) (x y : ℤ) (P : ℤ → Type 0) → (T c → P x) → (T (not c) → P y) → P (cond c x y)
by_cases true x y P f g = f tt
by_cases false x y P f g = g tt

pub subℕ-parts : (a b : ℕ) → pos_part (sub_ℕ a b) + b ≡ a + neg_part (sub_ℕ a b)
subℕ-parts a b =
    by_cases (ltb a b) (negsuc (b - suc a)) (pos (a - b)) (λ z. pos_part z + b ≡ a + neg_part z)
    (λ t. omega (arith, ltb→lt a b t))
    (λ t. omega (arith, nltb→le a b t))

pub +-parts : (a b : ℤ) → pos_part (a +ℤ b) + (neg_part a + neg_part b) ≡ (pos_part a + pos_part b) + neg_part (a +ℤ b)
+-parts (pos a) (pos b) = omega arith
+-parts (pos a) (negsuc b) = omega (arith, subℕ-parts a (suc b))
+-parts (negsuc a) (pos b) = omega (arith, subℕ-parts b (suc a))
+-parts (negsuc a) (negsuc b) = omega arith

pub neg-parts : (a : ℤ) → (pos_part (neg_ℤ a) ≡ neg_part a) × (neg_part (neg_ℤ a) ≡ pos_part a)
neg-parts (pos zero) = (refl, refl)
neg-parts (pos (suc n)) = (refl, refl)
neg-parts (negsuc n) = (refl, refl)

pub difference-parts : (a b : ℤ) → pos_part (a -ℤ b) + (neg_part a + pos_part b) ≡ (pos_part a + neg_part b) + neg_part (a -ℤ b)
difference-parts a b = omega (arith, +-parts a (neg_ℤ b), neg-parts b)

pub *-parts : (a b : ℤ) → (pos_part (a *ℤ b) ≡ pos_part a * pos_part b + neg_part a * neg_part b) × (neg_part (a *ℤ b) ≡ pos_part a * neg_part b + neg_part a * pos_part b)
*-parts (pos a) (pos b) = omega arith
*-parts (pos a) (negsuc b) = omega (arith, neg-parts (pos (a * suc b)))
*-parts (negsuc a) (pos b) = omega (arith, neg-parts (pos (suc a * b)))
*-parts (negsuc a) (negsuc b) = omega arith

-- a multiple by a natural number: linear in a where d is a numeral
pub multiple-parts : (a : ℤ) (d : ℕ) → (pos_part (a *ℤ pos d) ≡ pos_part a * d) × (neg_part (a *ℤ pos d) ≡ neg_part a * d)
multiple-parts a d = omega (arith, *-parts a (pos d))

-- ---- the orders

pub ≤-parts : {a b : ℤ} → a ≤ℤ b → pos_part a + neg_part b ≤ pos_part b + neg_part a
≤-parts {a = pos a} {b = pos b} h = omega (arith, leb→le a b h.le)
≤-parts {a = pos a} {b = negsuc b} h = absurd h.le
≤-parts {a = negsuc a} {b = pos b} h = omega arith
≤-parts {a = negsuc a} {b = negsuc b} h = omega (arith, leb→le b a h.le)

pub parts-≤ : {a b : ℤ} → pos_part a + neg_part b ≤ pos_part b + neg_part a → a ≤ℤ b
parts-≤ {a = pos a} {b = pos b} h = le_z_yes (le→leb a b (omega arith))
parts-≤ {a = pos a} {b = negsuc b} h = absurd (omega arith)
parts-≤ {a = negsuc a} {b = pos b} h = le_z_yes tt
parts-≤ {a = negsuc a} {b = negsuc b} h = le_z_yes (le→leb b a (omega arith))

pub <-parts : {a b : ℤ} → a <ℤ b → pos_part a + neg_part b < pos_part b + neg_part a
<-parts {a = pos a} {b = pos b} h = omega (arith, ltb→lt a b h.lt)
<-parts {a = pos a} {b = negsuc b} h = absurd h.lt
<-parts {a = negsuc a} {b = pos b} h = omega arith
<-parts {a = negsuc a} {b = negsuc b} h = omega (arith, ltb→lt b a h.lt)

pub parts-< : {a b : ℤ} → pos_part a + neg_part b < pos_part b + neg_part a → a <ℤ b
parts-< {a = pos a} {b = pos b} h = lt_z_yes (lt→ltb a b (omega arith))
parts-< {a = pos a} {b = negsuc b} h = absurd (omega arith)
parts-< {a = negsuc a} {b = pos b} h = lt_z_yes tt
parts-< {a = negsuc a} {b = negsuc b} h = lt_z_yes (lt→ltb b a (omega arith))

-- ---- the tests of the orders

module _ (a b : ℤ) where
  pub le_z-true-parts : le_z a b ≡ true → pos_part a + neg_part b ≤ pos_part b + neg_part a
  le_z-true-parts e = ≤-parts {a = a} {b = b} (le_z_yes (subst T (sym e) tt))

  pub lt_z-true-parts : lt_z a b ≡ true → pos_part a + neg_part b < pos_part b + neg_part a
  lt_z-true-parts e = <-parts {a = a} {b = b} (lt_z_yes (subst T (sym e) tt))

  pub lt_z-false-parts : lt_z a b ≡ false → pos_part b + neg_part a ≤ pos_part a + neg_part b
  lt_z-false-parts e = ≤-parts {a = b} {b = a} (lt_z_no (subst (λ (t : Bool). T (not t)) (sym e) tt))

  pub parts-le_z-false : pos_part b + neg_part a < pos_part a + neg_part b → le_z a b ≡ false
  parts-le_z-false h = fails (le_z a b) (λ e. absurd (omega (arith, le_z-true-parts e)))

  pub parts-lt_z-false : pos_part b + neg_part a ≤ pos_part a + neg_part b → lt_z a b ≡ false
  parts-lt_z-false h = fails (lt_z a b) (λ e. absurd (omega (arith, lt_z-true-parts e)))

pub le_z-false-parts : (a b : ℤ) → le_z a b ≡ false → pos_part b + neg_part a < pos_part a + neg_part b
le_z-false-parts (pos a) (pos b) e = omega (arith, leb-false a b e)
le_z-false-parts (pos a) (negsuc b) e = omega arith
le_z-false-parts (negsuc a) (pos b) e = absurd (true≢false e)
le_z-false-parts (negsuc a) (negsuc b) e = omega (arith, leb-false b a e)

module _ (a b : ℤ) where
  pub parts-le_z-true : pos_part a + neg_part b ≤ pos_part b + neg_part a → le_z a b ≡ true
  parts-le_z-true h = passes (le_z a b) (λ e. absurd (omega (arith, le_z-false-parts a b e)))

  pub parts-lt_z-true : pos_part a + neg_part b < pos_part b + neg_part a → lt_z a b ≡ true
  parts-lt_z-true h = passes (lt_z a b) (λ e. absurd (omega (arith, lt_z-false-parts a b e)))

-- ---- the range of a width, −2 ^ 63 ≤ z < 2 ^ 63 at `w64`

pub sfits-pos_part : {w : Width} {z : ℤ} → SFits w z → pos_part z < 2 ^ hbits w
sfits-pos_part {w} {z = pos n} f = f.sfits
sfits-pos_part {w} {z = negsuc n} f = omega (arith, f.sfits)

pub sfits-neg_part : {w : Width} {z : ℤ} → SFits w z → neg_part z ≤ 2 ^ hbits w
sfits-neg_part {w} {z = pos n} f = omega arith
sfits-neg_part {w} {z = negsuc n} f = f.sfits

-- z is from -h up to and without h
abbrev pub Within : ℕ → ℤ → Type 0
Within h z = (pos_part z < h + neg_part z) × (neg_part z ≤ h + pos_part z)

pub within-sfits : (w : Width) (z : ℤ) → Within (2 ^ hbits w) z → SFits w z
within-sfits w (pos n) h = record { sfits = omega arith }
within-sfits w (negsuc n) h = record { sfits = omega arith }

pub sfits-within : {w : Width} {z : ℤ} → SFits w z → Within (2 ^ hbits w) z
sfits-within f = omega (arith, sfits-pos_part f, sfits-neg_part f)

-- the same, each in one order, as a rule for `omega` asks
pub sfits-parts : {w : Width} {z : ℤ} → SFits w z → max (pos_part z + 1) (neg_part z) ≤ 2 ^ hbits w
sfits-parts f = omega (arith, sfits-pos_part f, sfits-neg_part f)

pub parts-sfits : {w : Width} {z : ℤ} → max (2 * pos_part z + 1) (2 * neg_part z) ≤ 2 ^ hbits w + (pos_part z + neg_part z) → SFits w z
parts-sfits {w} {z} h = within-sfits w z (omega arith)

-- ---- sizes

-- z is from -m to m
pub record Sized (m : ℕ) (z : ℤ) : Type 0 where
  pub size : nat_abs z ≤ m

pub sized-parts : {m : ℕ} {z : ℤ} → Sized m z → max (pos_part z) (neg_part z) ≤ m
sized-parts {m} {z} s = omega (arith, nat_abs-parts z, s.size)

pub parts-sized : {m : ℕ} {z : ℤ} → max (2 * pos_part z) (2 * neg_part z) ≤ m + (pos_part z + neg_part z) → Sized m z
parts-sized {m} {z} h = record { size = omega (arith, nat_abs-parts z, one-part z) }

-- for `omega`: it reads `≤ℤ`, `<ℤ`, `≡`, `SFits`, `Sized` and tests of integers among the hypotheses and in the goal
pub ruleset integers =
    (arith, ≤-parts, parts-≤, <-parts, parts-<, ≡-parts, parts-≡, le_z-true-parts, le_z-false-parts, lt_z-true-parts, lt_z-false-parts, parts-le_z-true, parts-le_z-false, parts-lt_z-true, parts-lt_z-false, sfits-parts, parts-sfits, sized-parts, parts-sized)
