-- Laws of the values of a point: what their tests say, and how long their texts are.
use mathlib.Core.Path.{◌≡◌, refl}
use mathlib.Core.Bool.{Bool, true, false, cond, and-eq-true_iff}
use mathlib.Core.List.{List, ◌∷◌}
use Prim.Native.Nat.{ℕ, ◌+◌, ◌*◌, ◌^◌, ◌≤◌, ◌<◌}
use native.Mathlib.Omega.{arith}
use lib.Dec.{ltb}
use lib.IntN.{ℤ, pos, negsuc, nat_abs}
use lib.ListN.{length, get_or}
use lib.Signed.{le_z, lt_z}
use borrow.Author.Tests.{lt-ltb, le-ltb}
use Rattle.integers.specs.Parts.{integers, nat_abs-parts, one-part}
use Rattle.integers.specs.Tests.{◌and◌, joined, fails, passes, and_no, and_yes}
use Rattle.exact.specs.declared.Exact.{Exact}
use Rattle.exact.specs.Numerator.{D, between, Bounded}
use Rattle.exact.proofs.Bounds.{between-bounded}
use Rattle.text.specs.Numbers.{ascii}
use Rattle.text.proofs.Pieces.{length-flatten}
use Rattle.calendar.specs.Calendar.{moment_of}
use Rattle.calendar.proofs.Back.{text-long}
use Rattle.decimal.specs.Units.{position_units, velocity_units}
use Rattle.decimal.specs.Text.{fixed_text, position_text, velocity_text, position_fits, velocity_fits}
use Rattle.decimal.proofs.Digits.{length-fixed}
use Rattle.message.specs.Request.{value_at, place}
use Rattle.message.specs.Message.{value_text, field, texts, line, line_from}
use Rattle.message.specs.Refusals.{exact_at, position_holds, velocity_holds, holds_as, value_holds, point_holds}
use Rattle.message.specs.Measures.{length_if}
use Rattle.message.proofs.Runs.{all-at}

-- ---- what the tests say

opposed : (z : ℤ) → lt_z z (pos 0) ≡ true → le_z (pos 0) z ≡ true → ⊥
opposed z l u = omega integers

unopposed : (z : ℤ) → lt_z z (pos 0) ≡ false → le_z (pos 0) z ≡ false → ⊥
unopposed z l u = omega integers

rest-small : (z : ℤ) → le_z (pos 0) z ≡ true → lt_z z (pos D) ≡ true → nat_abs z < D
rest-small z l u = omega (integers, nat_abs-parts z, one-part z)

pub below-zero : (points : List ℤ) (at : ℕ) → lt_z (get_or points (at + 1) (pos 0)) (pos 0) ≡ true → false ≡ exact_at points at
unfolding exact_at
below-zero points at t =
    let z = get_or points (at + 1) (pos 0) in
    and_no (lt_z z (pos D)) (fails (le_z (pos 0) z) (λ e. opposed z t e))

pub from_zero : (points : List ℤ) (at : ℕ) → lt_z (get_or points (at + 1) (pos 0)) (pos 0) ≡ false → lt_z (get_or points (at + 1) (pos 0)) (pos D) ≡ exact_at points at
unfolding exact_at
from_zero points at t =
    let z = get_or points (at + 1) (pos 0) in
    and_yes (passes (le_z (pos 0) z) (λ e. unopposed z t e)) refl

pub rest-small-at : (points : List ℤ) (at : ℕ) → exact_at points at ≡ true → nat_abs (get_or points (at + 1) (pos 0)) < D
unfolding exact_at
rest-small-at points at h = let (l, u) = simp joined at h in rest-small (get_or points (at + 1) (pos 0)) l u

pub part_small : (points : List ℤ) (at : ℕ) → exact_at points at ≡ true → (value_at points at).part < D
unfolding value_at
part_small points at h = rest-small-at points at h

pub position-bounded : (tick : ℕ) (e : Exact) → e.part < D → position_holds tick e ≡ true → Bounded (2 ^ 52) e
unfolding position_holds
position-bounded tick e p h = between-bounded (2 ^ 52) e p ((and-eq-true_iff (between (2 ^ 52) e) (position_fits (position_units tick e))).0 h).0

pub velocity-bounded : (tick step : ℕ) (e : Exact) → e.part < D → velocity_holds tick step e ≡ true → Bounded (2 ^ 40) e
unfolding velocity_holds
velocity-bounded tick step e p h = between-bounded (2 ^ 40) e p ((and-eq-true_iff (between (2 ^ 40) e) (velocity_fits (velocity_units tick step e))).0 h).0

-- value k is a position, or a velocity
module _ (tick step k : ℕ) (e : Exact) where
  pub as-position : k < 3 → holds_as tick step k e ≡ true → position_holds tick e ≡ true
  unfolding holds_as
  as-position l h = rw (lt-ltb k 3 l) at h

  pub as-velocity : 3 ≤ k → holds_as tick step k e ≡ true → velocity_holds tick step e ≡ true
  unfolding holds_as
  as-velocity l h = rw (le-ltb k 3 l) at h

-- a value from its two numbers
pub value-is : (points : List ℤ) (at : ℕ) {w : ℤ} {p : ℕ} → w ≡ get_or points at (pos 0) → p ≡ nat_abs (get_or points (at + 1) (pos 0))
    → record { whole = w; part = p } ≡ value_at points at
unfolding value_at
value-is points at e f = λ i. record { whole = e i; part = f i }

-- ---- value k of point i

module _ (tick step : ℕ) (points : List ℤ) (i k : ℕ) where
  both : value_holds tick step points i k ≡ true → (exact_at points (place i k) ≡ true) × (holds_as tick step k (value_at points (place i k)) ≡ true)
  unfolding value_holds
  both h = (and-eq-true_iff (exact_at points (place i k)) (holds_as tick step k (value_at points (place i k)))).0 h

  pub holds_exact : value_holds tick step points i k ≡ true → exact_at points (place i k) ≡ true
  holds_exact h = (both h).0

  pub values-hold : point_holds tick step points i ≡ true → k < 6 → value_holds tick step points i k ≡ true
  unfolding point_holds
  values-hold h l = all-at (value_holds tick step points i) 6 k h l

  pub position-ready : k < 3 → value_holds tick step points i k ≡ true → {e : Exact} → e ≡ value_at points (place i k) → Bounded (2 ^ 52) e
  position-ready l h e =
      rw e (position-bounded tick (value_at points (place i k)) (part_small points (place i k) (both h).0) (as-position tick step k _ l (both h).1))

  pub velocity-ready : 3 ≤ k → value_holds tick step points i k ≡ true → {e : Exact} → e ≡ value_at points (place i k) → Bounded (2 ^ 40) e
  velocity-ready l h e =
      rw e (velocity-bounded tick step (value_at points (place i k)) (part_small points (place i k) (both h).0) (as-velocity tick step k _ l (both h).1))

  -- its text, by the units as they were worked out
  pub field-position : k < 3 → {e : Exact} {n : ℤ} → e ≡ value_at points (place i k) → n ≡ position_units tick e → field tick step points i k ≡ 32 ∷ fixed_text 6 n
  unfolding field value_text ascii
  field-position l e u = rw (u, e, lt-ltb k 3 l) refl

  pub field-velocity : 3 ≤ k → {e : Exact} {n : ℤ} → e ≡ value_at points (place i k) → n ≡ velocity_units tick step e → field tick step points i k ≡ 32 ∷ fixed_text 9 n
  unfolding field value_text ascii
  field-velocity l e u = rw (u, e, le-ltb k 3 l) refl

-- ---- lengths, and 0

module _ (t : Bool) (text : List ℕ) where
  pub held : t ≡ true → length text ≡ length_if t text
  unfolding length_if
  held e = rw e refl

  pub unheld : t ≡ false → 0 ≡ length_if t text
  unfolding length_if
  unheld e = rw e refl

  pub also : (u : Bool) {n : ℕ} → u ≡ true → n ≡ length_if t text → n ≡ length_if (u and t) text
  also u e f = rw e f

  pub nor : (u : Bool) → u ≡ false → 0 ≡ length_if (u and t) text
  unfolding length_if
  nor u e = rw e refl

-- what a length says of its test
pub fails-at : (t : Bool) (text : List ℕ) {n : ℕ} → n ≡ length_if t text → 0 < length text → n ≡ 0 → t ≡ false
unfolding length_if
fails-at true text e p z = absurd (omega arith)
fails-at false text e p z = refl

pub holds_at : (t : Bool) (text : List ℕ) {n : ℕ} → n ≡ length_if t text → (n ≡ 0 → ⊥) → (t ≡ true) × (n ≡ length text)
unfolding length_if
holds_at true text e p = (refl, e)
holds_at false text e p = absurd (p e)

-- ---- texts

fixed-some : (places : ℕ) (z : ℤ) → 0 < length (fixed_text places z)
unfolding fixed_text ascii
fixed-some places (pos n) = omega (arith, length-fixed places n)
fixed-some places (negsuc n) = omega arith

pub value-some : (tick step k : ℕ) (e : Exact) → 0 < length (value_text tick step k e)
unfolding value_text
value-some tick step k e = by (ltb k 3)
  where
    by : (t : Bool) → 0 < length (cond t (position_text tick e) (velocity_text tick step e))
    by true = fixed-some 6 (position_units tick e)
    by false = fixed-some 9 (velocity_units tick step e)

module _ (tick step : ℕ) (points : List ℤ) (i : ℕ) where
  pub length-field : (k : ℕ) → length (field tick step points i k) ≡ length (value_text tick step k (value_at points (place i k))) + 1
  unfolding field ascii
  length-field k = omega arith

  pub field-some : (k : ℕ) → 0 < length (field tick step points i k)
  field-some k = omega (arith, length-field k)

  -- a time, the values, a newline
  pub length-line : (first : ℕ) → length (line_from tick step points first i) ≡ 20 + length (texts (field tick step points i) 6)
  unfolding line_from line ascii
  length-line first = omega (arith, length-flatten (line tick step points (first + i * step) i), text-long (moment_of (first + i * step)))

  pub line-some : (first : ℕ) → 0 < length (line_from tick step points first i)
  line-some first = omega (arith, length-line first)
