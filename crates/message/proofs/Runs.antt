-- Laws of texts one after the other, and of a test of each of 0 to n - 1.
use mathlib.Core.Path.{◌≡◌, refl, ◌∙◌, ap, ap₂}
use mathlib.Core.Bool.{Bool, true, false}
use mathlib.Core.List.{List, ◌++◌}
use Prim.Native.Nat.{ℕ, zero, suc, ◌+◌, ◌≤◌, ◌<◌}
use native.Mathlib.Numerals.{add-one}
use native.Mathlib.Omega.{arith}
use lib.Dec.{eqb}
use lib.ListN.{length, length-append}
use borrow.Author.Tests.{eqb-true, eqb-false}
use Rattle.integers.specs.Tests.{joined, clash, fails}
use Rattle.text.specs.Writes.{Writes}
use Rattle.text.specs.declared.writing.Writer.{Writer}
use Rattle.text.proofs.Written.{then}
use Rattle.message.specs.Message.{texts}
use Rattle.message.specs.Refusals.{all_of}

-- ---- tests

module _ (f : ℕ → Bool) where
  at-by : (n i : ℕ) (t : Bool) → eqb i n ≡ t → (i < n → f i ≡ true) → f n ≡ true → i < suc n → f i ≡ true
  at-by n i true t ih q l = rw (eqb-true i n t) q
  at-by n i false t ih q l = ih (omega (arith, eqb-false i n t))

  pub all-at : (n i : ℕ) → all_of f n ≡ true → i < n → f i ≡ true
  unfolding all_of
  all-at zero i h l = absurd (omega arith)
  all-at (suc n) i h l = let (p, q) = simp joined at h in at-by n i (eqb i n) refl (λ m. all-at n i p m) q l

  pub all-fails : (n i : ℕ) → f i ≡ false → i < n → all_of f n ≡ false
  all-fails n i h l = fails (all_of f n) (λ e. clash (all-at n i e l) h)

  pub all_none : all_of f 0 ≡ true
  unfolding all_of
  all_none = refl

  pub all_more : (n : ℕ) → all_of f n ≡ true → f n ≡ true → all_of f (n + 1) ≡ true
  unfolding all_of
  all_more n h e = rw (add-one n, h, e) refl

-- ---- texts

module _ (f : ℕ → List ℕ) where
  pub texts-more : (n : ℕ) → texts f (n + 1) ≡ texts f n ++ f n
  unfolding texts
  texts-more n = rw (add-one n) refl

  pub length_none : length (texts f 0) ≡ 0
  unfolding texts
  length_none = refl

  pub length-next : (n : ℕ) → length (texts f (n + 1)) ≡ length (texts f n) + length (f n)
  length-next n = ap length (texts-more n) ∙ length-append (texts f n) (f n)

  room_by : (k n : ℕ) (t : Bool) → eqb k n ≡ t → (k < n → length (texts f k) + length (f k) ≤ length (texts f n)) → k < suc n
      → length (texts f k) + length (f k) ≤ length (texts f (n + 1))
  room_by k n true t ih h = rw (eqb-true k n t) (omega (arith, length-next n))
  room_by k n false t ih h = omega (arith, length-next n, ih (omega (arith, eqb-false k n t)))

  -- one of the first n has room where they have
  pub texts-room : (k n : ℕ) → k < n → length (texts f k) + length (f k) ≤ length (texts f n)
  texts-room k zero h = absurd (omega arith)
  texts-room k (suc n) h = rw (← (add-one n)) (room_by k n (eqb k n) refl (λ l. texts-room k n l) h)

  pub next-text : {u v w : Writer} (k : ℕ) → Writes u (texts f k) v → Writes v (f k) w → Writes u (texts f (k + 1)) w
  next-text k g h = rw (texts-more k) (then g h)

-- texts that are as long one by one are so together
pub as_long : (f g : ℕ → List ℕ) → ((i : ℕ) → length (f i) ≡ length (g i)) → (n : ℕ) → length (texts f n) ≡ length (texts g n)
unfolding texts
as_long f g e zero = refl
as_long f g e (suc n) =
    length-append (texts f n) (f n) ∙ ap₂ (λ x y. x + y) (as_long f g e n) (e n) ∙ (let l = length-append (texts g n) (g n) in omega (arith, l))
