-- Laws of the test of two texts, place by place, and of the time that a text is.
use Rattle.std.specs.Prelude.{Some, None}
use mathlib.Core.Path.{◌≡◌, refl, ◌∙◌, ap}
use mathlib.Core.Bool.{Bool, true, false, cond}
use mathlib.Core.List.{List}
use Prim.Native.Nat.{ℕ, ◌+◌, ◌<◌, ◌≤◌}
use native.Mathlib.Numerals.{add-one}
use lib.Dec.{eqb}
use lib.ListN.{length, drop, get_or, drop_of_length-le}
use lib.Seq.{drop-cons}
use borrow.Author.Tests.{eq-eqb, ne_eqb}
use Rattle.integers.specs.Tests.{◌and◌, fails}
use Rattle.calendar.specs.Calendar.{is_real, seconds_of}
use Rattle.calendar.specs.Text.{time_text, moment_in, same_text, time_in}
use Rattle.calendar.proofs.Back.{same_true, text-long}

-- texts of two lengths differ
pub unlike : (s t : List ℕ) → (length s ≡ length t → ⊥) → same_text s t ≡ false
unlike s t h = fails (same_text s t) (λ e. h (ap length (same_true s t e)))

module _ (s t : List ℕ) (i : ℕ) where
  at_place : i < length s → i < length t
      → same_text (drop i s) (drop i t) ≡ (eqb (get_or s i 0) (get_or t i 0) and same_text (drop (i + 1) s) (drop (i + 1) t))
  unfolding same_text
  at_place h k = rw (drop-cons s i 0 h, drop-cons t i 0 k, add-one i)

  pub differ : i < length s → i < length t → (get_or s i 0 ≡ get_or t i 0 → ⊥) → same_text (drop i s) (drop i t) ≡ false
  differ h k n = rw (at_place h k, ne_eqb (get_or s i 0) (get_or t i 0) n)

  pub agree : i < length s → i < length t → get_or s i 0 ≡ get_or t i 0 → same_text (drop i s) (drop i t) ≡ same_text (drop (i + 1) s) (drop (i + 1) t)
  agree h k e = rw (at_place h k, eq-eqb (get_or s i 0) (get_or t i 0) e)

  pub both_end : length s ≤ i → length t ≤ i → same_text (drop i s) (drop i t) ≡ true
  unfolding same_text
  both_end h k = rw (drop_of_length-le s {i = i} h, drop_of_length-le t {i = i} k)

-- ---- a text is a time, or is none

module _ (s : List ℕ) where
  pub not-real : is_real (moment_in s) ≡ false → time_in s ≡ None
  unfolding time_in
  not-real e = rw e

  pub other_text : same_text s (time_text (moment_in s)) ≡ false → time_in s ≡ None
  unfolding time_in
  other_text e = by (is_real (moment_in s))
    where
      by : (t : Bool) → cond (t and same_text s (time_text (moment_in s))) (Some (seconds_of (moment_in s))) None ≡ None
      by true = rw e
      by false = refl

  pub other_length : (length s ≡ 19 → ⊥) → time_in s ≡ None
  other_length h = other_text (unlike s (time_text (moment_in s)) (λ e. h (e ∙ text-long (moment_in s))))

  pub is-time : is_real (moment_in s) ≡ true → same_text s (time_text (moment_in s)) ≡ true → time_in s ≡ Some (seconds_of (moment_in s))
  unfolding time_in
  is-time e f = rw (e, f)
