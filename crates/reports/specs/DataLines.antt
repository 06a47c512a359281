-- A data line has at least 83 characters: 19 of its time, six numbers of at least 8 or 11 after spaces, and a newline.
-- So a text has no more points than its length allows.
use Rattle.std.specs.Prelude.{◌≡◌, Bool, true, false, cond, ℕ, zero, suc, ◌+◌, ◌*◌, ◌/◌, ◌%◌, ◌^◌, ◌≤◌, ltb, eqb, ℤ, pos, negsuc, length, take, drop, get_or}
use Rattle.std.proofs.Math.Path.{refl}
use Rattle.std.proofs.Common.{ap, arith, length-drop}
use Rattle.std.proofs.lemmas.Bool.{false≢true}
use mathlib.Core.List.{List, [], ◌∷◌, ◌++◌, flatten}
use Rattle.std.proofs.Math.ListN.{length-append}
use Rattle.integers.specs.Tests.{joined}
use Rattle.text.specs.Numbers.{ascii, digit, digits, decimal, last_digits}
use Rattle.std.specs.Prelude.{Option, Some, None, is_some}
use Rattle.calendar.specs.Text.{time_in}
use Rattle.calendar.proofs.Back.{same_true, text-long, time-only}
use Rattle.decimal.specs.Text.{fixed, fixed_text, few_digits}
use Rattle.decimal.specs.Reading.{fixed_at}
use Rattle.decimal.proofs.Digits.{length-last_digits}
use Rattle.decimal.proofs.Back.{fixed-only}
use Rattle.message.specs.Refusals.{is_time}
use Rattle.received.specs.Data.{Point, decimals_of, field_by, field_at, field_start, datum_in, point_in, accepts, points_in, value_of, end_of}

-- ---- a number with decimals has a digit, a point and the decimals

some-digit : (n : ℕ) → 1 ≤ length (decimal n)
unfolding decimal digits
some-digit n =
    let before = elim (ltb n 10) as (λ _. List ℕ) [ true ↦ [] | false ↦ digits 19 (n / 10) ] in
    omega (arith, length-append before (digit (n % 10) ∷ []))

fixed-long : (places n : ℕ) → places + 2 ≤ length (fixed places n)
unfolding fixed ascii
fixed-long places n =
    let whole = decimal (n / 10 ^ places) in
    omega (
      arith,
      length-append (whole ++ (46 ∷ [])) (last_digits places n),
      length-append whole (46 ∷ []),
      some-digit (n / 10 ^ places),
      length-last_digits places n,
    )

text-least : (places : ℕ) (z : ℤ) → places + 2 ≤ length (fixed_text places z)
unfolding fixed_text ascii
text-least places (pos n) = fixed-long places n
text-least places (negsuc n) = omega (arith, fixed-long places (suc n))

-- ---- where a field ends: nowhere, or so far behind its start

Ends : ℕ → ℕ → Option (ℤ × ℕ) → Type 0
Ends places at f = (end_of f ≡ 0 → ⊥) → at + places + 3 ≤ (end_of f)

no_end : (places at : ℕ) → Ends places at None
unfolding Ends
no_end places at h = absurd (h refl)

number-end : (places : ℕ) (line : List ℕ) (at : ℕ) (n : ℤ) (end : ℕ) → fixed_at places line (at + 1) ≡ Some (n, end) → (t : Bool)
    → Ends places at (cond t (Some (n, end)) None)
unfolding Ends
number-end places line at n end e true h = omega (arith, (fixed-only places line (at + 1) n end e).0.ends, text-least places n)
number-end places line at n end e false h = absurd (h refl)

signed-end : (places : ℕ) (line : List ℕ) (at : ℕ) (s : Option (ℤ × ℕ)) → fixed_at places line (at + 1) ≡ s → Ends places at (field_by places s)
unfolding field_by
signed-end places line at (Some (n, end)) e = number-end places line at n end e (few_digits places n)
signed-end places line at None e = no_end places at

space-end : (places : ℕ) (line : List ℕ) (at : ℕ) (t : Bool) → Ends places at (cond t (field_by places (fixed_at places line (at + 1))) None)
space-end places line at true = signed-end places line at (fixed_at places line (at + 1)) refl
space-end places line at false = no_end places at

field_end : (places : ℕ) (line : List ℕ) (at : ℕ) → (end_of (field_at places line at) ≡ 0 → ⊥)
    → (at ≡ 0 → ⊥) × (at + places + 3 ≤ end_of (field_at places line at))
unfolding field_at Ends
field_end places line zero h = absurd (h refl)
field_end places line (suc k) h = (λ z. omega arith, space-end places line (suc k) (eqb (get_or line (suc k) 0) 32) h)

-- ---- a data line

module _ (line : List ℕ) where
  next_start : (k : ℕ) → (field_start line (suc k) ≡ 0 → ⊥)
      → (field_start line k ≡ 0 → ⊥) × (field_start line k + decimals_of k + 3 ≤ field_start line (suc k))
  unfolding field_start
  next_start k h = field_end (decimals_of k) line (field_start line k) h

  first-start : field_start line 0 ≡ 19
  unfolding field_start
  first-start = refl

  last-start : (field_start line 6 ≡ 0 → ⊥) → 82 ≤ field_start line 6
  last-start h =
      let (n5, l5) = next_start 5 h in
      let (n4, l4) = next_start 4 n5 in
      let (n3, l3) = next_start 3 n4 in
      let (n2, l2) = next_start 2 n3 in
      let (n1, l1) = next_start 1 n2 in
      let (n0, l0) = next_start 0 n1 in
      omega (arith, first-start, l0, l1, l2, l3, l4, l5)

time-by : (s : List ℕ) (r : Option ℕ) → time_in s ≡ r → is_some r ≡ true → length s ≡ 19
time-by s (Some n) e h = let t = time-only s n e in omega (arith, ap length t.text, text-long t.moment)
time-by s None e h = absurd (false≢true h)

pub time-long : (s : List ℕ) → is_time s ≡ true → length s ≡ 19
unfolding is_time
time-long s h = time-by s (time_in s) refl h

no_longer : (n : ℕ) (s : List ℕ) → length (take n s) ≤ length s
no_longer zero s = omega arith
no_longer (suc n) [] = omega arith
no_longer (suc n) (b ∷ s) = omega (arith, no_longer n s)

line-long : (line : List ℕ) → (datum_in line).good ≡ true → 83 ≤ length line
unfolding datum_in ascii
line-long line h =
    let (t, e) = simp joined at h in
    let start = field_start line 6 in
    let one = ap length (same_true (drop start line) (10 ∷ []) e) in
    let gone = length-drop start line in
    let time = time-by (take 19 line) (time_in (take 19 line)) refl t in
    let least = no_longer 19 line in
    omega (arith, one, gone, last-start line (λ z. omega (arith, one, gone, time, least, z)))

-- ---- all data lines

module _ (line : List ℕ) (lines : List (List ℕ)) where
  one-more-line : (earliest : ℕ) → accepts earliest (datum_in line) ≡ true → (n : ℕ) → 83 * n ≤ length (flatten lines) → 83 * suc n ≤ length (flatten (line ∷ lines))
  unfolding flatten
  one-more-line earliest a n h = let (d, _) = simp joined at a in omega (arith, length-append line (flatten lines), line-long line d, h)

pub few-points : (earliest : ℕ) (lines : List (List ℕ)) → 83 * length (points_in earliest lines) ≤ length (flatten lines)
unfolding points_in
few-points earliest [] = omega arith
few-points earliest (line ∷ lines) =
    by (accepts earliest (datum_in line)) refl (few-points (suc (datum_in line).seconds) lines)
  where
    by : (t : Bool) → accepts earliest (datum_in line) ≡ t → 83 * length (points_in (suc (datum_in line).seconds) lines) ≤ length (flatten lines)
        → 83 * length {A = Point} (elim t as (λ _. List Point) [ true ↦ point_in line ∷ points_in (suc (datum_in line).seconds) lines | false ↦ [] ])
        ≤ length (flatten (line ∷ lines))
    by true a h = one-more-line line lines earliest a (length (points_in (suc (datum_in line).seconds) lines)) h
    by false a h = omega arith
