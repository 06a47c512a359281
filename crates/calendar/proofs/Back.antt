-- A real moment that was written is read back, and a text is read as a time only if it is the text of a real moment: each moment has one text.
use Rattle.std.specs.Prelude.{Some, None, ◌≡◌, refl, Bool, true, false, cond, List, [], ◌∷◌, ◌↔◌, ℕ, ◌+◌, ◌-◌, ◌*◌, ◌/◌, ◌%◌, ◌≤◌, length}
use Rattle.std.proofs.Common.{sym, ◌∙◌, ap, ap₂, arith, eqb-true, eq-eqb}
use Rattle.integers.specs.Tests.{◌and◌, joined}
use Rattle.text.specs.Numbers.{ascii, digit, last_digits}
use Rattle.calendar.specs.declared.Moment.{Moment}
use Rattle.calendar.specs.Calendar.{Real, is_real, seconds_of, most_seconds, moment_of}
use Rattle.calendar.specs.Text.{time_text, value_at, moment_in, same_text, time_in}
use Rattle.calendar.proofs.Years.{month-most}
use Rattle.calendar.proofs.Moments.{tested_real, real-tested, at_most, moment-real, moment-seconds, moment-again}

-- ---- two texts

pub same_true : (s t : List ℕ) → same_text s t ≡ true → s ≡ t
unfolding same_text
same_true [] [] h = refl
same_true [] (b ∷ t) h = absurd (let z : ◌≡◌ {A = ℕ} 0 1 = cc in omega arith)
same_true (a ∷ s) [] h = absurd (let z : ◌≡◌ {A = ℕ} 0 1 = cc in omega arith)
same_true (a ∷ s) (b ∷ t) h = let (p, q) = simp joined at h in ap₂ (λ x y. x ∷ y) (eqb-true a b p) (same_true s t q)

pub same_refl : (s : List ℕ) → same_text s s ≡ true
unfolding same_text
same_refl [] = refl
same_refl (a ∷ s) = rw (eq-eqb a a refl) (same_refl s)

-- ---- the text

-- two digits, and four
pub two_digits : (n : ℕ) → last_digits 2 n ≡ digit (n / 10 % 10) ∷ digit (n % 10) ∷ []
unfolding last_digits
two_digits n = refl

pub four-digits : (n : ℕ) → last_digits 4 n ≡ digit (n / 1000 % 10) ∷ digit (n / 100 % 10) ∷ digit (n / 10 % 10) ∷ digit (n % 10) ∷ []
unfolding last_digits
four-digits n =
    let e : n / 10 / 10 ≡ n / 100 = omega arith in
    let f : n / 10 / 10 / 10 ≡ n / 1000 = omega arith in
    rw (f, e)

pub text-long : (m : Moment) → length (time_text m) ≡ 19
unfolding time_text last_digits ascii
text-long m = refl

-- the moment in its text
abbrev from : ℕ → ℕ → ℕ
from n character = n * 10 + (character - digit 0)

value-two : (n : ℕ) → n ≤ 99 → from (from 0 (digit (n / 10 % 10))) (digit (n % 10)) ≡ n
value-two n h = omega arith

value-four : (n : ℕ) → n ≤ 9999
    → from (from (from (from 0 (digit (n / 10 / 10 / 10 % 10))) (digit (n / 10 / 10 % 10))) (digit (n / 10 % 10))) (digit (n % 10)) ≡ n
value-four n h = omega arith

moment-back : (m : Moment) → Real m → moment_in (time_text m) ≡ m
unfolding moment_in value_at time_text last_digits ascii
moment-back m r =
    λ i. record {
      year = value-four m.year r.year.1 i;
      month = value-two m.month (omega arith) i;
      day = value-two m.day (omega (arith, month-most m.year m.month)) i;
      hour = value-two m.hour (omega arith) i;
      minute = value-two m.minute (omega arith) i;
      second = value-two m.second (omega arith) i;
    }

-- two real moments with one text are the same
pub one-text : (a b : Moment) → Real a → Real b → time_text a ≡ time_text b → a ≡ b
one-text a b r s e = sym (moment-back a r) ∙ ap moment_in e ∙ moment-back b s

-- ---- reading

-- the text of a real moment is read as its seconds
pub time-back : (m : Moment) → Real m → time_in (time_text m) ≡ Some (seconds_of m)
unfolding time_in
time-back m r = rw (moment-back m r, real-tested m r, same_refl (time_text m))

-- and any other text as nothing: what is read is the text of a real moment
pub record TextOf (s : List ℕ) (n : ℕ) : Type 0 where
  pub moment : Moment
  pub real : Real moment
  pub text : s ≡ time_text moment
  pub seconds : n ≡ seconds_of moment

pub time-only : (s : List ℕ) (n : ℕ) → time_in s ≡ Some n → TextOf s n
unfolding time_in
time-only s n e = by (is_real (moment_in s)) (same_text s (time_text (moment_in s))) refl refl e
  where
    by : (p q : Bool) → is_real (moment_in s) ≡ p → same_text s (time_text (moment_in s)) ≡ q
        → cond (p and q) (Some (seconds_of (moment_in s))) None ≡ Some n → TextOf s n
    by true true p q e =
        record { moment = moment_in s; real = tested_real (moment_in s) p; text = same_true s (time_text (moment_in s)) q; seconds = (cc) }
    by true false p q e = absurd (let z : ◌≡◌ {A = ℕ} 0 1 = cc in omega arith)
    by false q p _ e = absurd (let z : ◌≡◌ {A = ℕ} 0 1 = cc in omega arith)

-- both in terms of seconds
pub time-exactly : (s : List ℕ) (n : ℕ) → (time_in s ≡ Some n) ↔ ((n ≤ most_seconds) × (s ≡ time_text (moment_of n)))
time-exactly s n = (read, written)
  where
    read : time_in s ≡ Some n → (n ≤ most_seconds) × (s ≡ time_text (moment_of n))
    read e =
        let t = time-only s n e in
        let m : moment_of n ≡ t.moment = ap moment_of t.seconds ∙ moment-again t.moment t.real in
        (omega (arith, t.seconds, at_most t.real), t.text ∙ ap time_text (sym m))

    written : (n ≤ most_seconds) × (s ≡ time_text (moment_of n)) → time_in s ≡ Some n
    written (h, e) = ap time_in e ∙ time-back (moment_of n) (moment-real n h) ∙ ap Some (moment-seconds n h)
