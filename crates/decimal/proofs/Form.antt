-- What the text of a number looks like: a sign or none, digits without a spare zero, a point, and as many digits as there are to be.
use Rattle.std.specs.Prelude.{Some, ◌≡◌, refl, Bool, true, false, List, [], ◌∷◌, ◌++◌, ℕ, zero, suc, ◌/◌, ◌%◌, ◌^◌, ◌<◌, ltb, ℤ, pos, negsuc, length, drop, get_or, ◌≤ℤ◌, ◌<ℤ◌}
use Rattle.std.proofs.Math.Path.{sym, ap}
use Rattle.std.proofs.Common.{◌∙◌, append-nil, append_assoc, arith, drop_of_length-le, SFits, le-leb}
use Rattle.std.proofs.Math.Nat.{div-le_self}
use Rattle.std.specs.Int.{w64}
use Rattle.integers.specs.Parts.{integers}
use Rattle.integers.specs.Tests.{joined}
use Rattle.text.specs.Places.{Stands}
use Rattle.text.specs.Numbers.{ascii, digit, digits, decimal, last_digits}
use Rattle.text.specs.Reading.{is_digit, decimal_in, decimal_at}
use Rattle.text.proofs.DecimalBack.{ended, parts, refuted}
use Rattle.text.proofs.Back.{decimal-back}
use Rattle.decimal.specs.Text.{fixed, fixed_text}
use Rattle.decimal.proofs.Digits.{length-last_digits, one-at-least}

-- each byte is a digit
abbrev pub Digits : List ℕ → Type 0
Digits [] = Unit {0}
Digits (b ∷ bytes) = (is_digit b ≡ true) × Digits bytes

pub record Form (places : ℕ) (n : ℤ) (text : List ℕ) : Type 0 where
  pub sign : List ℕ
  pub whole : List ℕ
  pub decimals : List ℕ
  pub holds : text ≡ sign ++ whole ++ ascii "." ++ decimals
  -- a sign exactly where the number is below 0
  pub minus : n <ℤ pos 0 → sign ≡ ascii "-"
  pub no_minus : pos 0 ≤ℤ n → sign ≡ []
  -- one digit at least, and more only where the first is not 0
  pub digits-before : Digits whole
  pub not-empty : 0 < length whole
  pub no-spare-zero : get_or whole 0 0 ≡ digit 0 → length whole ≡ 1
  pub digits-after : Digits decimals
  pub just-so-many : length decimals ≡ places

-- ---- digits

is_digit_lem : (d : ℕ) → d < 10 → is_digit (digit d) ≡ true
is_digit_lem d h = simp joined (le-leb 48 (digit d) (omega arith), le-leb (digit d) 57 (omega arith))

one_more : (bytes : List ℕ) (d : ℕ) → d < 10 → Digits bytes → Digits (bytes ++ (digit d ∷ []))
one_more [] d h p = (is_digit_lem d h, tt)
one_more (b ∷ bytes) d h p = (p.0, one_more bytes d h p.1)

last_digits_lem : (k n : ℕ) → Digits (last_digits k n)
unfolding last_digits
last_digits_lem zero n = tt
last_digits_lem (suc k) n = one_more (last_digits k (n / 10)) (n % 10) (omega arith) (last_digits_lem k (n / 10))

of-digits : (most n : ℕ) → Digits (digits most n)
unfolding digits
of-digits zero n = tt
of-digits (suc most) n = by (ltb n 10) (of-digits most (n / 10))
  where
    by : (t : Bool) → Digits (digits most (n / 10)) → Digits (elim t as (λ _. List ℕ) [ true ↦ [] | false ↦ digits most (n / 10) ] ++ (digit (n % 10) ∷ []))
    by true p = (is_digit_lem (n % 10) (omega arith), tt)
    by false p = one_more (digits most (n / 10)) (n % 10) (omega arith) p

all_digits : (n : ℕ) → Digits (decimal n)
unfolding decimal
all_digits n = of-digits 20 n

-- ---- a first digit of 0 is the only one

only_zero : (text : List ℕ) (n end : ℕ) → decimal_in text 0 ≡ Some (n, end) → get_or text 0 0 ≡ 48 → length text ≡ end → length text ≡ 1
unfolding decimal_in
only_zero [] n end e q l = refuted e
only_zero (b ∷ text) n end e q l =
    let (x, y) = parts {n = 0} {m = n} {at = 1} {end = end} (rw q at e) in
    l ∙ sym y

no-spare : (n : ℕ) → n < 2 ^ 64 → get_or (decimal n) 0 0 ≡ digit 0 → length (decimal n) ≡ 1
unfolding decimal_at
no-spare n f q =
    let text = decimal n in
    let past : drop (length text) text ≡ [] = drop_of_length-le text {i = length text} (omega arith) in
    let there : Stands text 0 text (length text) = record { ends = omega arith; holds = sym (append-nil text) ∙ ap (λ r. text ++ r) (sym past) } in
    let e = decimal-back text 0 n (length text) f there (rw past ended) in
    only_zero text n (length text) e q refl

-- ---- the text of a number

module _ (places m : ℕ) (n : ℤ) (f : m < 2 ^ 64) where
  formed : (sign text : List ℕ) → text ≡ sign ++ fixed places m
      → (n <ℤ pos 0 → sign ≡ ascii "-") → (pos 0 ≤ℤ n → sign ≡ []) → Form places n text
  unfolding fixed
  formed sign text e p q =
      let w = decimal (m / 10 ^ places) in
      let l : m / 10 ^ places < 2 ^ 64 = omega (arith, div-le_self m (10 ^ places)) in
      record {
        sign = sign;
        whole = w;
        decimals = last_digits places m;
        holds =
            e
            ∙ sym (append_assoc sign (w ++ ascii ".") (last_digits places m))
            ∙ ap (λ t. t ++ last_digits places m) (sym (append_assoc sign w (ascii ".")));
        minus = p;
        no_minus = q;
        digits-before = all_digits (m / 10 ^ places);
        not-empty = one-at-least (m / 10 ^ places) l;
        no-spare-zero = no-spare (m / 10 ^ places) l;
        digits-after = last_digits_lem places m;
        just-so-many = length-last_digits places m;
      }

pub form : (places : ℕ) (n : ℤ) → SFits w64 n → Form places n (fixed_text places n)
unfolding fixed_text
form places (pos m) f = formed places m (pos m) (omega integers) [] (fixed places m) refl (λ l. absurd (omega integers)) (λ l. refl)
form places (negsuc m) f =
    formed places (suc m) (negsuc m) (omega integers) (ascii "-") (ascii "-" ++ fixed places (suc m)) refl (λ l. refl) (λ l. absurd (omega integers))
