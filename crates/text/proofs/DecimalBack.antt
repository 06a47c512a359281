-- Decimal digits printed and read back, byte by byte: the lemmas of `Back`.
use Rattle.std.specs.Prelude.{Option, unwrap_or, Some, None, ◌≡◌, refl, Bool, true, false, cond, List, [], ◌∷◌, ◌++◌, ℕ, zero, suc, ◌+◌, ◌-◌, ◌*◌, ◌/◌, ◌%◌, ◌^◌, ◌<◌, ◌≤◌, ltb, eqb, length}
use Rattle.std.proofs.Common.{sym, ◌∙◌, ap, append_assoc, pow-suc, arith, length-append, lt-ltb, le-leb, ltb-true, ltb-false, leb-true, eqb-true, ne_eqb}
use Rattle.std.proofs.lemmas.Bool.{eqb-false}
use Rattle.integers.specs.Tests.{joined}
use Rattle.text.specs.Numbers.{digit, decimal}
use Rattle.text.specs.Reading.{is_digit, going_on, decimal_in}
use Rattle.text.proofs.Digits.{decimal-small, decimal-more}

-- no digit follows
pub data NoDigit : List ℕ → Type 0 where
  ended : NoDigit []
  other : {b : ℕ} {text : List ℕ} → is_digit b ≡ false → NoDigit (b ∷ text)

-- ---- what was printed is read

stops : (text : List ℕ) (n at : ℕ) → NoDigit text → going_on text n at ≡ Some (n, at)
unfolding going_on
stops [] n at ended = refl
stops (b ∷ text) n at (other e) = rw e

one_more : (text : List ℕ) (n d at : ℕ) → d < 10 → n * 10 + d < 2 ^ 64 → going_on (digit d ∷ text) n at ≡ going_on text (n * 10 + d) (at + 1)
unfolding going_on
one_more text n d at h f =
    let e : digit d - 48 ≡ d = omega arith in
    rw (le-leb 48 (digit d) (omega arith), le-leb (digit d) 57 (omega arith), e, lt-ltb (n * 10 + d) (2 ^ 64) f)

first-digit : (text : List ℕ) (d at : ℕ) → d < 10 → 0 < d → decimal_in (digit d ∷ text) at ≡ going_on text d (at + 1)
unfolding decimal_in
first-digit text d at h p =
    let e : digit d - 48 ≡ d = omega arith in
    rw (le-leb 48 (digit d) (omega arith), le-leb (digit d) 57 (omega arith), ne_eqb (digit d) 48 (λ q. omega arith), e)

-- the digits of n, read, are n so far
abbrev Through : ℕ → ℕ → Type 0
Through at n = 0 < n → n < 2 ^ 64 → (rest : List ℕ) → decimal_in (decimal n ++ rest) at ≡ going_on rest n (at + length (decimal n))

by_size : (at n : ℕ) (t : Bool) → ltb n 10 ≡ t → Through at (n / 10) → Through at n
by_size at n true t ih p f rest = rw (decimal-small n (ltb-true n 10 t)) (first-digit rest n at (ltb-true n 10 t) p)
by_size at n false t ih p f rest =
    let e = decimal-more n (ltb-false n 10 t) f in
    let l : length (decimal n) ≡ length (decimal (n / 10)) + 1 = ap length e ∙ length-append (decimal (n / 10)) (digit (n % 10) ∷ []) in
    let v : n / 10 * 10 + n % 10 ≡ n = omega arith in
    let w : at + length (decimal (n / 10)) + 1 ≡ at + length (decimal n) = omega arith in
    ap (λ ds. decimal_in (ds ++ rest) at) e
    ∙ ap (λ ds. decimal_in ds at) (append_assoc (decimal (n / 10)) (digit (n % 10) ∷ []) rest)
    ∙ ih (omega (arith, ltb-false n 10 t)) (omega arith) (digit (n % 10) ∷ rest)
    ∙ one_more rest (n / 10) (n % 10) (at + length (decimal (n / 10))) (omega arith) (omega arith)
    ∙ ap (λ m. going_on rest m (at + length (decimal (n / 10)) + 1)) v
    ∙ ap (going_on rest n) w

through : (k at n : ℕ) → n < 10 ^ k → Through at n
through zero at n b = λ p. absurd (omega arith)
through (suc k) at n b = by_size at n (ltb n 10) refl (through k at (n / 10) (omega (arith, rw pow-suc at b)))

-- the whole text of n, and then no digit
pub reads : (rest : List ℕ) (n at : ℕ) → n < 2 ^ 64 → NoDigit rest → decimal_in (decimal n ++ rest) at ≡ Some (n, at + length (decimal n))
unfolding decimal_in
reads rest zero at f e = rw (decimal-small 0 (omega arith))
reads rest (suc n) at f e = through 20 at (suc n) (omega arith) (omega arith) f rest ∙ stops rest (suc n) _ e

-- ---- what is read was printed

-- text begins with the digits of m but for those of n, which stand before it
record Begins (text : List ℕ) (at n m end : ℕ) : Type 0 where
  rest : List ℕ
  holds : decimal n ++ text ≡ decimal m ++ rest
  ends : end + length (decimal n) ≡ at + length (decimal m)
  fits : m < 2 ^ 64

-- a digit moves from the text to the number
moved : {text : List ℕ} {b at n m end : ℕ} → 0 < n → is_digit b ≡ true → n * 10 + (b - 48) < 2 ^ 64 → Begins text (at + 1) (n * 10 + (b - 48)) m end → Begins (b ∷ text) at n m end
moved {text} {b} {at} {n} {m} {end} p d f g =
    let (l, u) = simp joined at d in
    let l' : 48 ≤ b = leb-true 48 b l in
    let u' : b ≤ 57 = leb-true b 57 u in
    let q : (n * 10 + (b - 48)) / 10 ≡ n = omega arith in
    let r : digit ((n * 10 + (b - 48)) % 10) ≡ b = omega arith in
    let e : decimal (n * 10 + (b - 48)) ≡ decimal n ++ (b ∷ []) = decimal-more (n * 10 + (b - 48)) (omega arith) f ∙ rw (q, r) in
    let s : length (decimal (n * 10 + (b - 48))) ≡ length (decimal n) + 1 = ap length e ∙ length-append (decimal n) (b ∷ []) in
    record {
      rest = g.rest;
      holds = sym (append_assoc (decimal n) (b ∷ []) text) ∙ ap (λ ds. ds ++ text) (sym e) ∙ g.holds;
      ends = omega (arith, g.ends);
      fits = g.fits;
    }

-- one number at one place
pub parts : {A : Type 0} {n m : A} {at end : ℕ} → ◌≡◌ {A = Option (A × ℕ)} (Some (n, at)) (Some (m, end)) → (n ≡ m) × (at ≡ end)
parts {A} {n = n} {at = at} e = (ap (λ (o : Option (A × ℕ)). (unwrap_or o (n, at)).0) e, ap (λ (o : Option (A × ℕ)). (unwrap_or o (n, at)).1) e)

-- no digit moves
all_read : {text : List ℕ} {at n m end : ℕ} → n < 2 ^ 64 → ◌≡◌ {A = Option (ℕ × ℕ)} (Some (n, at)) (Some (m, end)) → Begins text at n m end
all_read {text} {at} {n} {m} {end} f e =
    let (x, y) = parts e in
    record { rest = text; holds = ap (λ k. decimal k ++ text) x; ends = omega (arith, ap (λ k. length (decimal k)) x); fits = omega arith }

pub refuted {ℓ} : {A : Type ℓ} {m end : ℕ} → ◌≡◌ {A = Option (ℕ × ℕ)} None (Some (m, end)) → A
refuted e = absurd (let z : ◌≡◌ {A = ℕ} 0 1 = cc in omega arith)

by_tests : {text : List ℕ} {b at n m end : ℕ} (d t : Bool) → is_digit b ≡ d → ltb (n * 10 + (b - 48)) (2 ^ 64) ≡ t → 0 < n → n < 2 ^ 64 → (u : Option (ℕ × ℕ)) → (n * 10 + (b - 48) < 2 ^ 64 → u ≡ Some (m, end) → Begins text (at + 1) (n * 10 + (b - 48)) m end) → cond d (cond t u None) (Some (n, at)) ≡ Some (m, end) → Begins (b ∷ text) at n m end
by_tests {b = b} {n = n} true true d t p f u ih e = let h = ltb-true (n * 10 + (b - 48)) (2 ^ 64) t in moved p d h (ih h e)
by_tests true false d t p f u ih e = refuted e
by_tests false t d _ p f u ih e = all_read f e

only-more : (text : List ℕ) (at n m end : ℕ) → 0 < n → n < 2 ^ 64 → going_on text n at ≡ Some (m, end) → Begins text at n m end
unfolding going_on
only-more [] at n m end p f e = all_read f e
only-more (b ∷ text) at n m end p f e =
    by_tests (is_digit b) (ltb (n * 10 + (b - 48)) (2 ^ 64)) refl refl p f (going_on text (n * 10 + (b - 48)) (at + 1))
    (only-more text (at + 1) (n * 10 + (b - 48)) m end (omega arith))
    e

-- a text that begins with a word which ends at a place
pub record Splits (text : List ℕ) (at : ℕ) (word : List ℕ) (end : ℕ) : Type 0 where
  pub rest : List ℕ
  pub holds : text ≡ word ++ rest
  pub ends : end ≡ at + length word

-- the first digit is not 0
begun : {text : List ℕ} {b at m end : ℕ} → is_digit b ≡ true → Begins text (at + 1) (b - 48) m end → Splits (b ∷ text) at (decimal m) end × (m < 2 ^ 64)
begun {text} {b} {at} {m} {end} d g =
    let (l, u) = simp joined at d in
    let l' : 48 ≤ b = leb-true 48 b l in
    let u' : b ≤ 57 = leb-true b 57 u in
    let r : digit (b - 48) ≡ b = omega arith in
    let e : decimal (b - 48) ≡ b ∷ [] = decimal-small (b - 48) (omega arith) ∙ ap (λ k. k ∷ []) r in
    (record { rest = g.rest; holds = ap (λ ds. ds ++ text) (sym e) ∙ g.holds; ends = omega (arith, g.ends, ap length e) }, g.fits)

-- 0 alone
alone : {text : List ℕ} {b at m end : ℕ} → eqb b 48 ≡ true → ◌≡◌ {A = Option (ℕ × ℕ)} (Some (0, at + 1)) (Some (m, end)) → Splits (b ∷ text) at (decimal m) end × (m < 2 ^ 64)
alone {text} {b} {at} {m} {end} z e =
    let (x, y) = parts e in
    let w : decimal m ≡ b ∷ [] = ap decimal (sym x) ∙ decimal-small 0 (omega arith) ∙ ap (λ k. k ∷ []) (sym (eqb-true b 48 z)) in
    (record { rest = text; holds = ap (λ ds. ds ++ text) (sym w); ends = omega (arith, ap length w) }, omega arith)

first_by : {text : List ℕ} {b at m end : ℕ} (d z : Bool) → is_digit b ≡ d → eqb b 48 ≡ z → cond d (cond z (Some (0, at + 1)) (going_on text (b - 48) (at + 1))) None ≡ Some (m, end) → Splits (b ∷ text) at (decimal m) end × (m < 2 ^ 64)
first_by true true d z e = alone z e
first_by {text} {b} {at} {m} {end} true false d z e =
    let (l, u) = simp joined at d in
    begun d (only-more text (at + 1) (b - 48) m end (omega (arith, leb-true 48 b l, eqb-false b 48 z)) (omega (arith, leb-true b 57 u)) e)
first_by false z d _ e = refuted e

pub only : (text : List ℕ) (at m end : ℕ) → decimal_in text at ≡ Some (m, end) → Splits text at (decimal m) end × (m < 2 ^ 64)
unfolding decimal_in
only [] at m end e = refuted e
only (b ∷ text) at m end e = first_by (is_digit b) (eqb b 48) refl refl e
