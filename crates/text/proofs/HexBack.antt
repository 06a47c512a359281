-- Hexadecimal digits printed and read back, byte by byte: the lemmas of `Back`.
use Rattle.std.specs.Prelude.{Option, Some, None, ◌≡◌, refl, Bool, true, false, cond, List, [], ◌∷◌, ◌++◌, ℕ, zero, suc, ◌+◌, ◌-◌, ◌*◌, ◌/◌, ◌%◌, ◌^◌, ◌<◌, ltb, leb}
use Rattle.std.proofs.Common.{sym, ◌∙◌, ap, append_assoc, pow-suc, arith, lt-ltb, le-ltb, le-leb, ltb-true, ltb-false, leb-true}
use Rattle.std.proofs.lemmas.Bool.{lt-leb}
use Rattle.integers.specs.Tests.{◌and◌, joined}
use Rattle.text.specs.Numbers.{hex_digit, hex_digits}
use Rattle.text.specs.Reading.{hex_digit_of, hex_going_on}
use Rattle.text.proofs.Digits.{length-hex_digits}
use Rattle.text.proofs.DecimalBack.{Splits, parts, refuted}

-- ---- one digit

digit-by : (d : ℕ) (t : Bool) → ltb d 10 ≡ t → d < 16 → hex_digit_of (hex_digit d) ≡ d
unfolding hex_digit hex_digit_of
digit-by d true t h =
    let e : 48 + d - 48 ≡ d = omega arith in
    rw (t, le-leb 48 (48 + d) (omega arith), le-leb (48 + d) 57 (omega (arith, ltb-true d 10 t)), e)
digit-by d false t h =
    let e : 87 + d - 87 ≡ d = omega arith in
    rw (t, le-leb 48 (87 + d) (omega arith), lt-leb (87 + d) 57 (omega (arith, ltb-false d 10 t)), le-leb 97 (87 + d) (omega (arith, ltb-false d 10 t)), le-leb (87 + d) 102 (omega arith), e)

digit-back : (d : ℕ) → d < 16 → hex_digit_of (hex_digit d) ≡ d
digit-back d h = digit-by d (ltb d 10) refl h

byte-by : (b : ℕ) (t u : Bool) → (leb 48 b and leb b 57) ≡ t → (leb 97 b and leb b 102) ≡ u → cond t (b - 48) (cond u (b - 87) 16) < 16 → hex_digit (cond t (b - 48) (cond u (b - 87) 16)) ≡ b
unfolding hex_digit
byte-by b true u t _ h =
    let (l, m) = simp joined at t in
    let e : 48 + (b - 48) ≡ b = omega (arith, leb-true 48 b l) in
    rw (lt-ltb (b - 48) 10 (omega (arith, leb-true b 57 m))) e
byte-by b false true _ u h =
    let (l, m) = simp joined at u in
    let e : 87 + (b - 87) ≡ b = omega (arith, leb-true 97 b l) in
    rw (le-ltb (b - 87) 10 (omega (arith, leb-true 97 b l))) e
byte-by b false false _ _ h = absurd (omega arith)

byte-back : (b : ℕ) → hex_digit_of b < 16 → hex_digit (hex_digit_of b) ≡ b
unfolding hex_digit_of
byte-back b h = byte-by b (leb 48 b and leb b 57) (leb 97 b and leb b 102) refl refl h

-- ---- what was printed is read

one_more : (j : ℕ) (rest : List ℕ) (n d at : ℕ) → d < 16 → hex_going_on (suc j) (hex_digit d ∷ rest) n at ≡ hex_going_on j rest (n * 16 + d) (at + 1)
unfolding hex_going_on
one_more j rest n d at h = rw (digit-back d h, lt-ltb d 16 h)

-- the last k digits of n, read, are n so far
through : (k n : ℕ) → n < 16 ^ k → (j : ℕ) (rest : List ℕ) (at : ℕ) → hex_going_on (k + j) (hex_digits k n ++ rest) 0 at ≡ hex_going_on j rest n (at + k)
unfolding hex_digits
through zero n h j rest at =
    let e : n ≡ 0 = omega arith in
    let z : at + 0 ≡ at = omega arith in
    let y : 0 + j ≡ j = omega arith in
    rw (e, z, y)
through (suc k) n h j rest at =
    let m : suc k + j ≡ k + suc j = omega arith in
    let v : n / 16 * 16 + n % 16 ≡ n = omega arith in
    let w : at + k + 1 ≡ at + suc k = omega arith in
    ap (λ i. hex_going_on i ((hex_digits k (n / 16) ++ (hex_digit (n % 16) ∷ [])) ++ rest) 0 at) m
    ∙ ap (λ ds. hex_going_on (k + suc j) ds 0 at) (append_assoc (hex_digits k (n / 16)) (hex_digit (n % 16) ∷ []) rest)
    ∙ through k (n / 16) (omega (arith, rw pow-suc at h)) (suc j) (hex_digit (n % 16) ∷ rest) at
    ∙ one_more j rest (n / 16) (n % 16) (at + k) (omega arith)
    ∙ ap (λ i. hex_going_on j rest i (at + k + 1)) v
    ∙ ap (hex_going_on j rest n) w

pub reads : (rest : List ℕ) (n at : ℕ) → n < 2 ^ 64 → hex_going_on 16 (hex_digits 16 n ++ rest) 0 at ≡ Some (n, at + 16)
unfolding hex_going_on
reads rest n at h = through 16 n h 0 rest at

-- ---- what is read was printed

-- text begins with the last j + k digits of n but for the j of m, which stand before it
record Begins (text : List ℕ) (at j m k n end : ℕ) : Type 0 where
  rest : List ℕ
  holds : hex_digits j m ++ text ≡ hex_digits (j + k) n ++ rest
  ends : end ≡ at + k
  fits : n < 16 ^ (j + k)

moved : {text : List ℕ} {b at j m k n end : ℕ} → hex_digit_of b < 16 → Begins text (at + 1) (suc j) (m * 16 + hex_digit_of b) k n end → Begins (b ∷ text) at j m (suc k) n end
unfolding hex_digits
moved {text} {b} {at} {j} {m} {k} {n} {end} d g =
    let q : (m * 16 + hex_digit_of b) / 16 ≡ m = omega arith in
    let r : (m * 16 + hex_digit_of b) % 16 ≡ hex_digit_of b = omega arith in
    let e : hex_digits (suc j) (m * 16 + hex_digit_of b) ≡ hex_digits j m ++ (b ∷ []) = rw (q, r, byte-back b d) in
    let s : suc j + k ≡ j + suc k = omega arith in
    record {
      rest = g.rest;
      holds = sym (append_assoc (hex_digits j m) (b ∷ []) text) ∙ ap (λ ds. ds ++ text) (sym e) ∙ g.holds ∙ ap (λ i. hex_digits i n ++ g.rest) s;
      ends = omega (arith, g.ends);
      fits = rw s at g.fits;
    }

by-test : {text : List ℕ} {b at j m k n end : ℕ} (t : Bool) → ltb (hex_digit_of b) 16 ≡ t → (u : Option (ℕ × ℕ)) → (hex_digit_of b < 16 → u ≡ Some (n, end) → Begins text (at + 1) (suc j) (m * 16 + hex_digit_of b) k n end) → cond t u None ≡ Some (n, end) → Begins (b ∷ text) at j m (suc k) n end
by-test {b = b} true t u ih e = let d = ltb-true (hex_digit_of b) 16 t in moved d (ih d e)
by-test false t u ih e = refuted e

only-more : (k : ℕ) (text : List ℕ) (at j m n end : ℕ) → m < 16 ^ j → hex_going_on k text m at ≡ Some (n, end) → Begins text at j m k n end
unfolding hex_going_on
only-more zero text at j m n end h e =
    let (x, y) = parts e in
    let s : j + 0 ≡ j = omega arith in
    record { rest = text; holds = rw (s, x); ends = omega arith; fits = rw (s, ← x) h }
only-more (suc k) [] at j m n end h e = refuted e
only-more (suc k) (b ∷ text) at j m n end h e =
    by-test (ltb (hex_digit_of b) 16) refl (hex_going_on k text (m * 16 + hex_digit_of b) (at + 1))
    (λ d. only-more k text (at + 1) (suc j) (m * 16 + hex_digit_of b) n end (omega (arith, pow-suc 16 j)))
    e

pub only : (text : List ℕ) (at n end : ℕ) → hex_going_on 16 text 0 at ≡ Some (n, end) → Splits text at (hex_digits 16 n) end × (n < 2 ^ 64)
unfolding hex_digits
only text at n end e =
    let g = only-more 16 text at 0 0 n end (omega arith) e in
    (record { rest = g.rest; holds = g.holds; ends = omega (arith, g.ends, length-hex_digits 16 n) }, g.fits)
