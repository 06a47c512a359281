-- A number without a sign, written with its decimals and read back, digit by digit: the lemmas of `Back`.
use Rattle.std.specs.Prelude.{Option, Some, None, ◌≡◌, Bool, true, false, cond, ltb, eqb}
use Rattle.std.proofs.Math.Path.{refl, sym, ap}
use Rattle.std.proofs.Common.{◌∙◌, subst, add-zero, div-one, arith, length-append, drop-drop, lt-ltb, le-leb, ltb-true, leb-true, eqb-true}
use mathlib.Core.List.{List, [], ◌∷◌, ◌++◌, append_assoc}
use Prim.Native.Nat.{ℕ, zero, suc, ◌+◌, ◌-◌, ◌*◌, ◌/◌, ◌%◌, ◌^◌, ◌<◌, ◌≤◌}
use Rattle.std.proofs.Math.Nat.{div-le_self}
use Rattle.std.proofs.Math.ListN.{length, drop}
use Rattle.std.proofs.Math.Seq.{drop_at}
use Rattle.integers.specs.Tests.{◌and◌, joined}
use Rattle.text.specs.Places.{Stands}
use Rattle.text.specs.Numbers.{digit, decimal, ascii, last_digits}
use Rattle.text.specs.Reading.{is_digit, decimal_at}
use Rattle.text.proofs.DecimalBack.{other, parts, refuted}
use Rattle.text.proofs.Back.{decimal-back, decimal-only}
use Rattle.decimal.specs.Text.{fixed}
use Rattle.decimal.specs.Reading.{more_digits, after_whole, with_decimals, size_at}
use Rattle.decimal.proofs.Digits.{length-last_digits, tenth, first-digit}

-- ---- a text in two pieces

module _ {s : List ℕ} {at : ℕ} (a b : List ℕ) {end : ℕ} where
  apart : Stands s at (a ++ b) end → Stands s at a (at + length a) × Stands s (at + length a) b end
  apart p =
      let h : drop at s ≡ a ++ (b ++ drop end s) = p.holds ∙ append_assoc a b (drop end s) in
      let t : drop (at + length a) s ≡ b ++ drop end s =
      sym (drop-drop (length a) at s) ∙ ap (drop (length a)) h ∙ drop_at a (b ++ drop end s) (length a) refl in (
        record { ends = refl; holds = h ∙ ap (λ r. a ++ r) (sym t) },
        record { ends = omega (arith, p.ends, length-append a b); holds = t },
      )

  together : {mid : ℕ} → Stands s at a mid → Stands s mid b end → Stands s at (a ++ b) end
  together p q =
      record {
        ends = omega (arith, p.ends, q.ends, length-append a b);
        holds = p.holds ∙ ap (λ r. a ++ r) q.holds ∙ sym (append_assoc a b (drop end s));
      }

-- ---- the digits after the point

one-digit : (k : ℕ) (text : List ℕ) (n d at : ℕ) → d < 10 → n < 10 ^ 18 → more_digits (suc k) (digit d ∷ text) n at ≡ more_digits k text (n * 10 + d) (at + 1)
unfolding more_digits
one-digit k text n d at h l =
    let e : digit d - 48 ≡ d = omega arith in
    rw (le-leb 48 (digit d) (omega arith), le-leb (digit d) 57 (omega arith), lt-ltb n (10 ^ 18) l, e)

-- the last k digits of n, read after those before them, give n
through : (k n : ℕ) (rest : List ℕ) (at : ℕ) → n < 10 ^ 19 → more_digits k (last_digits k n ++ rest) (n / 10 ^ k) at ≡ Some (n, at + k)
unfolding more_digits
through zero n rest at l = rw (div-one n, add-zero at)
through (suc k) n rest at l =
    let m = n / 10 ^ k in
    let b = div-le_self n (10 ^ k) in
    let v : n / 10 ^ suc k * 10 + m % 10 ≡ m = omega (arith, tenth k n) in
    let w : at + 1 + k ≡ at + suc k = omega arith in
    ap (λ ds. more_digits (suc k) (ds ++ rest) (n / 10 ^ suc k) at) (first-digit k n)
    ∙ one-digit k (last_digits k n ++ rest) (n / 10 ^ suc k) (m % 10) at (omega arith) (omega (arith, tenth k n))
    ∙ ap (λ i. more_digits k (last_digits k n ++ rest) i (at + 1)) v
    ∙ through k n rest (at + 1) l
    ∙ ap (λ k. Some (n, k)) w

-- text begins with the last k digits of n, and those before them are m
record Begins (text : List ℕ) (at m k n end : ℕ) : Type 0 where
  rest : List ℕ
  holds : text ≡ last_digits k n ++ rest
  ends : end ≡ at + k
  front : n / 10 ^ k ≡ m
  fits : n < 2 ^ 64

by-test : {text : List ℕ} {b at m k n end : ℕ} (t : Bool) → (is_digit b and ltb m (10 ^ 18)) ≡ t → (u : Option (ℕ × ℕ))
    → (m < 10 ^ 18 → u ≡ Some (n, end) → b ≤ 57 → Begins text (at + 1) (m * 10 + (b - 48)) k n end)
    → cond t u None ≡ Some (n, end) → Begins (b ∷ text) at m (suc k) n end
by-test {text} {b} {at} {m} {k} {n} {end} true t u ih e =
    let (d, v) = simp joined at t in
    let (l, h) = d in
    let l' : 48 ≤ b = leb-true 48 b l in
    let h' : b ≤ 57 = leb-true b 57 h in
    let g = ih (ltb-true m (10 ^ 18) v) e h' in
    let f = g.front in
    let x : digit (n / 10 ^ k % 10) ≡ b = omega arith in
    record {
      rest = g.rest;
      holds = ap (λ t. b ∷ t) g.holds ∙ ap (λ c. c ∷ (last_digits k n ++ g.rest)) (sym x) ∙ ap (λ ds. ds ++ g.rest) (sym (first-digit k n));
      ends = omega (arith, g.ends);
      front = tenth k n ∙ omega arith;
      fits = g.fits;
    }
by-test false t u ih e = refuted e

only-more : (k : ℕ) (text : List ℕ) (at m n end : ℕ) → m < 2 ^ 64 → more_digits k text m at ≡ Some (n, end) → Begins text at m k n end
unfolding more_digits last_digits
only-more zero text at m n end h e =
    let (x, y) = parts e in
    record { rest = text; holds = refl; ends = omega arith; front = div-one n ∙ sym x; fits = omega arith }
only-more (suc k) [] at m n end h e = refuted e
only-more (suc k) (b ∷ text) at m n end h e =
    by-test (is_digit b and ltb m (10 ^ 18)) refl (more_digits k text (m * 10 + (b - 48)) (at + 1))
    (λ l q u. only-more k text (at + 1) (m * 10 + (b - 48)) n end (omega arith) q)
    e

-- ---- without a sign

fixed-is : (places n : ℕ) → fixed places n ≡ decimal (n / 10 ^ places) ++ (46 ∷ last_digits places n)
unfolding fixed ascii
fixed-is places n = append_assoc (decimal (n / 10 ^ places)) (46 ∷ []) (last_digits places n)

-- the point, and what follows it
after-point : (places : ℕ) (text : List ℕ) (n at : ℕ) → after_whole places (46 ∷ text) n at ≡ more_digits places text n (at + 1)
unfolding after_whole
after-point places text n at = refl

module _ (places : ℕ) (s : List ℕ) (at n end : ℕ) where
  pub size_back : n < 10 ^ 19 → Stands s at (fixed places n) end → size_at places s at ≡ Some (n, end)
  unfolding size_at with_decimals
  size_back l p =
      let w = n / 10 ^ places in
      let mid = at + length (decimal w) in
      let (a, q) = apart (decimal w) (46 ∷ last_digits places n) (subst (λ t. Stands s at t end) (fixed-is places n) p) in
      let f : w < 2 ^ 64 = omega (arith, div-le_self n (10 ^ places)) in
      let d = decimal-back s at w mid f a (rw q.holds (other refl)) in
      let e : mid + 1 + places ≡ end = omega (arith, q.ends, length-last_digits places n) in
      ap (with_decimals places s) d
      ∙ ap (λ t. after_whole places t w mid) q.holds
      ∙ after-point places (last_digits places n ++ drop end s) w mid
      ∙ through places n (drop end s) (mid + 1) l
      ∙ ap (λ k. Some (n, k)) e

  by-point : {b : ℕ} {text : List ℕ} {w : ℕ} (mid : ℕ) (t : Bool) → eqb b 46 ≡ t → w < 2 ^ 64
      → cond t (more_digits places text w (mid + 1)) None ≡ Some (n, end)
      → (b ≡ 46) × Begins text (mid + 1) w places n end
  by-point {b} {text} {w} mid true t f e = (eqb-true b 46 t, only-more places text (mid + 1) w n end f e)
  by-point mid false t f e = refuted e

  from-point : (text : List ℕ) {w mid : ℕ} → drop mid s ≡ text → w < 2 ^ 64 → after_whole places text w mid ≡ Some (n, end)
      → Stands s mid (46 ∷ last_digits places n) end × (n / 10 ^ places ≡ w) × (n < 2 ^ 64)
  unfolding after_whole
  from-point [] q f e = refuted e
  from-point (b ∷ text) {w} {mid} q f e =
      let (x, g) = by-point mid (eqb b 46) refl f e in
      let word : List ℕ = 46 ∷ last_digits places n in
      let h : drop mid s ≡ word ++ g.rest = q ∙ ap (λ c. c ∷ text) x ∙ ap (λ t. 46 ∷ t) g.holds in
      let k : end ≡ mid + length word = omega (arith, g.ends, length-last_digits places n) in
      let r : drop end s ≡ g.rest =
      ap (λ i. drop i s) k ∙ sym (drop-drop (length word) mid s) ∙ ap (drop (length word)) h ∙ drop_at word g.rest (length word) refl in
      (record { ends = k; holds = h ∙ ap (λ t. word ++ t) (sym r) }, g.front, g.fits)

  by_whole : (u : Option (ℕ × ℕ)) → decimal_at s at ≡ u → with_decimals places s u ≡ Some (n, end) → Stands s at (fixed places n) end × (n < 2 ^ 64)
  unfolding with_decimals
  by_whole None d e = refuted e
  by_whole (Some (w, mid)) d e =
      let (a, f) = decimal-only s at w mid d in
      let (q, x, g) = from-point (drop mid s) refl f e in
      (rw (fixed-is places n, x) (together (decimal w) (46 ∷ last_digits places n) a q), g)

  pub size-only : size_at places s at ≡ Some (n, end) → Stands s at (fixed places n) end × (n < 2 ^ 64)
  unfolding size_at
  size-only e = by_whole (decimal_at s at) refl e
