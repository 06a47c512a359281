-- A text and its lines: nothing is lost, the line at a place, and the lines behind some.
use mathlib.Core.Path.{◌≡◌, refl, sym, ◌∙◌, ap, subst}
use mathlib.Core.Bool.{Bool, true, false, cond}
use mathlib.Core.List.{List, [], ◌∷◌, ◌++◌, flatten, append_assoc}
use Prim.Native.Nat.{ℕ, suc, ◌+◌, ◌-◌, ◌≤◌, ◌<◌}
use native.Mathlib.Nat.{add-zero}
use native.Mathlib.Numerals.{add-one}
use native.Mathlib.Omega.{arith}
use lib.Dec.{eqb}
use lib.ListN.{length, take, drop, get_or, length-append, length-drop, drop_of_length-le}
use lib.Seq.{drop-drop, drop-cons}
use borrow.Author.Tests.{eq-eqb, ne_eqb, leb-true}
use Rattle.integers.specs.Tests.{joined}
use Rattle.message.specs.Form.{all_between}
use Rattle.received.specs.Lines.{in_front, lines_in, first_line, past_line}
use Rattle.received.specs.Finding.{bytes_of}

-- ---- nothing is lost

front-flat : (b : ℕ) (lines : List (List ℕ)) → flatten (in_front b lines) ≡ b ∷ flatten lines
unfolding in_front flatten
front-flat b [] = refl
front-flat b (line ∷ lines) = refl

pub lines-back : (text : List ℕ) → flatten (lines_in text) ≡ text
unfolding lines_in flatten
lines-back [] = refl
lines-back (b ∷ text) = by (eqb b 10) (lines-back text)
  where
    by : (t : Bool) → flatten (lines_in text) ≡ text → flatten (cond t ((b ∷ []) ∷ lines_in text) (in_front b (lines_in text))) ≡ b ∷ text
    by true ih = ap (λ r. b ∷ r) ih
    by false ih = front-flat b (lines_in text) ∙ ap (λ r. b ∷ r) ih

-- ---- the first line, and those behind it

pub first-line : (b : ℕ) (text : List ℕ) → lines_in (b ∷ text) ≡ first_line (b ∷ text) ∷ lines_in (drop (length (first_line (b ∷ text))) (b ∷ text))
unfolding lines_in first_line in_front
first-line b [] = by (eqb b 10)
  where
    by : (t : Bool) → cond t ((b ∷ []) ∷ []) ((b ∷ []) ∷ []) ≡ cond t (b ∷ []) (b ∷ []) ∷ lines_in (drop (length (cond t (b ∷ []) (b ∷ []))) (b ∷ []))
    by true = refl
    by false = refl
first-line b (c ∷ text) = by (eqb b 10) (first-line c text)
  where
    by : (t : Bool) → lines_in (c ∷ text) ≡ first_line (c ∷ text) ∷ lines_in (drop (length (first_line (c ∷ text))) (c ∷ text))
        → cond t ((b ∷ []) ∷ lines_in (c ∷ text)) (in_front b (lines_in (c ∷ text)))
        ≡ cond t (b ∷ []) (b ∷ first_line (c ∷ text)) ∷ lines_in (drop (length (cond t (b ∷ []) (b ∷ first_line (c ∷ text)))) (b ∷ c ∷ text))
    by true ih = refl
    by false ih = ap (in_front b) ih

first-is : (text : List ℕ) → take (length (first_line text)) text ≡ first_line text
unfolding first_line
first-is [] = refl
first-is (b ∷ text) = by (eqb b 10) (first-is text)
  where
    by : (t : Bool) → take (length (first_line text)) text ≡ first_line text
        → take (length (cond t (b ∷ []) (b ∷ first_line text))) (b ∷ text) ≡ cond t (b ∷ []) (b ∷ first_line text)
    by true ih = refl
    by false ih = ap (λ r. b ∷ r) ih

first_short : (text : List ℕ) → length (first_line text) ≤ length text
unfolding first_line
first_short [] = omega arith
first_short (b ∷ text) = by (eqb b 10) (first_short text)
  where
    by : (t : Bool) → length (first_line text) ≤ length text → length (cond t (b ∷ []) (b ∷ first_line text)) ≤ suc (length text)
    by true ih = omega arith
    by false ih = omega arith

first_some : (b : ℕ) (text : List ℕ) → 0 < length (first_line (b ∷ text))
unfolding first_line
first_some b text = by (eqb b 10)
  where
    by : (t : Bool) → 0 < length (cond t (b ∷ []) (b ∷ first_line text))
    by true = omega arith
    by false = omega arith

-- ---- the line at a place

-- what stands from one place up to another
abbrev pub between : List ℕ → ℕ → ℕ → List ℕ
between text at end = take (end - at) (drop at text)

module _ (text : List ℕ) (at : ℕ) where
  pub past-within : at ≤ length text → past_line text at ≤ length text
  unfolding past_line
  past-within h = omega (arith, first_short (drop at text), length-drop at text)

  pub past_end : length text ≤ at → lines_in (drop at text) ≡ []
  unfolding lines_in
  past_end h = rw (none (drop at text) (omega (arith, length-drop at text))) refl
    where
      none : (rest : List ℕ) → length rest ≡ 0 → rest ≡ []
      none [] e = refl
      none (b ∷ rest) e = absurd (omega arith)

  module _ (h : at < length text) where
    abbrev starts : drop at text ≡ get_or text at 0 ∷ drop (suc at) text
    starts = drop-cons text at 0 h

    pub past_more : at < past_line text at
    unfolding past_line
    past_more = rw starts (omega (arith, first_some (get_or text at 0) (drop (suc at) text)))

    pub past-between : between text at (past_line text at) ≡ first_line (drop at text)
    unfolding past_line
    past-between =
        let n : at + length (first_line (drop at text)) - at ≡ length (first_line (drop at text)) = omega arith in
        ap (λ k. take k (drop at text)) n ∙ first-is (drop at text)

    onward : drop (length (first_line (drop at text))) (drop at text) ≡ drop (past_line text at) text
    unfolding past_line
    onward = drop-drop (length (first_line (drop at text))) at text

    pub at-line : lines_in (drop at text) ≡ between text at (past_line text at) ∷ lines_in (drop (past_line text at) text)
    at-line =
        let cut : lines_in (drop at text) ≡ first_line (drop at text) ∷ lines_in (drop (length (first_line (drop at text))) (drop at text)) =
        subst (λ s. lines_in s ≡ first_line s ∷ lines_in (drop (length (first_line s)) s)) (sym starts) (first-line (get_or text at 0) (drop (suc at) text)) in
        cut
        ∙ ap (λ line. line ∷ lines_in (drop (length (first_line (drop at text))) (drop at text))) (sym past-between)
        ∙ ap (λ s. between text at (past_line text at) ∷ lines_in s) onward

    pub line-long : length (between text at (past_line text at)) ≡ past_line text at - at
    unfolding past_line
    line-long = ap length past-between ∙ omega arith

-- ---- where a line ends, byte by byte

module _ (text : List ℕ) (i : ℕ) where
  pub ends-here : i < length text → get_or text i 0 ≡ 10 → i + 1 ≡ past_line text i
  unfolding past_line first_line
  ends-here h e = sym (rw (drop-cons text i 0 h, eq-eqb (get_or text i 0) 10 e) refl)

  pub ends-later : i < length text → (get_or text i 0 ≡ 10 → ⊥) → past_line text (i + 1) ≡ past_line text i
  unfolding past_line first_line
  ends-later h n = rw (add-one i) (sym (rw (drop-cons text i 0 h, ne_eqb (get_or text i 0) 10 n) (omega arith)))

  pub ends-never : length text ≤ i → i ≡ past_line text i
  unfolding past_line first_line
  ends-never h = sym (rw (drop_of_length-le text {i = i} h) (add-zero i))

-- ---- the lines behind some

pub flatten-append : {A : Type 0} (xs ys : List (List A)) → flatten (xs ++ ys) ≡ flatten xs ++ flatten ys
unfolding flatten
flatten-append [] ys = refl
flatten-append (x ∷ xs) ys = ap (λ r. x ++ r) (flatten-append xs ys) ∙ sym (append_assoc x (flatten xs) (flatten ys))

pub bytes-append : (xs ys : List (List ℕ)) → bytes_of (xs ++ ys) ≡ bytes_of xs + bytes_of ys
bytes-append xs ys = ap length (flatten-append xs ys) ∙ length-append (flatten xs) (flatten ys)

none-of-none : (line : List ℕ) (lines : List (List ℕ)) → lines_in [] ≡ line ∷ lines → ⊥
unfolding lines_in
none-of-none line lines e = let z : ◌≡◌ {A = ℕ} 0 (suc (length lines)) = ap length e in omega arith

pub lines-drop : (some : List (List ℕ)) (text : List ℕ) (rest : List (List ℕ)) → lines_in text ≡ some ++ rest → lines_in (drop (bytes_of some) text) ≡ rest
unfolding flatten
lines-drop [] text rest e = e
lines-drop (line ∷ some) [] rest e = absurd (none-of-none line (some ++ rest) e)
lines-drop (line ∷ some) (b ∷ text) rest e =
    let f = first-line b text in
    let here : first_line (b ∷ text) ≡ line = ap (λ ls. get_or ls 0 []) (sym f ∙ e) in
    let then : lines_in (drop (length line) (b ∷ text)) ≡ some ++ rest =
    ap (λ l. lines_in (drop (length l) (b ∷ text))) (sym here) ∙ ap (drop 1) (sym f ∙ e) in
    ap (λ k. lines_in (drop k (b ∷ text))) (length-append line (flatten some))
    ∙ ap lines_in (sym (drop-drop (bytes_of some) (length line) (b ∷ text)))
    ∙ lines-drop some (drop (length line) (b ∷ text)) rest then

-- ---- lines that are ended: printable characters, and a newline

pub record Ended (line : List ℕ) : Type 0 where
  pub body : List ℕ
  pub printable : all_between 32 126 body ≡ true
  pub line-is : line ≡ body ++ (10 ∷ [])

abbrev pub AllEnded : List (List ℕ) → Type 0
AllEnded [] = Unit {0}
AllEnded (line ∷ lines) = Ended line × AllEnded lines

one_in : (body text : List ℕ) → all_between 32 126 body ≡ true → lines_in (body ++ (10 ∷ []) ++ text) ≡ (body ++ (10 ∷ [])) ∷ lines_in text
unfolding lines_in in_front all_between
one_in [] text p = refl
one_in (b ∷ body) text p =
    let ((l, h), q) = simp joined at p in
    let low : 32 ≤ b = leb-true 32 b l in
    let n : eqb b 10 ≡ false = ne_eqb b 10 (λ e. omega arith) in
    rw n (ap (in_front b) (one_in body text q))

pub lines-in : (lines : List (List ℕ)) → AllEnded lines → lines_in (flatten lines) ≡ lines
unfolding lines_in flatten
lines-in [] a = refl
lines-in (line ∷ lines) (e, a) =
    ap (λ l. lines_in (l ++ flatten lines)) e.line-is
    ∙ one_in e.body (flatten lines) e.printable
    ∙ ap (λ l. l ∷ lines_in (flatten lines)) (sym e.line-is)
    ∙ ap (λ ls. line ∷ ls) (lines-in lines a)
