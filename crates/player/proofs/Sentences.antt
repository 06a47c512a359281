-- How long a sentence is at most, whatever it says.
use Rattle.std.proofs.Common.{ℕ, zero, suc, ◌+◌, ◌-◌, ◌≤◌, Bool, true, false, cond, eqb, ltb, List, [], ◌∷◌, ◌++◌, length, get_or, ℤ, pos, arith}
use mathlib.Core.List.{flatten}
use lib.Signed.{lt_z}
use Rattle.exact.specs.declared.Exact.{Exact}
use Rattle.session.specs.declared.Session.{Session}
use Rattle.reasons.specs.declared.Reason.{Reason}
use Rattle.reasons.specs.declared.Explanation.{Explanation}
use Rattle.text.specs.Numbers.{ascii}
use Rattle.text.specs.Places.{total}
use Rattle.text.proofs.Pieces.{length-flatten}
use Rattle.sentences.proofs.Digits.{shortened-short}
use Rattle.script.proofs.Lengths.{decimal-short}
use Rattle.sentences.specs.Decimals.{size_of, ten_decimals, shortened, sign_text, rest_text, change_text}
use Rattle.sentences.specs.Sentences.{names, ordinals, cardinals, name_text, ordinal, cardinal, unit_text}
use Rattle.sentences.specs.Sentences.{moved, against, counted, over_tolerance, named, said, is_accepted, told, sentence}

-- ---- one of two, and a word of a list

of_two : {most : ℕ} (t : Bool) (a b : List ℕ) → length a ≤ most → length b ≤ most → length (cond t a b) ≤ most
of_two true a b p q = p
of_two false a b p q = q

-- pieces of so many bytes at most
record AtMost (most : ℕ) (pieces : List (List ℕ)) : Type 0 where
  fits : total pieces ≤ most

either : {most : ℕ} (t : Bool) {a b : List (List ℕ)} → AtMost most a → AtMost most b → AtMost most (cond t a b)
either true p q = p
either false p q = q

-- how long the longest word is
abbrev longest : List (List ℕ) → ℕ
longest [] = 0
longest (word ∷ words) = length word + (longest words - length word)

no_longer : (words : List (List ℕ)) (n : ℕ) → length (get_or words n []) ≤ longest words
no_longer [] n = omega arith
no_longer (word ∷ words) zero = omega arith
no_longer (word ∷ words) (suc n) = omega (arith, no_longer words n)

name-short : (n : ℕ) → length (name_text n) ≤ 2
unfolding name_text ascii
name-short n = no_longer names n

ordinal-short : (n : ℕ) → length (ordinal n) ≤ 7
unfolding ordinal ascii
ordinal-short n = no_longer ordinals n

cardinal-short : (n : ℕ) → length (cardinal n) ≤ 5
unfolding cardinal ascii
cardinal-short n = no_longer cardinals n

unit-short : (n : ℕ) → length (unit_text n) ≤ 15
unfolding unit_text ascii
unit-short n = of_two (ltb 3 n) (ascii " ticks per step") (ascii " ticks") (omega arith) (omega arith)

-- ---- a change

sign-short : (z : ℤ) → length (sign_text z) ≤ 1
unfolding sign_text ascii
sign-short z = of_two (lt_z z (pos 0)) (ascii "-") [] (omega arith) (omega arith)

rest-short : (r : ℕ) → length (rest_text r) ≤ 11
unfolding rest_text ascii
rest-short r = of_two (eqb r 0) [] (ascii "." ++ shortened 10 (ten_decimals r)) (omega arith) (omega (arith, shortened-short 10 (ten_decimals r)))

change-short : (e : Exact) → length (flatten (change_text e)) ≤ 32
unfolding change_text
change-short e = omega (arith, length-flatten (change_text e), sign-short e.whole, decimal-short (size_of e).whole, rest-short (size_of e).rest)

-- ---- what is said

moved-short : (r : Reason) → length (flatten (moved r)) ≤ 56
unfolding moved ascii
moved-short r = omega (arith, length-flatten (moved r), name-short r.value, change-short r.change.exact, unit-short r.value)

against-short : (n : ℕ) → length (flatten (against n)) ≤ 41
unfolding against ascii
against-short n = omega (arith, length-flatten (against n), decimal-short n)

counted-short : (s : Session) → length (flatten (counted s)) ≤ 27
unfolding counted ascii
counted-short s = omega (arith, length-flatten (counted s), ordinal-short s.corrections, cardinal-short s.limit)

over-short : (s : Session) (r : Reason) (end : List ℕ) → total (over_tolerance s r end) ≤ 124 + length end
unfolding over_tolerance
over-short s r end = omega (arith, moved-short r, against-short r.tolerance, counted-short s)

named-short : (n : ℕ) (rest : List ℕ) → total (named n rest) ≤ 2 + length rest
unfolding named
named-short n rest = omega (arith, name-short n)

said-short : (n : ℕ) (s : Session) (r : Reason) → AtMost 145 (said n s r)
unfolding said ascii
said-short n s r =
    either (eqb n 4) (record { fits = omega (arith, named-short r.value (ascii " of the sample is a NaN: refused 4")) })
    (either (eqb n 13) (record { fits = omega (arith, named-short r.value (ascii " of the sample is infinite: refused 13")) })
    (either (eqb n 5) (record { fits = omega (arith, named-short r.value (ascii " of the sample rounds to more than 268435456 ticks: refused 5")) })
    (either (eqb n 6) (record { fits = omega (arith, named-short r.value (ascii " would be out of range: refused 6")) })
    (either (eqb n 7) (record { fits = omega arith })
    (either (eqb n 8) (record { fits = omega (arith, over-short s r (ascii ", the last: refused 8")) })
    (record { fits = omega (arith, over-short s r []) }))))))

told-short : (line : ℕ) (s : Session) (e : Explanation) → total (told line s e) ≤ 173
unfolding told ascii
told-short line s e =
    let words = said e.number s e.reason in
    omega (arith, decimal-short line, length-flatten words, (said-short e.number s e.reason).fits)

of-sentence : (line : ℕ) (s : Session) (e : Explanation) → AtMost 173 (sentence line s e)
unfolding sentence
of-sentence line s e = either (is_accepted e) (record { fits = omega arith }) (record { fits = told-short line s e })

pub sentence-short : (line : ℕ) (s : Session) (e : Explanation) → total (sentence line s e) ≤ 173
sentence-short line s e = (of-sentence line s e).fits
