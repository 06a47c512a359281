-- What is said of a correction that is not accepted, as pieces of text, one after the other. Definitions only.
use Rattle.std.specs.Prelude.{ℕ, Bool, cond, ltb, eqb, get_or}
use mathlib.Core.List.{List, [], ◌∷◌, flatten}
use Rattle.integers.specs.Tests.{◌and◌}
use Rattle.session.specs.declared.Session.{Session}
use Rattle.reasons.specs.declared.Reason.{Reason}
use Rattle.reasons.specs.declared.Explanation.{Explanation}
use Rattle.text.specs.Numbers.{ascii, decimal}
use Rattle.sentences.specs.Decimals.{change_text}

-- ---- words; a place that has none is said with nothing

-- the values, counted from 1
abbrev pub names : List (List ℕ)
names = ascii "" ∷ ascii "x" ∷ ascii "y" ∷ ascii "z" ∷ ascii "vx" ∷ ascii "vy" ∷ ascii "vz" ∷ []

-- the correction after so many
abbrev pub ordinals : List (List ℕ)
ordinals =
    ascii "first" ∷ ascii "second" ∷ ascii "third" ∷ ascii "fourth" ∷ ascii "fifth" ∷ ascii "sixth" ∷ ascii "seventh" ∷ ascii "eighth" ∷ []

-- the limit, counted from 1
abbrev pub cardinals : List (List ℕ)
cardinals =
    ascii "" ∷ ascii "one" ∷ ascii "two" ∷ ascii "three" ∷ ascii "four" ∷ ascii "five" ∷ ascii "six" ∷ ascii "seven" ∷ ascii "eight" ∷ []

unfoldable pub name_text : ℕ → List ℕ
name_text value = get_or names value []

unfoldable pub ordinal : ℕ → List ℕ
ordinal n = get_or ordinals n []

unfoldable pub cardinal : ℕ → List ℕ
cardinal n = get_or cardinals n []

-- positions are the first three values
unfoldable pub unit_text : ℕ → List ℕ
unit_text value = cond (ltb 3 value) (ascii " ticks per step") (ascii " ticks")

-- ---- a value that moved by more than its tolerance

-- `y moved 17.25 ticks`
unfoldable pub moved : Reason → List (List ℕ)
moved r = name_text r.value ∷ ascii " moved " ∷ flatten (change_text r.change.exact) ∷ unit_text r.value ∷ []

-- `, its tolerance is 16; `
unfoldable pub against : ℕ → List (List ℕ)
against tolerance = ascii ", its tolerance is " ∷ decimal tolerance ∷ ascii "; " ∷ []

-- `second correction of three`
unfoldable pub counted : Session → List (List ℕ)
counted s = ordinal s.corrections ∷ ascii " correction of " ∷ cardinal s.limit ∷ []

-- and how that ends
unfoldable pub over_tolerance : Session → Reason → List ℕ → List (List ℕ)
over_tolerance s r end = flatten (moved r) ∷ flatten (against r.tolerance) ∷ flatten (counted s) ∷ end ∷ []

-- ---- what is said with each number, and with 0 where another correction is awaited

unfoldable pub named : ℕ → List ℕ → List (List ℕ)
named value rest = name_text value ∷ rest ∷ []

unfoldable pub said : ℕ → Session → Reason → List (List ℕ)
said number s r =
    cond (eqb number 4) (named r.value (ascii " of the sample is a NaN: refused 4"))
    (cond (eqb number 13) (named r.value (ascii " of the sample is infinite: refused 13"))
    (cond (eqb number 5) (named r.value (ascii " of the sample rounds to more than 268435456 ticks: refused 5"))
    (cond (eqb number 6) (named r.value (ascii " would be out of range: refused 6"))
    (cond (eqb number 7) (ascii "no correction is awaited: refused 7" ∷ [])
    (cond (eqb number 8) (over_tolerance s r (ascii ", the last: refused 8"))
    (over_tolerance s r []))))))

-- ---- the sentence of a line of a script

unfoldable pub is_accepted : Explanation → Bool
is_accepted e = eqb e.number 0 and eqb e.kind 1

unfoldable pub told : ℕ → Session → Explanation → List (List ℕ)
told line s e = ascii "line " ∷ decimal line ∷ ascii ": " ∷ flatten (said e.number s e.reason) ∷ ascii "\n" ∷ []

-- nothing is said of a correction that is accepted
unfoldable pub sentence : ℕ → Session → Explanation → List (List ℕ)
sentence line s e = cond (is_accepted e) [] (told line s e)
