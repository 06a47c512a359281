-- Worked examples, each shown by computing: changes as decimals, and a sentence of each kind.
use Rattle.std.specs.Prelude.{refl, ℕ, ℤ, pos, negsuc}
use mathlib.Core.List.{List, [], ◌∷◌, flatten}
use Prim.Native.String.{String}
use Rattle.integers.specs.Lines.{Line, line, All}
use Rattle.integers.specs.Nearest.{nearest_of}
use Rattle.exact.specs.declared.Exact.{Exact}
use Rattle.exact.specs.Numerator.{numerator}
use Rattle.exact.specs.Report.{reported_of}
use Rattle.session.specs.declared.Session.{Session}
use Rattle.session.specs.Moves.{closed_session}
use Rattle.reasons.specs.declared.Reason.{Reason}
use Rattle.reasons.specs.Reasons.{reason, placed}
use Rattle.reasons.specs.Differences.{no_differences}
use Rattle.reasons.specs.Explanations.{explanation}
use Rattle.text.specs.Numbers.{ascii, decimal, digits, last_digits}
use Rattle.sentences.specs.Decimals.{size_of, ten_decimals, shortened, sign_text, rest_text, change_text}
use Rattle.sentences.specs.Sentences.{name_text, ordinal, cardinal, unit_text, moved, against, counted, over_tolerance}
use Rattle.sentences.specs.Sentences.{named, said, is_accepted, told, sentence}

-- ---- changes

-- whole ticks, and a part over D
abbrev ticks : ℤ → ℕ → Exact
ticks n m = record { whole = n; part = m }

abbrev change : ℤ → ℕ → String → Line
change n m text = line (List ℕ) (flatten (change_text (ticks n m))) (ascii text)

abbrev changes : List Line
changes =
    change (pos 17) 39916800 "17.25"
    ∷ change (negsuc 17) 119750400 "-17.25"
    ∷ change (pos 2) 0 "2"
    ∷ change (negsuc 1) 0 "-2"
    -- one part of D, and all but one; the same below 0
    ∷ change (pos 0) 1 "0.0000000063"
    ∷ change (pos 0) 159667199 "0.9999999937"
    ∷ change (negsuc 0) 159667199 "-0.0000000063"
    -- 19 / 240, and 6237 / D, which is a finite decimal
    ∷ change (pos 0) 12640320 "0.0791666667"
    ∷ change (pos 0) 6237 "0.0000390625"
    ∷ []

pub changes-hold : All changes
unfolding numerator nearest_of ascii decimal digits last_digits flatten size_of ten_decimals shortened sign_text rest_text change_text
changes-hold = (refl, (refl, (refl, (refl, (refl, (refl, (refl, (refl, (refl, tt)))))))))

-- ---- sentences

-- a session with so many corrections of a limit
abbrev after : ℕ → ℕ → Session
after corrections limit =
    record {
      state = closed_session.state;
      points = 2;
      tolerances = closed_session.tolerances;
      limit = limit;
      accepted = 0;
      corrections = corrections;
      x = closed_session.x;
      y = closed_session.y;
      z = closed_session.z;
    }

-- a value that moved, against a tolerance
abbrev over : ℕ → ℤ → ℕ → ℕ → Reason
over value n m tolerance = reason value (reported_of (ticks n m)) tolerance

-- line 12 of a script, at the correction after so many, by the answer's number and kind
abbrev says : ℕ → ℕ → ℕ → Reason → String → Line
says corrections number kind r text = line (List ℕ) (flatten (sentence 12 (after corrections 3) (explanation number kind r no_differences))) (ascii text)

abbrev sentences : List Line
sentences =
    says 1 0 2 (over 2 (pos 17) 39916800 16) "line 12: y moved 17.25 ticks, its tolerance is 16; second correction of three\n"
    ∷ says 0 0 2 (over 5 (pos 17) 39916800 16) "line 12: vy moved 17.25 ticks per step, its tolerance is 16; first correction of three\n"
    ∷ says 2 8 0 (over 2 (negsuc 17) 119750400 16) "line 12: y moved -17.25 ticks, its tolerance is 16; third correction of three, the last: refused 8\n"
    ∷ says 0 4 0 (placed 2) "line 12: y of the sample is a NaN: refused 4\n"
    ∷ says 0 13 0 (placed 3) "line 12: z of the sample is infinite: refused 13\n"
    ∷ says 0 5 0 (placed 2) "line 12: y of the sample rounds to more than 268435456 ticks: refused 5\n"
    ∷ says 0 6 0 (placed 2) "line 12: y would be out of range: refused 6\n"
    ∷ says 0 6 0 (placed 5) "line 12: vy would be out of range: refused 6\n"
    ∷ says 0 7 0 (placed 0) "line 12: no correction is awaited: refused 7\n"
    ∷ says 0 0 1 (placed 0) ""
    ∷ []

pub sentences-hold : All sentences
unfolding numerator nearest_of ascii decimal digits last_digits flatten size_of ten_decimals shortened sign_text rest_text change_text placed name_text ordinal cardinal unit_text moved against counted over_tolerance named said is_accepted told sentence
sentences-hold = (refl, (refl, (refl, (refl, (refl, (refl, (refl, (refl, (refl, (refl, tt))))))))))
