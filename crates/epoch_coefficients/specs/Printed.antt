-- The printed difference coefficients of order 8, for nine points: Tables 2.3 and 2.4 of document 000. Row j here is row 4 - j there, where rows count from the centre;
-- row 5 there is the predictor. That each figure is the rule's is in `proofs/Printed`.
use Rattle.std.specs.Prelude.{List, [], ◌∷◌, ℕ, pos, get_or}
use Rattle.coefficients.specs.Fraction.{Fraction, ◌over◌, negate}

abbrev plus : ℕ → ℕ → Fraction
plus a b = pos a over b

abbrev minus : ℕ → ℕ → Fraction
minus a b = negate (pos a over b)

-- the figure of row j and column k
abbrev pub figure : List (List Fraction) → ℕ → ℕ → Fraction
figure t j k = get_or (get_or t j []) k (pos 0 over 1)

-- Table 2.3, of the velocity
unfoldable pub velocity_printed : List (List Fraction)
velocity_printed =
    (minus 1 2 ∷ minus 1 12 ∷ minus 1 24 ∷ minus 19 720 ∷ minus 3 160 ∷ minus 863 60480 ∷ minus 275 24192 ∷ minus 33953 3628800 ∷ minus 8183 1036800 ∷ [])
    ∷ (minus 1 2 ∷ plus 5 12 ∷ plus 1 24 ∷ plus 11 720 ∷ plus 11 1440 ∷ plus 271 60480 ∷ plus 13 4480 ∷ plus 7297 3628800 ∷ plus 425 290304 ∷ [])
    ∷ (minus 1 2 ∷ plus 11 12 ∷ minus 3 8 ∷ minus 19 720 ∷ minus 11 1440 ∷ minus 191 60480 ∷ minus 191 120960 ∷ minus 3233 3628800 ∷ minus 7 12800 ∷ [])
    ∷ (minus 1 2 ∷ plus 17 12 ∷ minus 31 24 ∷ plus 251 720 ∷ plus 3 160 ∷ plus 271 60480 ∷ plus 191 120960 ∷ plus 2497 3628800 ∷ plus 2497 7257600 ∷ [])
    ∷ (minus 1 2 ∷ plus 23 12 ∷ minus 65 24 ∷ plus 1181 720 ∷ minus 95 288 ∷ minus 863 60480 ∷ minus 13 4480 ∷ minus 3233 3628800 ∷ minus 2497 7257600 ∷ [])
    ∷ (minus 1 2 ∷ plus 29 12 ∷ minus 37 8 ∷ plus 3131 720 ∷ minus 2837 1440 ∷ plus 19087 60480 ∷ plus 275 24192 ∷ plus 7297 3628800 ∷ plus 7 12800 ∷ [])
    ∷ (minus 1 2 ∷ plus 35 12 ∷ minus 169 24 ∷ plus 6461 720 ∷ minus 1011 160 ∷ plus 138241 60480 ∷ minus 5257 17280 ∷ minus 33953 3628800 ∷ minus 425 290304 ∷ [])
    ∷ (minus 1 2 ∷ plus 41 12 ∷ minus 239 24 ∷ plus 11531 720 ∷ minus 22021 1440 ∷ plus 520399 60480 ∷ minus 11603 4480 ∷ plus 1070017 3628800 ∷ plus 8183 1036800 ∷ [])
    ∷ (minus 1 2 ∷ plus 47 12 ∷ minus 107 8 ∷ plus 18701 720 ∷ minus 45083 1440 ∷ plus 1445281 60480 ∷ minus 1354079 120960 ∷ plus 10468447 3628800 ∷ minus 25713 89600 ∷ [])
    ∷ []

-- Table 2.4, of the position
unfoldable pub position_printed : List (List Fraction)
position_printed =
    (plus 1 12 ∷ plus 0 1 ∷ minus 1 240 ∷ minus 1 240 ∷ minus 221 60480 ∷ minus 19 6048 ∷ minus 9829 3628800 ∷ minus 407 172800 ∷ minus 330157 159667200 ∷ [])
    ∷ (plus 1 12 ∷ minus 1 12 ∷ minus 1 240 ∷ plus 0 1 ∷ plus 31 60480 ∷ plus 31 60480 ∷ plus 1571 3628800 ∷ plus 641 1814400 ∷ plus 45911 159667200 ∷ [])
    ∷ (plus 1 12 ∷ minus 1 6 ∷ plus 19 240 ∷ plus 1 240 ∷ plus 31 60480 ∷ plus 0 1 ∷ minus 289 3628800 ∷ minus 289 3628800 ∷ minus 3499 53222400 ∷ [])
    ∷ (plus 1 12 ∷ minus 1 4 ∷ plus 59 240 ∷ minus 3 40 ∷ minus 221 60480 ∷ minus 31 60480 ∷ minus 289 3628800 ∷ plus 0 1 ∷ plus 317 22809600 ∷ [])
    ∷ (plus 1 12 ∷ minus 1 3 ∷ plus 119 240 ∷ minus 77 240 ∷ plus 863 12096 ∷ plus 19 6048 ∷ plus 1571 3628800 ∷ plus 289 3628800 ∷ plus 317 22809600 ∷ [])
    ∷ (plus 1 12 ∷ minus 5 12 ∷ plus 199 240 ∷ minus 49 60 ∷ plus 23719 60480 ∷ minus 275 4032 ∷ minus 9829 3628800 ∷ minus 641 1814400 ∷ minus 3499 53222400 ∷ [])
    ∷ (plus 1 12 ∷ minus 1 2 ∷ plus 299 240 ∷ minus 79 48 ∷ plus 73111 60480 ∷ minus 6961 15120 ∷ plus 33953 518400 ∷ plus 407 172800 ∷ plus 45911 159667200 ∷ [])
    ∷ (plus 1 12 ∷ minus 7 12 ∷ plus 419 240 ∷ minus 347 120 ∷ plus 172651 60480 ∷ minus 20191 12096 ∷ plus 1908311 3628800 ∷ minus 8183 129600 ∷ minus 330157 159667200 ∷ [])
    ∷ (plus 1 12 ∷ minus 2 3 ∷ plus 559 240 ∷ minus 371 80 ∷ plus 347539 60480 ∷ minus 45601 10080 ∷ plus 7965611 3628800 ∷ minus 427487 725760 ∷ plus 3250433 53222400 ∷ [])
    ∷ []
