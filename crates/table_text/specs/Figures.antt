-- Figures for the table printer: the printed example, and inputs that are refused.
use Rattle.std.specs.Prelude.{List, [], ◌∷◌, ℕ}
use Prim.Native.String.{String}
use Rattle.integers.specs.Lines.{Line, line}
use Rattle.text.specs.Numbers.{ascii}
use Rattle.table_text.specs.Text.{answer_to}

abbrev answers : String → String → Line
answers input text = line (List ℕ) (answer_to (ascii input)) (ascii text)

abbrev pub figures : List Line
figures =
    answers "2\n" "points 2 over 159667200\npp 26611200 -13305600\npc 13305600 0\nvp 146361600 -66528000\nvc -93139200 13305600\n"
    ∷ answers "1\n" "points 1 over 159667200\npp 13305600\npc 13305600\nvp 79833600\nvc -79833600\n"
    ∷ answers "0\n" "refused 1\n"
    ∷ answers "10\n" "refused 1\n"
    ∷ answers "2" "refused 1\n"
    ∷ answers "2\n\n" "refused 1\n"
    ∷ answers "\n" "refused 1\n"
    ∷ answers "" "refused 1\n"
    ∷ answers "a\n" "refused 1\n"
    ∷ []
