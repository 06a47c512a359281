-- The form of a name. Definitions only.
use Rattle.std.specs.Prelude.{ℕ, ◌+◌, ◌-◌, Bool, true, false, not, ◌||◌, List, [], ◌∷◌, leb, eqb, length, get_or}
use Prim.Native.String.{String}
use Rattle.integers.specs.Tests.{◌and◌}
use Rattle.text.specs.Numbers.{ascii}

-- some byte is from low to high
unfoldable pub has_between : ℕ → ℕ → List ℕ → Bool
has_between low high [] = false
has_between low high (b ∷ s) = (leb low b and leb b high) || has_between low high s

-- every byte is from low to high
unfoldable pub all_between : ℕ → ℕ → List ℕ → Bool
all_between low high [] = true
all_between low high (b ∷ s) = (leb low b and leb b high) and all_between low high s

-- not both of the upper and the lower case have letters in it
unfoldable pub one_case : List ℕ → Bool
one_case name = not (has_between 65 90 name and has_between 97 122 name)

-- a name after a keyword of so many characters: the line of the two has at most 254,
-- all of the name are printable, no blank stands at either end, and its letters are of one case
unfoldable pub name_holds : ℕ → List ℕ → Bool
name_holds keyword name =
    leb 1 (length name)
    and leb (keyword + 3 + length name) 254
    and all_between 32 126 name
    and not (eqb (get_or name 0 0) 32)
    and not (eqb (get_or name (length name - 1) 0) 32)
    and one_case name

abbrev pub fits : String → List ℕ → Bool
fits keyword name = name_holds (length (ascii keyword)) name
