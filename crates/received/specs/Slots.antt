-- A head of a message as a list of slots: for each slot one line, one line or none, or any number of lines, of one form. Definitions only.
use Rattle.std.specs.Prelude.{ℕ, ◌+◌, ◌-◌, ◌≡◌, Bool, true, false, List, [], ◌∷◌, ◌++◌, length, take, drop}
use Rattle.integers.specs.Tests.{◌and◌}
use Rattle.calendar.specs.Text.{same_text}
use Rattle.received.specs.Lines.{newline}

-- ---- a form of lines: a front, then a rest that passes a test, then a newline

pub record Form : Type 0 where
  pub front : List ℕ
  pub test : List ℕ → Bool

abbrev pub line_with : List ℕ → List ℕ → List ℕ
line_with front rest = front ++ (rest ++ (newline ∷ []))

-- what a line has between a front and its last character
unfoldable pub rest_in : List ℕ → List ℕ → List ℕ
rest_in front line = take (length line - (length front + 1)) (drop (length front) line)

unfoldable pub has_front : List ℕ → List ℕ → Bool
has_front front line = same_text line (line_with front (rest_in front line))

unfoldable pub is_of : Form → List ℕ → Bool
is_of f line = has_front f.front line and f.test (rest_in f.front line)

-- ---- slots

pub data Slot : Type 0 where
  one : Form → Slot
  -- one line or none, and none where it may not stand
  perhaps : Bool → Form → Slot
  any : Form → Slot

abbrev pub form_of : Slot → Form
form_of (one f) = f
form_of (perhaps may f) = f
form_of (any f) = f

-- each line of a list is of a form
abbrev pub AllOf : Form → List (List ℕ) → Type 0
AllOf f [] = Unit {0}
AllOf f (line ∷ lines) = (is_of f line ≡ true) × AllOf f lines

-- a group of lines is a slot's
abbrev pub Fills : Slot → List (List ℕ) → Type 0
Fills (one f) [] = ⊥
Fills (one f) (line ∷ []) = is_of f line ≡ true
Fills (one f) (line ∷ more ∷ lines) = ⊥
Fills (perhaps may f) [] = Unit {0}
Fills (perhaps may f) (line ∷ []) = (may ≡ true) × (is_of f line ≡ true)
Fills (perhaps may f) (line ∷ more ∷ lines) = ⊥
Fills (any f) lines = AllOf f lines

-- a group for each slot
abbrev pub FillAll : List Slot → List (List (List ℕ)) → Type 0
FillAll [] [] = Unit {0}
FillAll [] (group ∷ groups) = ⊥
FillAll (s ∷ slots) [] = ⊥
FillAll (s ∷ slots) (group ∷ groups) = Fills s group × FillAll slots groups

-- ---- a walk over lines, slot by slot

-- a group of lines for each slot, and the lines behind them; or it stops behind some lines
pub data Walked : Type 0 where
  Through : List (List (List ℕ)) → List (List ℕ) → Walked
  Stopped : List (List ℕ) → Walked

-- the lines of a form that stand first, and those behind them
unfoldable pub leading : Form → List (List ℕ) → List (List ℕ)
leading f [] = []
leading f (line ∷ lines) = elim (is_of f line) as (λ _. List (List ℕ)) [ true ↦ line ∷ leading f lines | false ↦ [] ]

unfoldable pub behind : Form → List (List ℕ) → List (List ℕ)
behind f [] = []
behind f (line ∷ lines) = elim (is_of f line) as (λ _. List (List ℕ)) [ true ↦ behind f lines | false ↦ line ∷ lines ]

-- the first line where it may stand and is of a form, and the lines behind it
unfoldable pub first_of : Bool → Form → List (List ℕ) → List (List ℕ)
first_of false f lines = []
first_of true f [] = []
first_of true f (line ∷ lines) = elim (is_of f line) as (λ _. List (List ℕ)) [ true ↦ line ∷ [] | false ↦ [] ]

unfoldable pub past_first : Bool → Form → List (List ℕ) → List (List ℕ)
past_first false f lines = lines
past_first true f [] = []
past_first true f (line ∷ lines) = elim (is_of f line) as (λ _. List (List ℕ)) [ true ↦ lines | false ↦ line ∷ lines ]

-- a group, and then a walk over the lines behind it
unfoldable pub after : List (List ℕ) → Walked → Walked
after group (Through groups rest) = Through (group ∷ groups) rest
after group (Stopped lines) = Stopped (group ++ lines)

unfoldable pub walk : List Slot → List (List ℕ) → Walked
walk [] lines = Through [] lines
walk (one f ∷ slots) [] = Stopped []
walk (one f ∷ slots) (line ∷ lines) =
    elim (is_of f line) as (λ _. Walked) [ true ↦ after (line ∷ []) (walk slots lines) | false ↦ Stopped [] ]
walk (perhaps may f ∷ slots) lines = after (first_of may f lines) (walk slots (past_first may f lines))
walk (any f ∷ slots) lines = after (leading f lines) (walk slots (behind f lines))
