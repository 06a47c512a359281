-- What mending does to a text, and which texts can be mended. Definitions only.
use Rattle.std.specs.Prelude.{◌≡◌, ◌⊎◌, true, false, ℕ, suc, ◌≤◌, length}
use mathlib.Core.List.{List, [], ◌∷◌, ◌++◌, flatten, map}
use Rattle.message.specs.declared.Edition.{Edition}
use Rattle.message.specs.Message.{says, time_after}
use Rattle.received.specs.Lines.{lines_in}
use Rattle.received.specs.Slots.{FillAll}
use Rattle.received.specs.Profile.{is_remark, any_value, slots}
use Rattle.received.specs.Data.{Point, line_of, first_seconds, last_seconds}
use Rattle.received.specs.Messages.{Message, comment, head_of, lines_of, Holds, IsPoint}
use Rattle.received.specs.Reading.{start_slot, stop_slot, data_slot, number_at}
use Rattle.received.specs.Mending.{Change, change}
use Rattle.received.specs.MendAnswer.{has_rooms}
use Rattle.readable.specs.Keeping.{Keeps}

-- numbers that rise, none of them below a least one
abbrev pub Rise : ℕ → List ℕ → Type 0
Rise least [] = Unit {0}
Rise least (n ∷ numbers) = (least ≤ n) × Rise (suc n) numbers

abbrev pub Some : {A : Type 0} → (A → Type 0) → List A → Type 0
Some P [] = ⊥
Some P (x ∷ xs) = P x ⊎ Some P xs

-- a line that stood and the one that comes out, and the one change, or none, that is listed: it is listed exactly where the two are not the same
abbrev pub Lists : List ℕ → List ℕ → Change → List Change → Type 0
Lists stood out entry changes = ((stood ≡ out) × (changes ≡ [])) ⊎ ((¬ (stood ≡ out)) × (changes ≡ entry ∷ []))

-- the first line, if there is one, is no comment
abbrev pub NoComment : List (List ℕ) → Type 0
NoComment [] = Unit {0}
NoComment (line ∷ lines) = ¬ ((remark : List ℕ) × ((is_remark remark ≡ true) × (line ≡ comment remark)))

-- changes: 1 is a dropped line, 2 and 3 are START_TIME and STOP_TIME
abbrev pub drop_of : ℕ → Change
drop_of line = change line 1

pub record Mended (e : Edition) (text : List ℕ) (out : List (List ℕ)) (changes : List Change) : Type 0 where
  -- the message that comes out, and the two times and the lines behind the allowed comments that stood
  pub message : Message
  pub start : List ℕ
  pub stop : List ℕ
  pub rest : List (List ℕ)
  pub holds : Holds e message
  pub start-holds : any_value "START_TIME" start ≡ true
  pub stop-holds : any_value "STOP_TIME" stop ≡ true
  pub stood : lines_in text ≡ flatten (head_of e message start stop) ++ rest
  pub no-comment : NoComment rest
  pub comes-out : out ≡ lines_of e message
  -- which of the data lines are kept, and the numbers of the others
  pub dropped : List ℕ
  pub keeps : Keeps (number_at (head_of e message start stop) data_slot) 0 rest (map line_of message.points) dropped
  -- what is listed
  pub start_change : List Change
  pub stop_change : List Change
  pub listed : changes ≡ start_change ++ (stop_change ++ map drop_of dropped)
  pub start_listed :
      Lists (says "START_TIME" start) (says "START_TIME" (time_after (first_seconds message.points)))
      (change (number_at (head_of e message start stop) start_slot) 2) start_change
  pub stop_listed :
      Lists (says "STOP_TIME" stop) (says "STOP_TIME" (time_after (last_seconds message.points)))
      (change (number_at (head_of e message start stop) stop_slot) 3) stop_change

-- a head, whatever its two times are, and behind it some data line
pub record Mendable (e : Edition) (text : List ℕ) : Type 0 where
  pub groups : List (List (List ℕ))
  pub rest : List (List ℕ)
  pub fills : FillAll (slots e) groups
  pub lines_are : lines_in text ≡ flatten groups ++ rest
  pub some : Some (λ line. (p : Point) × (IsPoint p × (line ≡ line_of p))) rest

-- mending gives a text or a list that is longer than its room
abbrev pub NoRooms : Edition → List ℕ → List ℕ → List ℕ → Type 0
NoRooms e text out changes =
    (lines : List (List ℕ)) × ((list : List Change) × (Mended e text lines list × (has_rooms lines list (length out) (length changes) ≡ false)))
