-- What the writer answers, and what the lent room holds then. Definitions only.
use Rattle.std.specs.Prelude.{ℕ, zero, suc, List, length}
use Rattle.text.specs.Places.{written}
use Rattle.message.specs.declared.Written.{Written}
use Rattle.message.specs.declared.Edition.{Edition}
use Rattle.message.specs.declared.Edition.TheVariants.{Two}
use Rattle.message.specs.Request.{Request}
use Rattle.message.specs.Message.{message_as}
use Rattle.message.specs.Refusals.{refusal}

-- a number other than 0 refuses: nothing is written
abbrev pub answer_by : ℕ → Edition → Request → Written
answer_by zero e r = record { number = 0; length = length (message_as e r) }
answer_by (suc n) e r = record { number = suc n; length = 0 }

abbrev pub room_by : ℕ → Edition → Request → List ℕ → List ℕ
room_by zero e r room = written room 0 (message_as e r)
room_by (suc n) e r room = room

unfoldable pub answer_as : Edition → Request → List ℕ → Written
answer_as e r room = answer_by (refusal r (length room)) e r

-- the text from the start of the room, and behind it what was there
unfoldable pub room_as : Edition → Request → List ℕ → List ℕ
room_as e r room = room_by (refusal r (length room)) e r room

-- of version 2.0
abbrev pub answer_to : Request → List ℕ → Written
answer_to r room = answer_as Two r room

abbrev pub room_after : Request → List ℕ → List ℕ
room_after r room = room_as Two r room
