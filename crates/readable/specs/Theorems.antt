-- What is proved of reading and mending: `proofs/Theorems.antt` has a proof of each.
use Rattle.std.specs.Prelude.{◌≡◌, ◌↔◌, ◌⊎◌, true, ℕ, ℤ, length}
use mathlib.Core.List.{List, [], flatten, map, Sublistᴰ}
use Rattle.integers.specs.Lines.{All}
use Rattle.message.specs.declared.Edition.{Edition}
use Rattle.message.specs.Request.{Request, seconds_in}
use Rattle.message.specs.Message.{line_from, message_as}
use Rattle.message.specs.Refusals.{refusal}
use Rattle.received.specs.Lines.{lines_in}
use Rattle.received.specs.Versions.{edition_in}
use Rattle.received.specs.Data.{Point, line_of}
use Rattle.received.specs.Messages.{Message, Every, Says, Readable, ButForTimes}
use Rattle.received.specs.Reading.{Reads, Stops, read_of, message_in}
use Rattle.received.specs.Mending.{Change, Mends, Cannot, mend_of}
use Rattle.received.specs.MendAnswer.{mended_to, out_after, changes_after}
use Rattle.received.specs.Answer.{received, refused_by, has_room, answer_to, epochs_after, values_after}
use Rattle.readable.specs.Lines.{IsLine}
use Rattle.readable.specs.Naming.{NamesOther}
use Rattle.readable.specs.Answering.{head_in, Named, NoRoom, Answered}
use Rattle.readable.specs.Stopping.{StopsAt, TimesLast}
use Rattle.readable.specs.Sent.{point_at, sent}
use Rattle.readable.specs.Keeping.{Keeps}
use Rattle.readable.specs.Figures.{messages, readings, mendings}
use Rattle.readable.specs.NewFigures.{versions, values, new_readings, new_messages, new_mendings}
use Rattle.readable.specs.Changes.{Rise, Mended, Mendable, NoRooms}

pub record OfLines : Type 0 where
  -- the lines of a text, one behind the other, are the text
  pub together : (text : List ℕ) → flatten (lines_in text) ≡ text
  -- and lines that each end in their only newline are found again
  pub found_again : (lines : List (List ℕ)) → Every IsLine lines → lines_in (flatten lines) ≡ lines

-- of an edition, whichever it is
pub record OfReading (e : Edition) : Type 0 where
  -- what is read is what the text says
  pub sound : (text : List ℕ) (groups : List (List (List ℕ))) (points : List Point) → read_of e text ≡ Reads groups points → Says e text (message_in groups points)
  -- every readable text is read
  pub complete : (text : List ℕ) (m : Message) → Says e text m → (read_of e text ≡ Reads (head_in e m) m.points) × (message_in (head_in e m) m.points ≡ m)
  -- the names and the time of creation stand where the answer says
  pub named : (text : List ℕ) (groups : List (List (List ℕ))) (points : List Point) (count : ℕ) → read_of e text ≡ Reads groups points
      → Named text (received groups count) (message_in groups points)
  -- so a text says one message at most, and the reader stops exactly where it says none
  pub unique : (text : List ℕ) (m n : Message) → Says e text m → Says e text n → m ≡ n
  pub exactly : (text : List ℕ) → ((n : ℕ) × (read_of e text ≡ Stops n)) ↔ (¬ Readable e text)
  -- lines are readable but for the two times, or they are not
  pub decided : (lines : List (List ℕ)) → ButForTimes e lines ⊎ (¬ ButForTimes e lines)
  -- where they are not, it stops at the first line that makes the text unreadable, and only one line is that
  pub stops : (text : List ℕ) (n : ℕ) → read_of e text ≡ Stops n → ¬ ButForTimes e (lines_in text) → StopsAt e (lines_in text) n
  pub one_stop : (lines : List (List ℕ)) (m n : ℕ) → StopsAt e lines m → StopsAt e lines n → m ≡ n
  -- where they are, the two times are tested, when everything else was read
  pub times_last : (text : List ℕ) (b : ButForTimes e (lines_in text)) → TimesLast e text b

pub record OfAnswers (e : Edition) : Type 0 where
  -- 17 exactly where the version line names another version than the edition's
  pub seventeen : (text epochs : List ℕ) (values : List ℤ) → ((answer_to e text epochs values).number ≡ 17) ↔ NamesOther e text
  -- and else 15 exactly where a text is not readable, with the line at which reading stops
  pub fifteen : (text epochs : List ℕ) (values : List ℤ) → ((answer_to e text epochs values).number ≡ 15) ↔ ((¬ NamesOther e text) × (¬ Readable e text))
  pub stopped : (text epochs : List ℕ) (values : List ℤ) (n : ℕ) → ¬ NamesOther e text → read_of e text ≡ Stops n → answer_to e text epochs values ≡ refused_by 15 n
  -- 12 exactly where it is and a room is too small
  pub twelve : (text epochs : List ℕ) (values : List ℤ) → ((answer_to e text epochs values).number ≡ 12) ↔ NoRoom e text epochs values
  -- a refusal writes nothing
  pub leaves : (text epochs : List ℕ) (values : List ℤ) → ¬ ((answer_to e text epochs values).number ≡ 0)
      → (epochs_after e text epochs values ≡ epochs) × (values_after e text epochs values ≡ values)
  pub wrote : (text epochs : List ℕ) (values : List ℤ) (m : Message) → Says e text m → has_room (length m.points) (length epochs) (length values) ≡ true
      → Answered e text epochs values m

pub record OfSending : Type 0 where
  -- a data line of C-14 is the data line of its numbers
  pub same_line : (r : Request) (i : ℕ) → line_from r.tick r.step r.points (seconds_in r.start) i ≡ line_of (point_at r i)
  -- what is written in an edition is readable in it, and what is read are the names, the times and the decimals that were written
  pub written : (e : Edition) (r : Request) (room : ℕ) → refusal r room ≡ 0 → Says e (message_as e r) (sent r)
  pub read_back : (e : Edition) (r : Request) (room : ℕ) → refusal r room ≡ 0
      → (read_of e (message_as e r) ≡ Reads (head_in e (sent r)) (sent r).points) × (message_in (head_in e (sent r)) (sent r).points ≡ sent r)

pub record OfMending (e : Edition) : Type 0 where
  -- the lines before the data come out as they stood but for the two times; of the data lines exactly those are dropped that cannot be read or are
  -- not later than the last kept, and the others come out as they stood; each change is listed, and nothing else
  pub mended : (text : List ℕ) (out : List (List ℕ)) (changes : List Change) → (mend_of e text ≡ Mends out changes) ↔ Mended e text out changes
  pub readable : (text : List ℕ) (out : List (List ℕ)) (changes : List Change) → mend_of e text ≡ Mends out changes → Readable e (flatten out)
  pub unchanged : (text : List ℕ) → Readable e text → mend_of e text ≡ Mends (lines_in text) []
  pub twice : (text : List ℕ) (out : List (List ℕ)) (changes : List Change) → mend_of e text ≡ Mends out changes → mend_of e (flatten out) ≡ Mends out []
  -- the lines kept are lines of the input in their order
  pub in_order : {number earliest : ℕ} {lines kept : List (List ℕ)} {dropped : List ℕ} → Keeps number earliest lines kept dropped → Sublistᴰ kept lines
  -- an empty list says that nothing was changed
  pub none_listed : (text : List ℕ) (out : List (List ℕ)) → mend_of e text ≡ Mends out [] → flatten out ≡ text
  pub rising : (text : List ℕ) (out : List (List ℕ)) (changes : List Change) → mend_of e text ≡ Mends out changes → Rise 1 (map (λ c. c.line) changes)
  -- it cannot be mended exactly where it has no head, whatever its two times are, or no data line behind it
  pub cannot : (text : List ℕ) → (mend_of e text ≡ Cannot) ↔ (¬ Mendable e text)

pub record OfMendAnswers (e : Edition) : Type 0 where
  -- 17 exactly where the version line names another version than the edition's
  pub seventeen : (text out changes : List ℕ) → ((mended_to e text out changes).number ≡ 17) ↔ NamesOther e text
  -- and else 16 exactly where it cannot be mended, and 12 exactly where it is and a room is too small
  pub sixteen : (text out changes : List ℕ) → ((mended_to e text out changes).number ≡ 16) ↔ ((¬ NamesOther e text) × (¬ Mendable e text))
  pub twelve : (text out changes : List ℕ) → ((mended_to e text out changes).number ≡ 12) ↔ ((¬ NamesOther e text) × NoRooms e text out changes)
  -- a refusal writes nothing
  pub leaves : (text out changes : List ℕ) → ¬ ((mended_to e text out changes).number ≡ 0)
      → (out_after e text out changes ≡ out) × (changes_after e text out changes ≡ changes)

pub record OfEditions : Type 0 where
  -- a text is readable in one edition at most, and that is the one its version line chooses
  pub one_edition : (text : List ℕ) (d e : Edition) → Readable d text → Readable e text → d ≡ e
  pub chosen : (text : List ℕ) (e : Edition) → Readable e text → edition_in text ≡ e
  -- so no text that is readable in an edition names another version than that edition's
  pub own : (text : List ℕ) (e : Edition) → Readable e text → ¬ NamesOther e text
  -- the other edition's reader refuses it, and shows nothing of it
  pub refused : (text epochs : List ℕ) (values : List ℤ) (d e : Edition) → ¬ (d ≡ e) → Readable e text
      → (answer_to d text epochs values ≡ refused_by 17 0) × ((epochs_after d text epochs values ≡ epochs) × (values_after d text epochs values ≡ values))
  -- the chosen edition's reader answers 17 exactly where the version is neither
  pub neither : (text : List ℕ) → NamesOther (edition_in text) text ↔ ((e : Edition) → NamesOther e text)
  -- mending does not change the edition
  pub stays : (text : List ℕ) (e : Edition) (out : List (List ℕ)) (changes : List Change) → mend_of e text ≡ Mends out changes → edition_in (flatten out) ≡ e

-- examples, character by character
pub record OfExamples : Type 0 where
  pub read : All readings × All messages
  pub mended : All mendings
  -- of version 3.0, and of neither
  pub versions : All versions × All values
  pub new_read : All new_readings × All new_messages
  pub new_mended : All new_mendings
