-- What `oem write` writes for a text: the message that it asks for, or one line. Definitions only.
use Rattle.std.specs.Prelude.{ℕ, zero, suc, ◌-◌, ◌/◌, ◌≤◌, min, ◌≡◌, cond, ℤ, length, take, drop, Option, Some, None, Result, Ok, Err, option_map, unwrap_or}
use mathlib.Core.List.{List, [], ◌∷◌, flatten}
use Rattle.text.specs.Numbers.{ascii, decimal}
use Rattle.calendar.specs.Text.{same_text}
use Rattle.message.specs.declared.Edition.{Edition}
use Rattle.message.specs.declared.Edition.TheVariants.{Two, Three}
use Rattle.message.specs.Editions.{version_of}
use Rattle.message.specs.Request as M
use Rattle.message.specs.Message.{message_as}
use Rattle.message.specs.Refusals.{refusal}
use Rattle.message_request.specs.declared.Rest.{Rest}
use Rattle.message_request.specs.declared.Names.{Names}
use Rattle.message_request.specs.declared.Settings.{Settings}
use Rattle.message_request.specs.declared.Asked.{Asked}
use Rattle.message_request.specs.declared.NotAsked.{NotAsked}
use Rattle.message_request.specs.declared.Unread.{Unread}
use Rattle.message_request.specs.declared.Unread.TheVariants.{Line, Full}
use Rattle.message_request.specs.Requests.{version_line, asked_in, kept_in}

-- the first n bytes of a buffer are a text
pub record Says (buffer : List ℕ) (n : ℕ) (text : List ℕ) : Type 0 where
  pub within : n ≤ length buffer
  pub holds : take n buffer ≡ text

-- ---- one line, with a number in it

unfoldable pub line_with : List ℕ → ℕ → List ℕ → List (List ℕ)
line_with before n after = before ∷ decimal n ∷ after ∷ []

abbrev pub refused_by : ℕ → List ℕ
refused_by n = flatten (line_with (ascii "refused ") n (ascii "\n"))

unfoldable pub part_of : List ℕ → Rest → List ℕ
part_of text rest = take (rest.end - rest.from) (drop rest.from text)

-- ---- the edition that the first line of a text names

unfoldable pub edition_named : List ℕ → Option Edition
edition_named value =
    cond (same_text value (version_of Three))
    (Some Three)
    (cond (same_text value (version_of Two)) (Some Two) None)

-- without that line it is version 2.0
unfoldable pub edition_of : List ℕ → Option Rest → Option Edition
edition_of text None = Some Two
edition_of text (Some value) = edition_named (part_of text value)

-- ---- the request that the lines of a text make

unfoldable pub request_of : List ℕ → Names → Settings → List ℤ → M.Request
request_of text names settings points =
    record {
      originator = part_of text names.originator;
      object = part_of text names.object;
      id = part_of text names.id;
      center = part_of text names.center;
      frame = part_of text names.frame;
      created = part_of text names.created;
      start = part_of text names.start;
      tick = settings.tick;
      step = settings.step;
      points = points;
    }

-- the room for its message: what the text allows of what is held
unfoldable pub room_for : Settings → ℕ → ℕ
room_for settings held = unwrap_or (option_map (λ room. min room held) settings.room) held

-- ---- the answer

-- the message, where no number refuses it
abbrev pub message_by : ℕ → Edition → M.Request → List ℕ
message_by zero e r = message_as e r
message_by (suc n) e r = refused_by (suc n)

unfoldable pub message_or : Edition → M.Request → ℕ → List ℕ
message_or e r room = message_by (refusal r room) e r

-- why a text is not read
abbrev pub told_by : Unread → ℕ → List ℕ
told_by (Line line) most = flatten (line_with (ascii "line ") line (ascii ": not a request\n"))
told_by Full most = flatten (line_with (ascii "more than ") most (ascii " points\n"))

abbrev pub answer_by : Result Asked NotAsked → ℕ → (Asked → List ℕ) → List ℕ
answer_by (Ok asked) most written = written asked
answer_by (Err refused) most written = told_by refused.unread most

-- to the lines from a place on, where so many numbers can be kept, and so many bytes are held for the message
unfoldable pub answer_from : Edition → List ℕ → Result ℕ ℕ → ℕ → ℕ → List ℕ
answer_from e text from room held =
    answer_by (asked_in text from room) (room / 12) (λ asked.
    message_or e (request_of text asked.names asked.settings (kept_in text from room).numbers) (room_for asked.settings held))

-- 17 is tested before every line of the request
abbrev pub by_edition : Option Edition → (Edition → List ℕ) → List ℕ
by_edition None written = refused_by 17
by_edition (Some e) written = written e

unfoldable pub answer_for : List ℕ → ℕ → ℕ → List ℕ
answer_for text room held =
    let version = version_line text in
    by_edition (edition_of text version.value) (λ e. answer_from e text version.next room held)
