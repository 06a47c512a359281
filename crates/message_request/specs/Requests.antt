-- What a text asks for: its lines in their order. Definitions only.
use Rattle.std.specs.Prelude.{ℕ, List, ℤ, length, Option, Some, None, Result, Ok, Err, ok_or}
use Rattle.text.specs.Numbers.{ascii}
use Rattle.message_request.specs.declared.Rest.{Rest}
use Rattle.message_request.specs.declared.Version.{Version}
use Rattle.message_request.specs.declared.Names.{Names}
use Rattle.message_request.specs.declared.Settings.{Settings}
use Rattle.message_request.specs.declared.Asked.{Asked}
use Rattle.message_request.specs.declared.NotAsked.{NotAsked}
use Rattle.message_request.specs.declared.Unread.{Unread}
use Rattle.message_request.specs.Lines.{past_word, line_end, natural_line, rest_in, natural_in}
use Rattle.message_request.specs.Points.{Kept, kept_at, over}

-- ---- a line of an edition may stand first: its value, up to the newline or to the end of the text, and where the next line stands.
-- Without a newline it is no line of a request.

abbrev pub version_with : Rest → Version
version_with rest = record { value = Some rest; next = rest.next }

abbrev pub version_from : List ℕ → Option ℕ → Version
version_from text None = record { value = None; next = Ok 0 }
version_from text (Some from) =
    version_with (record {
      from = from;
      end = line_end text from;
      next = ok_or (past_word text (line_end text from) (ascii "\n")) 0;
    })

unfoldable pub version_line : List ℕ → Version
version_line text = version_from text (past_word text 0 (ascii "edition "))

-- ---- the lines from a place on

unfoldable pub names_in : List ℕ → Result ℕ ℕ → Names
names_in text from =
    let created = rest_in text from (ascii "created ") in
    let originator = rest_in text created.next (ascii "originator ") in
    let object = rest_in text originator.next (ascii "object ") in
    let id = rest_in text object.next (ascii "id ") in
    let center = rest_in text id.next (ascii "center ") in
    let frame = rest_in text center.next (ascii "frame ") in
    let start = rest_in text frame.next (ascii "start ") in
    record {
      created = created;
      originator = originator;
      object = object;
      id = id;
      center = center;
      frame = frame;
      start = start;
    }

-- where no line of room stands there, the points follow at once
abbrev pub settings_by : ℕ → ℕ → Result ℕ ℕ → Option (ℕ × Result ℕ ℕ) → Settings
settings_by tick step next None = record { tick = tick; step = step; room = None; next = next }
settings_by tick step next (Some (room, past)) = record { tick = tick; step = step; room = Some room; next = past }

unfoldable pub settings_in : List ℕ → Result ℕ ℕ → Settings
settings_in text from =
    let (tick, next) = natural_in text from (ascii "tick ") in
    let (step, next) = natural_in text next (ascii "step ") in
    settings_by tick step next (natural_line text next (ascii "room "))

-- the points behind them, where so many numbers can be kept
unfoldable pub kept_in : List ℕ → Result ℕ ℕ → ℕ → Kept
kept_in text from room = kept_at text (settings_in text (names_in text from).start.next).next room

-- a request, or what was read before what is at fault
abbrev pub asked_by : Names → Settings → ℕ → Option Unread → Result Asked NotAsked
asked_by names settings count None = Ok (record { names = names; settings = settings; count = count })
asked_by names settings count (Some unread) = Err (record { unread = unread; names = names; settings = settings; count = count })

unfoldable pub asked_in : List ℕ → Result ℕ ℕ → ℕ → Result Asked NotAsked
asked_in text from room =
    let names = names_in text from in
    let kept = kept_in text from room in
    asked_by names (settings_in text names.start.next) (length kept.numbers) kept.unread

unfoldable pub numbers_after : List ℕ → Result ℕ ℕ → List ℤ → List ℤ
numbers_after text from numbers = over (kept_in text from (length numbers)) numbers
