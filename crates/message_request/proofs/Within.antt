-- What the names of a request and the value of an edition are of the text: each is a part of it, whatever the text is.
use Rattle.std.proofs.Common.{◌≡◌, ℕ, ◌+◌, ◌≤◌, ◌<◌, Bool, true, false, List, [], ◌∷◌, length, drop, refl, arith, length-drop}
use Rattle.std.specs.Prelude.{Option, Some, None, Result, Ok, IfOk, IfSome, cond, eqb, position, unwrap_or, option_and_then}
use Rattle.std.specs.List.{starts_with}
use Rattle.std.proofs.lemmas.List.Quantifiers.{position-Some}
use Rattle.text.specs.Numbers.{ascii}
use Rattle.message_request.specs.declared.Rest.{Rest}
use Rattle.message_request.specs.declared.Names.{Names}
use Rattle.message_request.specs.declared.Asked.{Asked}
use Rattle.message_request.specs.declared.Unread.{Unread}
use Rattle.message_request.specs.Lines.{is_newline, past_word, line_end, begun, rest_line, no_rest, rest_in}
use Rattle.message_request.specs.Requests.{version_from, version_line, names_in, settings_in, kept_in, asked_by, asked_in}
use Rattle.message_request.specs.Within.{Within, AllWithin}

-- ---- where a word stands, and where its line ends

starts-within : (text word : List ℕ) → starts_with eqb text word ≡ true → length word ≤ length text
starts-within text [] h = omega arith
starts-within [] (w ∷ word) h = absurd (cc)
starts-within (b ∷ text) (w ∷ word) h = grind (arith, starts-within text word)

word-within : (text : List ℕ) (at : ℕ) (word : List ℕ) {next : ℕ} → past_word text at word ≡ Some next → (next ≡ at + length word) × (length word ≤ length (drop at text))
unfolding past_word
word-within text at word {next} e = by (starts_with eqb (drop at text) word) refl e
  where
    by : (t : Bool) → starts_with eqb (drop at text) word ≡ t → cond t (Some (at + length word)) None ≡ Some next → (next ≡ at + length word) × (length word ≤ length (drop at text))
    by true h e = (cc, starts-within (drop at text) word h)
    by false h e = absurd (cc)

end-within : (text : List ℕ) (from : ℕ) → from ≤ length text → (from ≤ line_end text from) × (line_end text from ≤ length text)
unfolding line_end
end-within text from h = by (position is_newline (drop from text)) refl
  where
    by : (o : Option ℕ) → position is_newline (drop from text) ≡ o
        → (from ≤ from + unwrap_or o (length (drop from text))) × (from + unwrap_or o (length (drop from text)) ≤ length text)
    by None e = (omega arith, omega (arith, length-drop from text))
    by (Some i) e = (omega arith, omega (arith, length-drop from text, (position-Some is_newline (drop from text) i 0 e).0))

-- a word of some bytes, and the rest of its line
module _ (text : List ℕ) (at : ℕ) (word : List ℕ) (some : 0 < length word) {from : ℕ} (e : past_word text at word ≡ Some from) where
  pub part-within : (next : Result ℕ ℕ) → Within text (record { from = from; end = line_end text from; next = next })
  part-within next =
      let (p, q) = word-within text at word e in
      let r : from ≤ length text = omega (arith, length-drop at text) in
      let (s, t) = end-within text from r in
      record { starts = s; ends = t }

-- ---- a line at any place: what follows its word, or an empty part

from-below : (text : List ℕ) (from : ℕ) → from ≤ line_end text from
unfolding line_end
from-below text from = omega arith

-- a newline stands within the text
newline-within : (text : List ℕ) (end : ℕ) {next : ℕ} → past_word text end (ascii "\n") ≡ Some next → end ≤ length text
unfolding ascii
newline-within text end e = let (p, q) = word-within text end (ascii "\n") e in omega (arith, q, length-drop end text)

module _ (text : List ℕ) (place : Result ℕ ℕ) where
  abbrev rest : ℕ → ℕ → Option Rest
  rest from next = Some (record { from = from; end = line_end text from; next = Ok next })

  none_within : Within text (no_rest place)
  none_within = record { starts = omega arith; ends = omega arith }

  ended-within : (from : ℕ) (next : Option ℕ) → past_word text (line_end text from) (ascii "\n") ≡ next
      → Within text (unwrap_or (option_and_then {U = Rest} (λ (next : ℕ). rest from next) next) (no_rest place))
  ended-within from None e = none_within
  ended-within from (Some next) e = record { starts = from-below text from; ends = newline-within text (line_end text from) e }

  begun-within : (from : Option ℕ)
      → Within text (unwrap_or (option_and_then {U = Rest} (λ (from : ℕ). option_and_then {U = Rest} (λ (next : ℕ). rest from next) (past_word text (line_end text from) (ascii "\n"))) from) (no_rest place))
  begun-within None = none_within
  begun-within (Some from) = ended-within from (past_word text (line_end text from) (ascii "\n")) refl

  rest-within : (word : List ℕ) → Within text (rest_in text place word)
  unfolding rest_in rest_line
  rest-within word = begun-within (begun text place word)

-- ---- the names

pub names-within : (text : List ℕ) (from : Result ℕ ℕ) → AllWithin text (names_in text from)
unfolding names_in
names-within text from =
    record {
      created = rest-within text _ _;
      originator = rest-within text _ _;
      object = rest-within text _ _;
      id = rest-within text _ _;
      center = rest-within text _ _;
      frame = rest-within text _ _;
      start = rest-within text _ _;
    }

-- ---- what a text asks for: its names are parts of the text, and so many numbers are kept

pub asked-within : (text : List ℕ) (from : Result ℕ ℕ) (room : ℕ)
    → IfOk (asked_in text from room) (λ (asked : Asked). (AllWithin text asked.names) × (asked.count ≡ length (kept_in text from room).numbers))
unfolding asked_in
asked-within text from room = by (kept_in text from room).unread
  where
    names : Names
    names = names_in text from

    count : ℕ
    count = length (kept_in text from room).numbers

    by : (unread : Option Unread)
        → IfOk (asked_by names (settings_in text names.start.next) count unread) (λ (asked : Asked). (AllWithin text asked.names) × (asked.count ≡ count))
    by None = (names-within text from, refl)
    by (Some unread) = tt

-- ---- the value of an edition

pub version-within : (text : List ℕ) → IfSome (version_line text).value (Within text)
unfolding version_line ascii
version-within text = by (past_word text 0 (ascii "edition ")) refl
  where
    by : (o : Option ℕ) → past_word text 0 (ascii "edition ") ≡ o → IfSome (version_from text o).value (Within text)
    by None e = tt
    by (Some from) e = part-within text 0 (ascii "edition ") (omega arith) e _
