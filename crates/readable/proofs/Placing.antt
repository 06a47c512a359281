-- The places that the reader gives hold the names and the time of creation.
use mathlib.Core.Path.{◌≡◌, sym, ◌∙◌, ap, subst}
use mathlib.Core.List.{List, [], ◌∷◌, ◌++◌, flatten, map, append_assoc}
use Prim.Native.Nat.{ℕ, ◌+◌}
use Prim.Native.String.{String}
use lib.ListN.{length, take, drop}
use lib.Seq.{take-append_seam, drop-append_seam, drop-drop}
use Rattle.text.specs.Numbers.{ascii}
use Rattle.message.specs.Message.{says}
use Rattle.message.specs.declared.Edition.{Edition}
use Rattle.received.specs.Slots.{rest_in}
use Rattle.received.specs.Data.{Point, line_of}
use Rattle.received.specs.Messages.{Message, Says}
use Rattle.received.specs.Reading.{Reads, line_at, rest_at, read_of, message_in}
use Rattle.received.specs.Answer.{place_at, received}
use Rattle.readable.specs.Answering.{head_in, Named}
use Rattle.readable.proofs.Lines.{flat_append}
use Rattle.readable.proofs.Heads.{says-line, rest-says}
use Rattle.readable.proofs.Readers.{same-groups, sound, complete}

-- the value of a line, with other lines before it and behind it
value-held : (text : List ℕ) (before : List (List (List ℕ))) (keyword : String) (value : List ℕ) (behind : List (List (List ℕ))) (rest : List (List ℕ))
    → text ≡ flatten (flatten (before ++ ((says keyword value ∷ []) ∷ behind)) ++ rest)
    → take (length value) (drop (length (flatten (flatten before)) + length (ascii keyword ++ ascii " = ")) text) ≡ value
unfolding flatten
value-held text before keyword value behind rest e =
    let front = ascii keyword ++ ascii " = " in
    let past = flatten (flatten before) in
    let more = (10 ∷ []) ++ flatten (flatten behind ++ rest) in
    let whole : text ≡ past ++ (front ++ (value ++ more)) =
    e
    ∙ ap (λ x. flatten (x ++ rest)) (flat_append before ((says keyword value ∷ []) ∷ behind))
    ∙ ap flatten (append_assoc (flatten before) (says keyword value ∷ flatten behind) rest)
    ∙ flat_append (flatten before) (says keyword value ∷ (flatten behind ++ rest))
    ∙ ap (λ l. past ++ (l ++ flatten (flatten behind ++ rest))) (sym (says-line keyword value))
    ∙ ap (λ x. past ++ x) (append_assoc front (value ++ (10 ∷ [])) (flatten (flatten behind ++ rest)))
    ∙ ap (λ x. past ++ (front ++ x)) (append_assoc value (10 ∷ []) (flatten (flatten behind ++ rest))) in
    let after : drop (length past + length front) text ≡ value ++ more =
    sym (drop-drop (length front) (length past) text)
    ∙ ap (λ x. drop (length front) (drop (length past) x)) whole
    ∙ ap (drop (length front)) (drop-append_seam past (front ++ (value ++ more)))
    ∙ drop-append_seam front (value ++ more) in
    ap (take (length value)) after ∙ take-append_seam value more

-- with the value's length as it is found
found-held : (text : List ℕ) (before : List (List (List ℕ))) (keyword : String) (value : List ℕ) (behind : List (List (List ℕ))) (rest : List (List ℕ))
    → text ≡ flatten (flatten (before ++ ((says keyword value ∷ []) ∷ behind)) ++ rest)
    → take (length (rest_in (ascii keyword ++ ascii " = ") (says keyword value))) (drop (length (flatten (flatten before)) + length (ascii keyword ++ ascii " = ")) text) ≡ value
found-held text before keyword value behind rest e = rw (rest-says keyword value) (value-held text before keyword value behind rest e)

says-named : (e : Edition) (text : List ℕ) (m : Message) (count : ℕ) → Says e text m → Named text (received (head_in e m) count) m
unfolding received place_at rest_at line_at
says-named e text m count s =
    let head = head_in e m in
    let rest = map line_of m.points in
    record {
      created = found-held text (take 3 head) "CREATION_DATE" m.created (drop 4 head) rest s.text-is;
      originator = found-held text (take 4 head) "ORIGINATOR" m.originator (drop 5 head) rest s.text-is;
      object = found-held text (take 8 head) "OBJECT_NAME" m.object (drop 9 head) rest s.text-is;
      id = found-held text (take 9 head) "OBJECT_ID" m.id (drop 10 head) rest s.text-is;
      center = found-held text (take 10 head) "CENTER_NAME" m.center (drop 11 head) rest s.text-is;
      frame = found-held text (take 11 head) "REF_FRAME" m.frame (drop 12 head) rest s.text-is;
    }

pub named : (e : Edition) (text : List ℕ) (groups : List (List (List ℕ))) (points : List Point) (count : ℕ) → read_of e text ≡ Reads groups points
    → Named text (received groups count) (message_in groups points)
named e text groups points count q =
    let s = sound e text groups points q in
    let m = message_in groups points in
    subst (λ g. Named text (received g count) m) (same-groups (sym (complete e text m s).0 ∙ q)) (says-named e text m count s)
