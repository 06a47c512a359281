-- The lines before the data: those that fill the slots of the profile are the head of a message, with two times.
use mathlib.Core.Path.{◌≡◌, refl, sym, ◌∙◌, ap, ap₂}
use mathlib.Core.Bool.{Bool, true}
use mathlib.Core.List.{List, [], ◌∷◌, ◌++◌, flatten, map, append_assoc}
use Prim.Native.Nat.{ℕ}
use Prim.Native.String.{String}
use Rattle.text.specs.Numbers.{ascii}
use Rattle.calendar.specs.Text.{same_text}
use Rattle.calendar.proofs.Back.{same_true, same_refl}
use Rattle.message.specs.declared.Edition.{Edition}
use Rattle.message.specs.Editions.{version_of}
use Rattle.message.specs.Message.{entry, says}
use Rattle.message.specs.Form.{fits}
use Rattle.message.specs.Refusals.{is_time}
use Rattle.received.specs.Slots.{line_with, rest_in}
use Rattle.received.specs.Profile.{any_value, text_behind, saying, comment_form, has_more, slots}
use Rattle.received.specs.Data.{Point}
use Rattle.received.specs.Messages.{Message, comment, head_of, Remarks, Further, Holds}
use Rattle.received.specs.Reading.{start_slot, stop_slot, line_at, rest_at, message_in}
use Rattle.readable.proofs.Forms.{Perhaps, Rests, groups_of, rest_of}

-- ---- lines

pub says-line : (keyword : String) (value : List ℕ) → line_with (ascii keyword ++ ascii " = ") value ≡ says keyword value
unfolding entry flatten ascii
says-line keyword value = append_assoc (ascii keyword) (ascii " = ") (value ++ (10 ∷ []))

fixed-line : (keyword : String) (value fixed : List ℕ) → same_text value fixed ≡ true → line_with (ascii keyword ++ ascii " = ") value ≡ says keyword fixed
fixed-line keyword value fixed h = says-line keyword value ∙ ap (says keyword) (same_true value fixed h)

start-line : (rest : List ℕ) → same_text rest [] ≡ true → line_with (ascii "META_START") rest ≡ ascii "META_START\n"
unfolding ascii
start-line rest h = ap (line_with (ascii "META_START")) (same_true rest [] h)

stop-line : (rest : List ℕ) → same_text rest [] ≡ true → line_with (ascii "META_STOP") rest ≡ ascii "META_STOP\n"
unfolding ascii
stop-line rest h = ap (line_with (ascii "META_STOP")) (same_true rest [] h)

-- ---- the parts of a head

pub record Parts (e : Edition) : Type 0 where
  pub on_message : (remarks : List (List ℕ)) × Remarks remarks
  pub classification : (values : List (List ℕ)) × Further (has_more e) "CLASSIFICATION" values
  pub created : (value : List ℕ) × (is_time value ≡ true)
  pub originator : (value : List ℕ) × (fits "ORIGINATOR" value ≡ true)
  pub identifier : (values : List (List ℕ)) × Further (has_more e) "MESSAGE_ID" values
  pub on_object : (remarks : List (List ℕ)) × Remarks remarks
  pub object : (value : List ℕ) × (fits "OBJECT_NAME" value ≡ true)
  pub id : (value : List ℕ) × (fits "OBJECT_ID" value ≡ true)
  pub center : (value : List ℕ) × (fits "CENTER_NAME" value ≡ true)
  pub frame : (value : List ℕ) × (fits "REF_FRAME" value ≡ true)
  pub start : (value : List ℕ) × (any_value "START_TIME" value ≡ true)
  pub stop : (value : List ℕ) × (any_value "STOP_TIME" value ≡ true)
  pub on_data : (remarks : List (List ℕ)) × Remarks remarks

-- the message of these parts and some points
abbrev pub message_of : {e : Edition} → Parts e → List Point → Message
message_of p points =
    record {
      on_message = p.on_message.0;
      classification = p.classification.0;
      created = p.created.0;
      originator = p.originator.0;
      identifier = p.identifier.0;
      on_object = p.on_object.0;
      object = p.object.0;
      id = p.id.0;
      center = p.center.0;
      frame = p.frame.0;
      on_data = p.on_data.0;
      points = points;
    }

abbrev pub parts_of : {e : Edition} (m : Message) → Holds e m → (start stop : List ℕ) → any_value "START_TIME" start ≡ true → any_value "STOP_TIME" stop ≡ true → Parts e
parts_of m h start stop s t =
    record {
      on_message = (m.on_message, h.on_message);
      classification = (m.classification, h.classification);
      created = (m.created, h.created);
      originator = (m.originator, h.originator);
      identifier = (m.identifier, h.identifier);
      on_object = (m.on_object, h.on_object);
      object = (m.object, h.object);
      id = (m.id, h.id);
      center = (m.center, h.center);
      frame = (m.frame, h.frame);
      start = (start, s);
      stop = (stop, t);
      on_data = (m.on_data, h.on_data);
    }

abbrev pub head_from : {e : Edition} → Parts e → List (List (List ℕ))
head_from {e} p = head_of e (message_of p []) p.start.0 p.stop.0

-- ---- the rests of the slots

-- a value that may be left out is what the slot allows
pub to-further : (may : Bool) (keyword : String) (values : List (List ℕ)) → Perhaps may (saying keyword (text_behind keyword)) values → Further may keyword values
to-further may keyword [] h = tt
to-further may keyword (value ∷ []) h = h
to-further may keyword (value ∷ more ∷ values) h = h

pub from-further : (may : Bool) (keyword : String) (values : List (List ℕ)) → Further may keyword values → Perhaps may (saying keyword (text_behind keyword)) values
from-further may keyword [] h = tt
from-further may keyword (value ∷ []) h = h
from-further may keyword (value ∷ more ∷ values) h = h

abbrev pub parts : {e : Edition} → Rests (slots e) → Parts e
parts {e} h =
    let (version, (on_message, (classification, (created, (originator, (identifier, (meta_start, (on_object, (object, (id, (center, (frame, (system, (start, (stop, (meta_stop, (on_data, end))))))))))))))))) = h in
    record {
      on_message = on_message;
      classification = (classification.0, to-further (has_more e) "CLASSIFICATION" classification.0 classification.1);
      created = created;
      originator = originator;
      identifier = (identifier.0, to-further (has_more e) "MESSAGE_ID" identifier.0 identifier.1);
      on_object = on_object;
      object = object;
      id = id;
      center = center;
      frame = frame;
      start = start;
      stop = stop;
      on_data = on_data;
    }

abbrev pub rests : {e : Edition} → Parts e → Rests (slots e)
rests {e} p = (
  (version_of e, same_refl (version_of e)),
  (
    p.on_message,
    (
      (p.classification.0, from-further (has_more e) "CLASSIFICATION" p.classification.0 p.classification.1),
      (
        p.created,
        (
          p.originator,
          (
            (p.identifier.0, from-further (has_more e) "MESSAGE_ID" p.identifier.0 p.identifier.1),
            (
              ([], same_refl []),
              (
                p.on_object,
                (
                  p.object,
                  (p.id, (p.center, (p.frame, ((ascii "TAI", same_refl (ascii "TAI")), (p.start, (p.stop, (([], same_refl []), (p.on_data, tt)))))))),
                ),
              ),
            ),
          ),
        ),
      ),
    ),
  ),
)

further-lines : (keyword : String) (values : List (List ℕ)) → map (line_with (ascii keyword ++ ascii " = ")) values ≡ map (says keyword) values
further-lines keyword [] = refl
further-lines keyword (value ∷ values) = ap₂ (λ x y. x ∷ y) (says-line keyword value) (further-lines keyword values)

pub head-is : (e : Edition) (h : Rests (slots e)) → groups_of (slots e) h ≡ head_from {e = e} (parts {e = e} h)
head-is e h =
    let (version, (on_message, (classification, (created, (originator, (identifier, (meta_start, (on_object, (object, (id, (center, (frame, (system, (start, (stop, (meta_stop, (on_data, end))))))))))))))))) = h in
    λ i.
    (fixed-line "CCSDS_OEM_VERS" version.0 (version_of e) version.1 i ∷ [])
    ∷ map comment on_message.0
    ∷ further-lines "CLASSIFICATION" classification.0 i
    ∷ (says-line "CREATION_DATE" created.0 i ∷ [])
    ∷ (says-line "ORIGINATOR" originator.0 i ∷ [])
    ∷ further-lines "MESSAGE_ID" identifier.0 i
    ∷ (start-line meta_start.0 meta_start.1 i ∷ [])
    ∷ map comment on_object.0
    ∷ (says-line "OBJECT_NAME" object.0 i ∷ [])
    ∷ (says-line "OBJECT_ID" id.0 i ∷ [])
    ∷ (says-line "CENTER_NAME" center.0 i ∷ [])
    ∷ (says-line "REF_FRAME" frame.0 i ∷ [])
    ∷ (fixed-line "TIME_SYSTEM" system.0 (ascii "TAI") system.1 i ∷ [])
    ∷ (says-line "START_TIME" start.0 i ∷ [])
    ∷ (says-line "STOP_TIME" stop.0 i ∷ [])
    ∷ (stop-line meta_stop.0 meta_stop.1 i ∷ [])
    ∷ map comment on_data.0
    ∷ []

-- ---- what is found in a head

pub rest-says : (keyword : String) (value : List ℕ) → rest_in (ascii keyword ++ ascii " = ") (says keyword value) ≡ value
rest-says keyword value = ap (rest_in (ascii keyword ++ ascii " = ")) (sym (says-line keyword value)) ∙ rest_of (ascii keyword ++ ascii " = ") value

remarks-found : (remarks : List (List ℕ)) → map (rest_in comment_form.front) (map comment remarks) ≡ remarks
remarks-found [] = refl
remarks-found (r ∷ remarks) = ap₂ (λ x y. x ∷ y) (rest_of (ascii "COMMENT") r) (remarks-found remarks)

further-found : (keyword : String) (values : List (List ℕ)) → map (rest_in (ascii keyword ++ ascii " = ")) (map (says keyword) values) ≡ values
further-found keyword [] = refl
further-found keyword (value ∷ values) = ap₂ (λ x y. x ∷ y) (rest-says keyword value) (further-found keyword values)

pub message-found : {e : Edition} (p : Parts e) (points : List Point) → message_in (head_from p) points ≡ message_of p points
unfolding message_in rest_at line_at
message-found p points =
    λ i. record {
      on_message = remarks-found p.on_message.0 i;
      classification = further-found "CLASSIFICATION" p.classification.0 i;
      created = rest-says "CREATION_DATE" p.created.0 i;
      originator = rest-says "ORIGINATOR" p.originator.0 i;
      identifier = further-found "MESSAGE_ID" p.identifier.0 i;
      on_object = remarks-found p.on_object.0 i;
      object = rest-says "OBJECT_NAME" p.object.0 i;
      id = rest-says "OBJECT_ID" p.id.0 i;
      center = rest-says "CENTER_NAME" p.center.0 i;
      frame = rest-says "REF_FRAME" p.frame.0 i;
      on_data = remarks-found p.on_data.0 i;
      points = points;
    }

pub start-found : {e : Edition} (p : Parts e) → rest_at (head_from p) start_slot ≡ p.start.0
unfolding rest_at line_at
start-found p = rest-says "START_TIME" p.start.0

pub stop-found : {e : Edition} (p : Parts e) → rest_at (head_from p) stop_slot ≡ p.stop.0
unfolding rest_at line_at
stop-found p = rest-says "STOP_TIME" p.stop.0
