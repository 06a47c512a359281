-- The readable messages: what a message says, the lines that say it, and which texts are one. Definitions only.
use Rattle.std.specs.Prelude.{ℕ, suc, ◌^◌, ◌≤◌, ◌<◌, ◌≡◌, Bool, true, nat_abs, length}
use Prim.Native.String.{String}
use mathlib.Core.List.{List, [], ◌∷◌, ◌++◌, flatten, map}
use Rattle.text.specs.Numbers.{ascii}
use Rattle.calendar.specs.Calendar.{most_seconds}
use Rattle.message.specs.declared.Edition.{Edition}
use Rattle.message.specs.Editions.{version_of}
use Rattle.message.specs.Message.{says, time_after}
use Rattle.message.specs.Form.{fits}
use Rattle.message.specs.Refusals.{is_time}
use Rattle.received.specs.Slots.{line_with}
use Rattle.received.specs.Profile.{is_remark, any_value, text_behind, has_more}
use Rattle.received.specs.Data.{Point, line_of, first_seconds, last_seconds}

-- remarks are what stands behind COMMENT; a classification and an identifier are none or one
pub record Message : Type 0 where
  pub on_message : List (List ℕ)
  pub classification : List (List ℕ)
  pub created : List ℕ
  pub originator : List ℕ
  pub identifier : List (List ℕ)
  pub on_object : List (List ℕ)
  pub object : List ℕ
  pub id : List ℕ
  pub center : List ℕ
  pub frame : List ℕ
  pub on_data : List (List ℕ)
  pub points : List Point

-- ---- its lines

abbrev pub comment : List ℕ → List ℕ
comment remark = line_with (ascii "COMMENT") remark

abbrev only : List ℕ → List (List ℕ)
only line = line ∷ []

-- those before the data, a group for each slot, with two times
abbrev pub head_of : Edition → Message → List ℕ → List ℕ → List (List (List ℕ))
head_of e m start stop =
    only (says "CCSDS_OEM_VERS" (version_of e))
    ∷ map comment m.on_message
    ∷ map (says "CLASSIFICATION") m.classification
    ∷ only (says "CREATION_DATE" m.created)
    ∷ only (says "ORIGINATOR" m.originator)
    ∷ map (says "MESSAGE_ID") m.identifier
    ∷ only (ascii "META_START\n")
    ∷ map comment m.on_object
    ∷ only (says "OBJECT_NAME" m.object)
    ∷ only (says "OBJECT_ID" m.id)
    ∷ only (says "CENTER_NAME" m.center)
    ∷ only (says "REF_FRAME" m.frame)
    ∷ only (says "TIME_SYSTEM" (ascii "TAI"))
    ∷ only (says "START_TIME" start)
    ∷ only (says "STOP_TIME" stop)
    ∷ only (ascii "META_STOP\n")
    ∷ map comment m.on_data
    ∷ []

abbrev pub lines_with : Edition → Message → List ℕ → List ℕ → List (List ℕ)
lines_with e m start stop = flatten (head_of e m start stop) ++ map line_of m.points

abbrev pub lines_of : Edition → Message → List (List ℕ)
lines_of e m = lines_with e m (time_after (first_seconds m.points)) (time_after (last_seconds m.points))

-- ---- what holds of it

abbrev pub Every : {A : Type 0} → (A → Type 0) → List A → Type 0
Every P [] = Unit {0}
Every P (x ∷ xs) = P x × Every P xs

abbrev pub Remarks : List (List ℕ) → Type 0
Remarks remarks = Every (λ r. is_remark r ≡ true) remarks

-- none, or one that is a free text, where it may stand
abbrev pub Further : Bool → String → List (List ℕ) → Type 0
Further may keyword [] = Unit {0}
Further may keyword (value ∷ []) = (may ≡ true) × (text_behind keyword value ≡ true)
Further may keyword (value ∷ more ∷ values) = ⊥

-- six numbers of at most 16 digits, at a time of the calendar
pub record IsPoint (p : Point) : Type 0 where
  pub in_time : p.seconds ≤ most_seconds
  pub six : length p.values ≡ 6
  pub digits : Every (λ n. nat_abs n < 10 ^ 16) p.values

-- each is later than the one before it, and none before an earliest time
abbrev pub Rising : ℕ → List Point → Type 0
Rising earliest [] = Unit {0}
Rising earliest (p ∷ points) = (earliest ≤ p.seconds) × Rising (suc p.seconds) points

pub record Holds (e : Edition) (m : Message) : Type 0 where
  pub on_message : Remarks m.on_message
  pub classification : Further (has_more e) "CLASSIFICATION" m.classification
  pub created : is_time m.created ≡ true
  pub originator : fits "ORIGINATOR" m.originator ≡ true
  pub identifier : Further (has_more e) "MESSAGE_ID" m.identifier
  pub on_object : Remarks m.on_object
  pub object : fits "OBJECT_NAME" m.object ≡ true
  pub id : fits "OBJECT_ID" m.id ≡ true
  pub center : fits "CENTER_NAME" m.center ≡ true
  pub frame : fits "REF_FRAME" m.frame ≡ true
  pub on_data : Remarks m.on_data
  pub some : 0 < length m.points
  pub points : Every IsPoint m.points
  pub rising : Rising 0 m.points

-- a text is readable where it is just the lines of such a message
pub record Says (e : Edition) (text : List ℕ) (m : Message) : Type 0 where
  pub holds : Holds e m
  pub text-is : text ≡ flatten (lines_of e m)

abbrev pub Readable : Edition → List ℕ → Type 0
Readable e text = (m : Message) × Says e text m

-- lines are readable but for the two times where these may be any two values
pub record ButForTimes (e : Edition) (lines : List (List ℕ)) : Type 0 where
  pub message : Message
  pub start : List ℕ
  pub stop : List ℕ
  pub holds : Holds e message
  pub start-holds : any_value "START_TIME" start ≡ true
  pub stop-holds : any_value "STOP_TIME" stop ≡ true
  pub lines_are : lines ≡ lines_with e message start stop
