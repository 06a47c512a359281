-- What an inspector asks of the text and the room: the first time is the start as it was given, every time is read back as the start and so many steps,
-- a message is as long in either edition, and a refusal of any number leaves the room as it was.
use Rattle.std.specs.Prelude.{Some, unwrap_or, ◌≡◌, refl, ℕ, zero, suc, ◌+◌, ◌*◌, ◌≤◌, length}
use Rattle.std.proofs.Common.{sym, ◌∙◌, ap, arith, length-append}
use mathlib.Core.List.{List, ◌∷◌, flatten}
use Rattle.text.specs.Numbers.{ascii}
use Rattle.calendar.specs.Calendar.{most_seconds}
use Rattle.calendar.specs.Text.{time_in}
use Rattle.calendar.proofs.Back.{time-exactly}
use Rattle.message.specs.declared.Edition.{Edition}
use Rattle.message.specs.declared.Edition.TheVariants.{Two, Three}
use Rattle.message.specs.Editions.{version_of}
use Rattle.message.specs.Request.{Request, seconds_in, seconds_at}
use Rattle.message.specs.Message.{entry, says, time_after, message_as, message}
use Rattle.message.specs.Refusals.{refusal}
use Rattle.message.specs.Answer.{answer_by, room_by, answer_as, room_as}

-- ---- times

pub first-as-given : (r : Request) (n : ℕ) → time_in r.start ≡ Some n → time_after (seconds_at r 0) ≡ r.start
unfolding seconds_at seconds_in
first-as-given r n e =
    let z : unwrap_or (time_in r.start) 0 + 0 * r.step ≡ n = ap (λ t. unwrap_or t 0 + 0 * r.step) e ∙ none n r.step in
    ap time_after z ∙ sym ((time-exactly r.start n).0 e).1
  where
    none : (n step : ℕ) → n + 0 * step ≡ n
    none n step = omega arith

pub times-back : (r : Request) (i : ℕ) → seconds_at r i ≤ most_seconds → time_in (time_after (seconds_at r i)) ≡ Some (seconds_at r i)
times-back r i h = (time-exactly (time_after (seconds_at r i)) (seconds_at r i)).1 (h, refl)

-- ---- editions

with_rest : (x y : List ℕ) (rest : List (List ℕ)) → length x ≡ length y → length (flatten (x ∷ rest)) ≡ length (flatten (y ∷ rest))
unfolding flatten
with_rest x y rest e = omega (arith, length-append x (flatten rest), length-append y (flatten rest), e)

version-long : length (says "CCSDS_OEM_VERS" (version_of Three)) ≡ length (says "CCSDS_OEM_VERS" (version_of Two))
unfolding entry flatten ascii
version-long = refl

-- the two versions are written with as many characters
pub as_long : (e : Edition) (r : Request) → length (message_as e r) ≡ length (message r)
unfolding message_as
as_long Two r = refl
as_long Three r = with_rest (says "CCSDS_OEM_VERS" (version_of Three)) (says "CCSDS_OEM_VERS" (version_of Two)) _ version-long

-- ---- refusals

-- nothing is written, and the answer is the number alone
module _ (e : Edition) (r : Request) (room : List ℕ) where
  left_by : (n : ℕ) → (n ≡ 0 → ⊥) → (answer_by n e r ≡ record { number = n; length = 0 }) × (room_by n e r room ≡ room)
  left_by zero z = absurd (z refl)
  left_by (suc n) z = (refl, refl)

  pub left_alone : (refusal r (length room) ≡ 0 → ⊥)
      → (answer_as e r room ≡ record { number = refusal r (length room); length = 0 }) × (room_as e r room ≡ room)
  unfolding answer_as room_as
  left_alone z = left_by (refusal r (length room)) z
