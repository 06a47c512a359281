-- The first bytes of a buffer: one line, and a message or the number that refuses it.
use mathlib.Core.Path.{◌≡◌, refl, ◌∙◌, ap}
use mathlib.Core.List.{List, ◌++◌}
use Prim.Native.Nat.{ℕ, zero, suc, ◌+◌, ◌^◌, ◌≤◌, ◌<◌, min}
use native.Mathlib.Nat.{min-le_right}
use native.Mathlib.Omega.{arith}
use lib.ListN.{length, take, drop, length-append}
use lib.Seq.{take_at, take-append-le}
use Rattle.std.specs.Prelude.{Option, Some, None, option_map, unwrap_or}
use Rattle.text.specs.Numbers.{decimal}
use Rattle.text.proofs.Digits.{length-decimal}
use Rattle.text.specs.Places.{Wrote, written}
use Rattle.text.proofs.Pieces.{up-to-end}
use Rattle.message.specs.declared.Written.{Written}
use Rattle.message.specs.declared.Edition.{Edition}
use Rattle.message.specs.Request.{Request}
use Rattle.message.specs.Message.{message_as}
use Rattle.message.specs.Refusals.{refusal}
use Rattle.message.specs.Answer.{answer_by, room_by, answer_as, room_as}
use Rattle.message_request.specs.declared.Settings.{Settings}
use Rattle.oem.specs.Answers.{Says, refused_by, room_for, message_by, message_or}

-- ---- what was written from the start

pub decimal-short : (n : ℕ) → n < 2 ^ 64 → length (decimal n) ≤ 20
decimal-short n h = length-decimal 19 n (omega arith)

pub said : {before text after : List ℕ} {end : ℕ} → Wrote before 0 text after end → length text ≤ length before → Says after end text
said {before} {text} {after} {end} w h =
    let e : end ≡ 0 + length text = w.ends in
    record {
      within = omega (arith, w.ends, w.long);
      holds = ap (take end) w.holds ∙ ap (λ n. take n (written before 0 text)) e ∙ up-to-end before 0 text;
    }

-- ---- the room for a message

pub room_within : (s : Settings) (held : ℕ) → room_for s held ≤ held
unfolding room_for
room_within s held = by s.room
  where
    by : (room : Option ℕ) → unwrap_or (option_map (λ room. min room held) room) held ≤ held
    by None = omega arith
    by (Some room) = min-le_right room held

-- ---- a message, in the first bytes of a buffer

message-first : (text room rest : List ℕ) → Says (written room 0 text ++ rest) (length text) text
unfolding written
message-first text room rest =
    let behind = drop (0 + length text) room in
    let l = length-append text behind in
    record {
      within = omega (arith, length-append (text ++ behind) rest, l);
      holds = take-append-le (length text) (text ++ behind) rest (omega (arith, l)) ∙ take_at text behind (length text) refl;
    }

module _ (e : Edition) (r : Request) (room : List ℕ) where
  wrote_by : (n : ℕ) {w : Written} {after : List ℕ} (rest : List ℕ) → w ≡ answer_by n e r → after ≡ room_by n e r room → w.number ≡ 0
      → Says (after ++ rest) w.length (message_by n e r)
  wrote_by zero {w} {after} rest q a z =
      let f = message-first (message_as e r) room rest in
      let l : w.length ≡ length (message_as e r) = ap (λ v. v.length) q in
      rw (l, a) f
  wrote_by (suc n) {w} rest q a z = let y : w.number ≡ suc n = ap (λ v. v.number) q in absurd (omega arith)

  refused-by : (n : ℕ) {w : Written} → w ≡ answer_by n e r → (w.number ≡ 0 → ⊥) → refused_by w.number ≡ message_by n e r
  refused-by zero q z = absurd (z (ap (λ v. v.number) q))
  refused-by (suc n) q z = ap (λ v. refused_by v.number) q

  pub wrote : {w : Written} {after : List ℕ} (rest : List ℕ) → w ≡ answer_as e r room → after ≡ room_as e r room → w.number ≡ 0
      → Says (after ++ rest) w.length (message_or e r (length room))
  unfolding answer_as room_as message_or
  wrote rest q a z = wrote_by (refusal r (length room)) rest q a z

  pub refused : {w : Written} → w ≡ answer_as e r room → (w.number ≡ 0 → ⊥) → refused_by w.number ≡ message_or e r (length room)
  unfolding answer_as message_or
  refused q z = refused-by (refusal r (length room)) q z
