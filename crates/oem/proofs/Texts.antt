-- A text that was read, and what is written for it; and the line of an edition before it.
use Rattle.std.proofs.Common.{◌≡◌, ◌∙◌, sym, ap, subst, ℕ, ◌/◌, ◌≤◌, List, length, take, drop, length-append, arith}
use Rattle.std.specs.Prelude.{Option, Result, Ok, IfSome, ℤ}
use Rattle.std.proofs.Math.Seq.{take_at}
use Rattle.std.proofs.lemmas.Result.{IfOk-at_ok}
use Rattle.message.specs.declared.Edition.{Edition}
use Rattle.message_request.specs.declared.Asked.{Asked}
use Rattle.message_request.specs.declared.NotAsked.{NotAsked}
use Rattle.message_request.specs.declared.Version.{Version}
use Rattle.message_request.specs.Requests.{version_line, kept_in, asked_in, numbers_after}
use Rattle.message_request.specs.Within.{Within, AllWithin}
use Rattle.message_request.proofs.Within.{version-within, asked-within}
use Rattle.oem.specs.Answers.{edition_of, request_of, room_for, message_or, answer_by, answer_from, by_edition, answer_for}

module _ (text : List ℕ) (from : Result ℕ ℕ) (before : List ℤ) {after : List ℤ} (a : after ≡ numbers_after text from before) where
  abbrev kept : List ℤ
  kept = (kept_in text from (length before)).numbers

  module _ (asked : Asked) (e : Ok asked ≡ asked_in text from (length before)) where
    told : (AllWithin text asked.names) × (asked.count ≡ length kept)
    told = IfOk-at_ok (λ (asked : Asked). (AllWithin text asked.names) × (asked.count ≡ length kept)) (sym e) (asked-within text from (length before))

    pub parts : AllWithin text asked.names
    parts = told.0

    pub count-within : asked.count ≤ length after
    unfolding numbers_after
    count-within = omega (arith, told.1, ap length a, length-append kept (drop (length kept) before))

    pub points-are : take asked.count after ≡ kept
    unfolding numbers_after
    points-are = ap (take asked.count) a ∙ take_at kept (drop (length kept) before) asked.count (sym told.1)

  module _ (edition : Edition) (held : ℕ) where
    abbrev written : List ℤ → Asked → List ℕ
    written points asked = message_or edition (request_of text asked.names asked.settings points) (room_for asked.settings held)

    pub by-read : {read : Result Asked NotAsked} → read ≡ asked_in text from (length before)
        → answer_by read (length before / 12) (written kept) ≡ answer_from edition text from (length before) held
    unfolding answer_from
    by-read e = ap (λ read. answer_by read (length before / 12) (written kept)) e

    pub by-request : (asked : Asked) → Ok asked ≡ asked_in text from (length before)
        → written (take asked.count after) asked ≡ answer_from edition text from (length before) held
    by-request asked e = ap (λ points. written points asked) (points-are asked e) ∙ by-read e

-- ---- the edition

module _ (text : List ℕ) {version : Version} (v : version ≡ version_line text) where
  pub version-part : IfSome version.value (Within text)
  version-part = subst (λ (v : Version). IfSome v.value (Within text)) (sym v) (version-within text)

  pub by-version : (room held : ℕ) {e : Option Edition} → e ≡ edition_of text version.value
      → by_edition e (λ e. answer_from e text version.next room held) ≡ answer_for text room held
  unfolding answer_for
  by-version room held h =
      ap (λ e. by_edition e (λ e. answer_from e text version.next room held)) h
      ∙ ap (λ (v : Version). by_edition (edition_of text v.value) (λ e. answer_from e text v.next room held)) v
