-- `calendar::reader::read_time` meets its contract.
use mathlib.Core.Path.{sym, ◌∙◌, ap}
use Rattle.std.specs.Prelude.{Some}
use Rattle.calendar.specs.Calendar.{is_real, seconds_of}
use Rattle.calendar.specs.Text.{time_text, same_text}
use Rattle.calendar.proofs.Moments.{tested_real}
use Rattle.calendar.proofs.Texts.{other_length, not-real, other_text, is-time}
use Rattle.calendar.proofs.reader.read_time.Goals as goal
use Rattle.calendar.proofs.reader.read_time.Goals.{else-is_real-via-then-is_real+else-same, else-is_real-via-else-is_real}

pub returns-then-s-ne19 : goal.returns-then-s-ne19
returns-then-s-ne19 c = sym (other_length _ c.if-s-ne19.true)

pub seconds_of-requires : goal.seconds_of-requires
seconds_of-requires c = tested_real _ (sym c.if-is_real.ensures)

pub returns-then-same : goal.returns-then-same
returns-then-same c =
    let m = c.moment_in-m.ensures in
    let real = ap is_real (sym m) ∙ sym c.if-is_real.ensures in
    let text = ap (same_text _) (ap time_text (sym m) ∙ sym c.time_bytes.ensures) ∙ sym c.if-same.ensures in
    ap Some (c.seconds_of.ensures ∙ ap seconds_of m) ∙ sym (is-time _ real text)

pub returns-else-is_real : goal.returns-else-is_real
returns-else-is_real c =
    let m = c.moment_in-m.ensures in
    elim c.else-is_real.branch [
      | else-is_real-via-then-is_real+else-same w ↦ sym (other_text _ (ap (same_text _) (ap time_text (sym m) ∙ sym w.time_bytes.ensures) ∙ sym w.if-same.ensures))
      | else-is_real-via-else-is_real w ↦ sym (not-real _ (ap is_real (sym m) ∙ sym w.if-is_real.ensures))
    ]
