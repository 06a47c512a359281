-- `image::saving::read` meets its contract.
use mathlib.Core.Path.{◌≡◌, sym, ◌∙◌, ap}
use mathlib.Core.Bool.{true, false}
use lib.ListN.{length}
use Rattle.integers.specs.Tests.{failed, passed}
use Rattle.image.specs.Bytes.{same_bytes}
use Rattle.image.proofs.WordLaws.{same_bytes-false}
use Rattle.image.specs.Layout.{record_bytes}
use Rattle.image.proofs.Lengths.{length-record_bytes}
use Rattle.image.specs.Standing.{standing, image_of}
use Rattle.image.specs.Reading.{session_in, held_in, is_image, read_of}
use Rattle.std.proofs.lemmas.Bool.{not_from_false, not_from_true}
use Rattle.image.proofs.saving.read.Goals as goal

pub returns-then-bytes-ne656 : goal.returns-then-bytes-ne656
unfolding read_of is_image image_of
returns-then-bytes-ne656 c =
    let bytes = c.args.bytes.now in
    let held = standing (session_in bytes) in
    rw (same_bytes-false bytes (record_bytes held) (λ e. c.if-bytes-ne656.true (ap length e ∙ length-record_bytes held))) c.no_image.ensures

pub returns-then-not-is_record : goal.returns-then-not-is_record
unfolding read_of is_image image_of
returns-then-not-is_record c =
    let bytes = c.args.bytes.now in
    let e : same_bytes bytes (record_bytes (standing (session_in bytes))) ≡ false =
    sym (ap (λ s. same_bytes bytes (record_bytes (standing s))) c.session_in.ensures)
    ∙ sym (ap (λ s. same_bytes bytes (record_bytes s)) c.standing-session.ensures)
    ∙ failed c.is_record.ensures (not_from_false _ c.if-not-is_record.true) in
    rw e c.no_image-then-not-is_record.ensures

pub returns : goal.returns
unfolding read_of is_image image_of held_in
returns c =
    let bytes = c.args.bytes.now in
    let held = c.standing-session.ensures ∙ ap standing c.session_in.ensures in
    let e : same_bytes bytes (record_bytes (standing (session_in bytes))) ≡ true =
    sym (ap (λ s. same_bytes bytes (record_bytes s)) held)
    ∙ passed c.is_record.ensures (not_from_true _ c.if-not-is_record.false) in
    rw e (λ i. record { number = 0; session = held i })
