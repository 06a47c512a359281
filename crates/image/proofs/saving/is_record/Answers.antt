-- `image::saving::is_record` meets its contract: the record fills the room.
use Rattle.std.proofs.Common.{◌≡◌, ap, ◌∙◌, arith}
use Rattle.std.specs.Bool.{Decides, one_answer}
use Rattle.std.proofs.lemmas.Bool.Decides.{Decides-eqb}
use Rattle.std.proofs.lemmas.Slice.Eq.{slice_eq-Decides}
use Rattle.image.specs.Bytes.{same_bytes}
use Rattle.image.specs.Layout.{record_bytes}
use Rattle.image.proofs.Lengths.{length-record_words}
use Rattle.image.proofs.Puts.{put_all}
use Rattle.image.proofs.WordLaws.{same_bytes-true, same-same_bytes}
use Rattle.image.proofs.saving.is_record.Goals as goal

pub returns : goal.returns
unfolding record_bytes
returns c =
    let bytes = c.args.bytes.now in
    let room = c.as_slice.result.now in
    let same : Decides (same_bytes bytes room) (bytes ≡ room) = (same_bytes-true bytes room, λ e. same-same_bytes e) in
    one_answer _ _ (slice_eq-Decides Decides-eqb bytes room c.eq.result c.eq.ensures) same
    ∙ ap (same_bytes bytes) (c.as_slice.ensures ∙ put_all c.put_record.ensures (omega (arith, length-record_words c.args.s)))
