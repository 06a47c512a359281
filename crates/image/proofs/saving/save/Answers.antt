-- `image::saving::save` meets its contract.
use mathlib.Core.Path.{◌≡◌, refl, ◌∙◌, ap}
use mathlib.Core.List.{◌++◌}
use Prim.Native.Nat.{◌*◌}
use native.Mathlib.Omega.{arith}
use borrow.Author.Tests.{lt-ltb, le-ltb}
use lib.ListN.{length, drop}
use Rattle.image.specs.Bytes.{in_bytes}
use Rattle.image.specs.Layout.{record_words, record_bytes}
use Rattle.image.proofs.Lengths.{length-record_words}
use Rattle.image.specs.Standing.{standing, image_of}
use Rattle.image.specs.Reading.{too_small}
use Rattle.image.proofs.Puts.{put_front}
use Rattle.image.proofs.saving.save.Goals as goal

pub returns-then-room-lt656 : goal.returns-then-room-lt656
unfolding too_small
returns-then-room-lt656 c = rw (lt-ltb (length c.args.room.now) 656 c.if-room-lt656.true) (refl, refl)

pub returns : goal.returns
unfolding too_small image_of record_bytes
returns c =
    let s = c.args in
    let room = s.room.now in
    let p = put_front c.put_record.ensures in
    let e = c.standing.ensures in
    let n : 8 * length (record_words (standing s.s)) ≡ 656 = omega (arith, length-record_words (standing s.s)) in
    rw (le-ltb (length room) 656 (omega arith))
    (refl, p ∙ ap (λ r. in_bytes (record_words r) ++ drop (8 * length (record_words r)) room) e ∙ ap (λ k. in_bytes (record_words (standing s.s)) ++ drop k room) n)
