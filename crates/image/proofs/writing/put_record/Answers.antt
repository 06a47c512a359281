-- `image::writing::put_record` meets its contract: the table of contents and the four bodies.
use native.Mathlib.Omega.{arith}
use Rattle.image.specs.Layout.{record_words}
use Rattle.image.proofs.Lengths.{length-contents, length-settings_words, length-sums_words, length-places_words}
use Rattle.image.proofs.Puts.{put_then}
use Rattle.image.proofs.writing.put_record.Goals as goal

pub returns : goal.returns
unfolding record_words
returns c =
    let s = c.args.s in
    put_then c.put_contents.ensures (omega (arith, length-contents))
    (put_then c.put_settings.ensures (omega (arith, length-settings_words s))
    (put_then c.put_sums.ensures (omega (arith, length-sums_words s))
    (put_then c.put_samples.ensures (omega (arith, length-places_words 9 s))
    c.put_estimate.ensures)))
