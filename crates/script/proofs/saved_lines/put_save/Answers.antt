-- `script::saved_lines::put_save` meets its contract: the room is just enough for the image, and the pieces stand one after the other.
use mathlib.Core.Path.{◌∙◌, ap}
use native.Mathlib.Omega.{arith}
use lib.ListN.{length}
use Rattle.text.specs.Numbers.{ascii}
use Rattle.text.proofs.Written.{piece, last, retold}
use Rattle.script.specs.Bytes.{digits_of}
use Rattle.script.specs.Lines.{save_line}
use Rattle.script.proofs.Saved.{whole-image}
use Rattle.script.proofs.saved_lines.put_save.Goals as goal

pub put_word-requires : goal.put_word-requires
unfolding save_line ascii
put_word-requires c = omega (arith, c.requires.fits)

pub put_bytes-requires : goal.put_bytes-requires
unfolding save_line ascii
put_bytes-requires c =
    let w = c.put_word.ensures.wrote in
    let image = c.save.ensures.1 ∙ whole-image c.args.s in
    omega (arith, c.requires.fits, w.ends, w.long, ap (λ bs. length (digits_of bs)) image)

pub put-requires : goal.put-requires
unfolding save_line ascii
put-requires c =
    let w = c.put_word.ensures.wrote in
    let b = c.put_bytes.ensures.wrote in
    let image = c.save.ensures.1 ∙ whole-image c.args.s in
    omega (arith, c.requires.fits, w.ends, w.long, b.ends, b.long, ap (λ bs. length (digits_of bs)) image)

pub returns : goal.returns
unfolding save_line ascii
returns c =
    let image = c.save.ensures.1 ∙ whole-image c.args.s in
    piece _ c.put_word.ensures (piece _ (retold (ap digits_of image) c.put_bytes.ensures) (last c.put.ensures))
