-- `script::explanation_lines::put_differences` meets its contract: its pieces, one after the other.
use mathlib.Core.Path.{ap}
use mathlib.Core.List.{List, flatten}
use Prim.Native.Nat.{ℕ}
use native.Mathlib.Omega.{arith}
use borrow.Author.Rules.{rules}
use lib.IntN.{ℤ}
use mir.Syntax.{w64}
use mir.Val.{SFits, to_z, of_z}
use mir.Facts.{to_z-of_z}
use Rattle.text.specs.Writes.{Writes}
use Rattle.text.specs.declared.writing.Writer.{Writer}
use Rattle.text.proofs.Written.{piece, last, retold}
use Rattle.text.proofs.Pieces.{has_room}
use Rattle.script.specs.Lines.{integer, difference_words}
use Rattle.script.proofs.explanation_lines.put_differences.Goals as goal

-- a machine's whole under its own name
own : {u w : Writer} {z : ℤ} → SFits w64 z → Writes u (flatten (integer (to_z w64 (of_z w64 z)))) w → Writes u (flatten (integer z)) w
own f w = retold (ap (λ x. flatten (integer x)) (to_z-of_z {w = w64} f)) w

pub put_natural-requires : goal.put_natural-requires
unfolding difference_words
put_natural-requires c =
    rw c.flag_of.ensures (has_room (omega (arith, c.requires.fits)))

pub put_integer-requires : goal.put_integer-requires
unfolding difference_words
put_integer-requires c =
    let fx : SFits w64 c.args.d.x = search rules in
    let n = rw c.flag_of.ensures at c.put_natural.ensures in
    rw (to_z-of_z {w = w64} fx) (has_room (omega (arith, c.requires.fits, n.wrote.ends, n.wrote.long)))

pub put_integer-requires-2 : goal.put_integer-requires-2
unfolding difference_words
put_integer-requires-2 c =
    let fx : SFits w64 c.args.d.x = search rules in
    let fy : SFits w64 c.args.d.y = search rules in
    let n = rw c.flag_of.ensures at c.put_natural.ensures in
    let x = own fx c.put_integer.ensures in
    rw (to_z-of_z {w = w64} fy) (has_room (omega (arith, c.requires.fits, n.wrote.ends, n.wrote.long, x.wrote.ends, x.wrote.long)))

pub put_integer-requires-3 : goal.put_integer-requires-3
unfolding difference_words
put_integer-requires-3 c =
    let fx : SFits w64 c.args.d.x = search rules in
    let fy : SFits w64 c.args.d.y = search rules in
    let fz : SFits w64 c.args.d.z = search rules in
    let n = rw c.flag_of.ensures at c.put_natural.ensures in
    let x = own fx c.put_integer.ensures in
    let y = own fy c.put_integer-2.ensures in
    rw (to_z-of_z {w = w64} fz) (has_room (omega (arith, c.requires.fits, n.wrote.ends, n.wrote.long, x.wrote.ends, x.wrote.long, y.wrote.ends, y.wrote.long)))

pub returns : goal.returns
unfolding difference_words
returns c =
    let fx : SFits w64 c.args.d.x = search rules in
    let fy : SFits w64 c.args.d.y = search rules in
    let fz : SFits w64 c.args.d.z = search rules in
    let n = rw c.flag_of.ensures at c.put_natural.ensures in
    let x = own fx c.put_integer.ensures in
    let y = own fy c.put_integer-2.ensures in
    piece _ n (piece _ x (piece _ y (last (own fz c.put_integer-3.ensures))))
