-- `script::lines::put_axis` meets its contract: its pieces, one after the other.
use native.Mathlib.Omega.{arith}
use borrow.Author.Rules.{rules}
use mathlib.Core.Path.{◌≡◌, sym, ap}
use mathlib.Core.List.{List}
use lib.IntN.{ℤ}
use lib.ListN.{length, take}
use lib.Seq.{take_all}
use Rattle.text.specs.Numbers.{numbers}
use Rattle.text.proofs.Written.{piece, last, retold}
use Rattle.text.proofs.Pieces.{has_room}
use Rattle.script.specs.Lines.{axis_words}
use Rattle.script.proofs.lines.put_axis.Goals as goal

-- the samples of an axis are nine
nine : (row : List ℤ) → length row ≡ 9 → take 9 row ≡ row
nine row e = take_all 9 row (omega arith)

pub put_exact-requires : goal.put_exact-requires
unfolding axis_words
put_exact-requires c = has_room (omega arith)

pub put_exact-requires-2 : goal.put_exact-requires-2
unfolding axis_words
put_exact-requires-2 c = has_room (omega arith)

pub put_motion-requires : goal.put_motion-requires
unfolding axis_words
put_motion-requires c = has_room (omega arith)

pub put_numbers-requires : goal.put_numbers-requires
unfolding axis_words
put_numbers-requires c = omega (arith, ap (λ r. length (numbers r)) (nine c.args.a.samples (search rules)))

pub put_motion-requires-2 : goal.put_motion-requires-2
unfolding axis_words
put_motion-requires-2 c = has_room (omega (arith, ap (λ r. length (numbers r)) (nine c.args.a.samples (search rules))))

pub returns : goal.returns
unfolding axis_words
returns c = piece _ c.put_exact.ensures (piece _ c.put_exact-2.ensures (piece _ c.put_motion.ensures (piece _ (retold (ap numbers (sym (nine c.args.a.samples (search rules)))) c.put_numbers.ensures) (last c.put_motion-2.ensures))))
