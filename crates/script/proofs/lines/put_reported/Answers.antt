-- `script::lines::put_reported` meets its contract: its pieces, one after the other.
use mathlib.Core.Path.{ap}
use native.Mathlib.Omega.{arith}
use borrow.Author.Rules.{rules}
use lib.Ieee.{binary64, to_bits}
use lib.ListN.{length}
use Rattle.text.specs.Numbers.{ascii, hex}
use Rattle.text.proofs.Written.{piece, last, retold}
use Rattle.text.proofs.Pieces.{has_room}
use Rattle.script.specs.Lines.{value}
use Rattle.script.proofs.Lengths.{length-hex}
use Rattle.script.proofs.lines.put_reported.Goals as goal

pub put_exact-requires : goal.put_exact-requires
unfolding value ascii
put_exact-requires c = has_room (omega arith)

pub put-requires : goal.put-requires
unfolding value ascii
put-requires c = omega arith

pub bits_of-requires : goal.bits_of-requires
unfolding value ascii
bits_of-requires c = search rules

pub put_hex-requires : goal.put_hex-requires
unfolding value ascii
put_hex-requires c = omega (arith, length-hex (to_bits binary64 c.args.r.report), ap (λ n. length (hex n)) c.bits_of.ensures)

pub returns : goal.returns
unfolding value ascii
returns c = piece _ c.put_exact.ensures (piece _ c.put.ensures (last (retold (ap hex c.bits_of.ensures) c.put_hex.ensures)))
