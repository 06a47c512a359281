-- `script::lines::put_no_call` meets its contract: its pieces, one after the other.
use native.Mathlib.Omega.{arith}
use borrow.Author.Rules.{rules}
use Rattle.text.specs.Numbers.{ascii}
use Rattle.text.proofs.Written.{piece, last}
use Rattle.script.specs.Lines.{no_call_line}
use Rattle.script.proofs.lines.put_no_call.Goals as goal

pub put_word-requires : goal.put_word-requires
unfolding no_call_line ascii
put_word-requires c = omega arith

pub put_decimal-requires : goal.put_decimal-requires
unfolding no_call_line ascii
put_decimal-requires c = omega arith

pub put_word-requires-2 : goal.put_word-requires-2
unfolding no_call_line ascii
put_word-requires-2 c = omega arith

pub returns : goal.returns
unfolding no_call_line ascii
returns c = piece _ c.put_word.ensures (piece _ c.put_decimal.ensures (last c.put_word-2.ensures))
