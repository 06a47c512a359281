-- `script::lines::put_settings` meets its contract: its pieces, one after the other.
use mathlib.Core.Path.{ap}
use mathlib.Core.List.{flatten}
use native.Mathlib.Omega.{arith}
use borrow.Author.Rules.{rules}
use lib.ListN.{length}
use Rattle.text.proofs.Written.{piece, last, retold}
use Rattle.text.proofs.Pieces.{has_room}
use Rattle.script.specs.Lines.{natural, settings_words}
use Rattle.script.proofs.lines.put_settings.Goals as goal

pub number_of-requires : goal.number_of-requires
unfolding settings_words
number_of-requires c = search rules

pub put_natural-requires : goal.put_natural-requires
unfolding settings_words
put_natural-requires c = has_room (omega (arith, ap (λ n. length (flatten (natural n))) c.number_of.ensures))

pub put_natural-requires-2 : goal.put_natural-requires-2
unfolding settings_words
put_natural-requires-2 c = has_room (omega (arith, ap (λ n. length (flatten (natural n))) c.number_of.ensures))

pub put_two-requires : goal.put_two-requires
unfolding settings_words
put_two-requires c = has_room (omega (arith, ap (λ n. length (flatten (natural n))) c.number_of.ensures))

pub put_natural-requires-3 : goal.put_natural-requires-3
unfolding settings_words
put_natural-requires-3 c = has_room (omega (arith, ap (λ n. length (flatten (natural n))) c.number_of.ensures))

pub returns : goal.returns
unfolding settings_words
returns c =
    let state = retold (ap (λ n. flatten (natural n)) c.number_of.ensures) c.put_natural.ensures in
    piece _ state (piece _ c.put_natural-2.ensures (piece _ c.put_two.ensures (last c.put_natural-3.ensures)))
