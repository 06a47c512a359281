-- `received::lines::past_line` meets its contract.
use mathlib.Core.Path.{◌≡◌, sym, ◌∙◌, ap}
use mathlib.Core.List.{List}
use Prim.Native.Nat.{ℕ, ◌-◌}
use native.Mathlib.Omega.{arith}
use lib.ListN.{length, take, drop, length-drop}
use lib.Seq.{take_all}
use Rattle.received.specs.Lines.{newline_in}
use Rattle.received.proofs.Newlines.{past_newline, past_text}
use Rattle.received.proofs.lines.past_line.Goals as goal

behind : (text : List ℕ) (at : ℕ) → take (length text - at) (drop at text) ≡ drop at text
behind text at = take_all (length text - at) (drop at text) (omega (arith, length-drop at text))

pub returns-in-Some-clause-value : goal.returns-in-Some-clause-value
returns-in-Some-clause-value c =
    let a = c.args in
    past_newline a.text.now a.at c.requires c.in-Some.i (sym c.in-Some.is ∙ c.newline_in.ensures ∙ ap newline_in (behind a.text.now a.at))

pub returns-in-None-clause-value : goal.returns-in-None-clause-value
returns-in-None-clause-value c =
    let a = c.args in
    past_text a.text.now a.at c.requires (sym c.in-None.is ∙ c.newline_in.ensures ∙ ap newline_in (behind a.text.now a.at))
