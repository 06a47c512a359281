-- `received::data::ends_at` meets its contract.
use mathlib.Core.List.{[], ◌∷◌}
use mathlib.Core.Path.{◌∙◌, ap}
use native.Mathlib.Omega.{arith}
use borrow.Author.Tests.{le-ltb}
use lib.ListN.{length, drop, length-drop}
use lib.Seq.{take_all}
use Prim.Native.Nat.{◌-◌}
use Rattle.text.specs.Numbers.{ascii}
use Rattle.calendar.specs.Text.{same_text}
use Rattle.received.proofs.Fields.{ends_before}
use Rattle.received.proofs.data.ends_at.Goals as goal

pub returns-then-at-line : goal.returns-then-at-line
unfolding ascii
returns-then-at-line c =
    let a = c.args in
    c.same.ensures
    ∙ ap (λ s. same_text s (10 ∷ [])) (take_all (length a.line.now - a.at) (drop a.at a.line.now) (omega (arith, length-drop a.at a.line.now)))

pub returns-else-at-line : goal.returns-else-at-line
returns-else-at-line c = le-ltb _ _ c.if-at-line.false ∙ ends_before c.args.line.now c.args.at c.if-at-line.false
