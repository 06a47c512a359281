-- `reasons::places::first_place` meets its contract: the first test that holds, or none.
use mathlib.Core.Path.{◌≡◌, ap, ◌∙◌}
use mathlib.Core.Bool.{Bool}
use mathlib.Core.List.{List}
use Prim.Native.Nat.{ℕ}
use native.Mathlib.Omega.{arith}
use Rattle.std.specs.Prelude.{Option, Some, None}
use Rattle.std.specs.List.{position}
use Rattle.std.proofs.Common.{rules, tests}
use Rattle.std.proofs.lemmas.Iterator.{YieldsList-from_slice}
use Rattle.std.proofs.lemmas.Iterator.Search.{position_from_yields_List}
use Rattle.reasons.specs.Reasons.{placed, named, first}
use Rattle.reasons.proofs.First.{placed_at, first-position}
use Rattle.reasons.proofs.places.first_place.Goals as goal

found : (made : List Bool) (r : Option ℕ) → r ≡ position (λ t. t) made → placed_at 1 r ≡ first (λ t. t) named made
found made r e = ap (placed_at 1) e ∙ first-position made

pub returns-in-Some : goal.returns-in-Some
returns-in-Some c =
    c.place.ensures
    ∙ ap placed (omega arith)
    ∙ found c.args.tests.now (Some c.in-Some.i)
    (position_from_yields_List (λ t. t) _ _ (Some c.in-Some.i) c.in-Some.ensures.ran (YieldsList-from_slice c.args.tests.now (cc)) (λ x b q k. search (rules, tests)))

pub returns-in-None : goal.returns-in-None
returns-in-None c =
    c.place-in-None.ensures
    ∙ found c.args.tests.now None
    (position_from_yields_List (λ t. t) _ _ None c.in-None.ensures.ran (YieldsList-from_slice c.args.tests.now (cc)) (λ x b q k. search (rules, tests)))
