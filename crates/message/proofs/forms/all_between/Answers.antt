-- `message::forms::all_between` meets its contract.
use Rattle.std.proofs.Common.{ℕ, ◌≡◌, ◌∙◌, refl, ap, leb, List, [], ◌∷◌, rules, tests}
use Rattle.std.specs.List.{list_all}
use Rattle.std.proofs.lemmas.Iterator.{YieldsList-from_slice}
use Rattle.std.proofs.lemmas.Iterator.Search.{all_from_yields_List}
use Rattle.integers.specs.Tests.{◌and◌}
use Rattle.message.specs.Form.{all_between}
use Rattle.message.proofs.forms.all_between.Goals as goal

same : (low high : ℕ) (s : List ℕ) → list_all (λ b. leb low b and leb b high) s ≡ all_between low high s
unfolding all_between
same low high [] = refl
same low high (b ∷ s) = ap (λ t. (leb low b and leb b high) and t) (same low high s)

pub returns : goal.returns
returns c =
    let a = c.args in
    all_from_yields_List (λ b. leb a.low b and leb b a.high) _ _ _ c.all.ensures.ran (YieldsList-from_slice a.s.now cc) (λ x b q k. search (rules, tests))
    ∙ same a.low a.high a.s.now
