-- `sentences::decimals::shorten` meets its contract. The loop's invariant: what is left is written as all was.
use mathlib.Core.Path.{◌≡◌, ◌∙◌}
use native.Mathlib.Omega.{arith}
use Rattle.sentences.proofs.Digits.{all-zeros, kept, dropped}
use Rattle.sentences.proofs.decimals.shorten.Goals as goal

pub loop-count-preserved : goal.loop-count-preserved
loop-count-preserved c =
    let l = c.loop-count in
    dropped l.count l.number c.loop-count-test.true c.if-number-eq0.true ∙ l.invariant

pub returns-else-number-eq0 : goal.returns-else-number-eq0
returns-else-number-eq0 c = let l = c.loop-count in kept l.count l.number c.if-number-eq0.false ∙ l.invariant

pub returns-after-loop-count : goal.returns-after-loop-count
returns-after-loop-count c =
    let l = c.loop-count in
    let e : l.count ≡ 0 = omega (arith, c.loop-count-test.false) in
    all-zeros l.count l.number e ∙ l.invariant
