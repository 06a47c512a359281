-- `sentences::decimals::shorten` meets its contract. The loop's invariant: what is left is written as all was.
use mathlib.Core.Path.{◌≡◌}
use Rattle.sentences.specs.Decimals.{shortened}
use Rattle.sentences.proofs.decimals.shorten.Given as goal

abbrev pub invariant-loop-count : goal.invariant-loop-count
invariant-loop-count l = shortened l.count l.number ≡ shortened 10 l.n

abbrev pub decreases-loop-count : goal.decreases-loop-count
decreases-loop-count l = l.count
