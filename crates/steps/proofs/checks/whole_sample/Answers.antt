-- `steps::checks::whole_sample` meets its contract: the ticks, or the number of the worst fault.
use mathlib.Core.Path.{◌≡◌, subst, ◌∙◌}
use Rattle.std.specs.Prelude.{refl, Option, Some, None, Result, Ok, MatchResult, IsErrAnd, ℕ}
use Rattle.std.proofs.lemmas.Result.{err_from_is_err_and}
use Rattle.rules.specs.Rules.{first_of}
use Rattle.ticks.specs.declared.Fault.{Fault}
use Rattle.ticks.specs.declared.FaultySample.{FaultySample}
use Rattle.ticks.specs.declared.Sample.{Sample}
use Rattle.ticks.specs.declared.WholeSample.{WholeSample}
use Rattle.ticks.specs.Samples.{axes_of, whole_of, fault_in, sample_with}
use Rattle.steps.specs.Answers.{unrefused}
use Rattle.steps.specs.Refusals.{fault_number, sample_rules}
use Rattle.steps.proofs.Results.{refuses, passes}
use Rattle.steps.proofs.Samples.{fault-numbered, sample-number, no-number}
use Rattle.steps.proofs.checks.whole_sample.Goals as goal

abbrev Maps : Result WholeSample FaultySample → Result WholeSample ℕ → Type 0
Maps r y = MatchResult r (λ x. y ≡ Ok x) (λ f. IsErrAnd y (λ n. n ≡ fault_number (Some f.fault)))

module _ (a : Sample) (y : Result WholeSample ℕ) where
  by_fault : (k : Option Fault) → fault_in (axes_of a) ≡ k → Maps (sample_with k (whole_of a)) y → y ≡ unrefused (first_of (sample_rules (axes_of a))) (whole_of a)
  by_fault None e h = h ∙ passes _ refl (no-number (axes_of a) e)
  by_fault (Some f) e h = let p = err_from_is_err_and y h in p.1 ∙ refuses _ p.2 (fault-numbered f) (sample-number (axes_of a) f e)

pub returns : goal.returns
returns c = by_fault c.args.a c.map_err.result (fault_in (axes_of c.args.a)) refl (subst (λ r. Maps r c.map_err.result) c.round_sample.ensures c.map_err.ensures.cases)
