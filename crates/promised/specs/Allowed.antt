-- That the contracts in `stepper` are these promises, nothing less and nothing more: each requires nothing, and ensures just that. Definitions only.
use Rattle.std.specs.Prelude.{◌≡◌}
use seplogic.Ra.Ura.{Ura}
use base.Logic.{SProp, emp}
use prog.Memory.{Memory}
use prog.Routine.{Routine}
use types.Logic.{Logic}
use contract.Monad.{Fun, fact}
use contract.Lifetimes.{Lfts}
use denote.Triple.Entry.{Args, Res}
use denote.Triple.Clauses.{Ended, AtExit, Clauses}
use Rattle.session.specs.Requests.{request}
use Rattle.stepper.specs.contracts.open as on_open
use Rattle.stepper.specs.contracts.predict as on_predict
use Rattle.stepper.specs.contracts.correct as on_correct
use Rattle.stepper.specs.contracts.withdraw as on_withdraw
use Rattle.stepper.specs.contracts.start as on_start
use Rattle.stepper.specs.contracts.refine as on_refine
use Rattle.stepper.specs.contracts.run as on_run
use Rattle.promised.specs.Promises.{OpenAllows, PredictAllows, CorrectAllows, WithdrawAllows, StartAllows, RefineAllows, RunAllows}

-- a contract requires nothing, and ensures P of what was passed, what is returned and what is left: no more and no less
pub record Says {M : Type 1} (𝓤 : Ura M) (T : Ended) (c : Clauses 𝓤 T)
    (P : (κs : Lfts T.signature.lifetimes) → Args T.signature κs → Res T.signature κs → AtExit T κs → Type 0) : Type 2 where
  pub requires : (κs : Lfts T.signature.lifetimes) (a : Args T.signature κs) (g : (c κs a).ghost) → (c κs a).requires g ≡ emp 𝓤
  pub ensures : (κs : Lfts T.signature.lifetimes) (a : Args T.signature κs) (g : (c κs a).ghost) (r : Res T.signature κs) (left : AtExit T κs) →
      (c κs a).ensures g r left ≡ fact 𝓤 (P κs a r left)

-- in every model of the logic. What was passed: the lent record, and then the arguments in their order; `now` is what a reference refers to
module _ {M : Type 1} {𝓤 : Ura M} (𝓛 : Logic 𝓤) (mem : Memory → SProp 𝓤) (run : Routine → Fun 𝓤) where
  abbrev pub OpenSays : Type 2
  OpenSays =
      Says 𝓤 on_open.ended (on_open.clauses 𝓛 mem run)
      (λ κs (s, (points, (tolerances, (limit, (point, (samples, _)))))) r (left, _). OpenAllows (request points tolerances limit point samples.now) left.now r)

  abbrev pub PredictSays : Type 2
  PredictSays = Says 𝓤 on_predict.ended (on_predict.clauses 𝓛 mem run) (λ κs (s, _) r (left, _). PredictAllows s.now left.now r)

  abbrev pub CorrectSays : Type 2
  CorrectSays = Says 𝓤 on_correct.ended (on_correct.clauses 𝓛 mem run) (λ κs (s, (sample, _)) r (left, _). CorrectAllows s.now sample left.now r)

  abbrev pub WithdrawSays : Type 2
  WithdrawSays = Says 𝓤 on_withdraw.ended (on_withdraw.clauses 𝓛 mem run) (λ κs (s, _) r (left, _). WithdrawAllows s.now left.now r)

  abbrev pub StartSays : Type 2
  StartSays =
      Says 𝓤 on_start.ended (on_start.clauses 𝓛 mem run)
      (λ κs (s, (points, (tolerances, (limit, (epoch, (samples, _)))))) r (left, _). StartAllows (request points tolerances limit epoch samples.now) left.now r)

  abbrev pub RefineSays : Type 2
  RefineSays = Says 𝓤 on_refine.ended (on_refine.clauses 𝓛 mem run) (λ κs (s, (samples, _)) r (left, _). RefineAllows s.now samples.now left.now r)

  abbrev pub RunSays : Type 2
  RunSays = Says 𝓤 on_run.ended (on_run.clauses 𝓛 mem run) (λ κs (s, (samples, (wanted, _))) r (left, _). RunAllows s.now samples.now wanted left.now r)

  pub record Contracts : Type 2 where
    pub opens : OpenSays
    pub predicts : PredictSays
    pub corrects : CorrectSays
    pub withdraws : WithdrawSays
    pub starts : StartSays
    pub refines : RefineSays
    pub runs : RunSays
