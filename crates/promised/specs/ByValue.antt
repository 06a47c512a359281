-- The same of the calls by value in `stepper::owned`: each returns just the record and the answer that the definitions give. Definitions only.
use Rattle.std.specs.Prelude.{◌≡◌}
use seplogic.Ra.Ura.{Ura}
use base.Logic.{SProp}
use prog.Memory.{Memory}
use prog.Routine.{Routine}
use types.Logic.{Logic}
use contract.Monad.{Fun}
use Rattle.session.specs.Requests.{request}
use Rattle.steps.specs.Steps.{open_of, predict_of, correct_of, withdraw_of}
use Rattle.epoch_steps.specs.Steps.{start_of, refine_of}
use Rattle.running.specs.Runs.{run_of}
use Rattle.stepper.specs.contracts.owned.open as on_open
use Rattle.stepper.specs.contracts.owned.predict as on_predict
use Rattle.stepper.specs.contracts.owned.correct as on_correct
use Rattle.stepper.specs.contracts.owned.withdraw as on_withdraw
use Rattle.stepper.specs.contracts.owned.start as on_start
use Rattle.stepper.specs.contracts.owned.refine as on_refine
use Rattle.stepper.specs.contracts.owned.run as on_run
use Rattle.promised.specs.Allowed.{Says}

module _ {M : Type 1} {𝓤 : Ura M} (𝓛 : Logic 𝓤) (mem : Memory → SProp 𝓤) (run : Routine → Fun 𝓤) where
  pub record ByValue : Type 2 where
    pub opens : Says 𝓤 on_open.ended (on_open.clauses 𝓛 mem run)
        (λ κs (s, (points, (tolerances, (limit, (point, (samples, _)))))) r left. r ≡ open_of (request points tolerances limit point samples.now))
    pub predicts : Says 𝓤 on_predict.ended (on_predict.clauses 𝓛 mem run) (λ κs (s, _) r left. r ≡ predict_of s)
    pub corrects : Says 𝓤 on_correct.ended (on_correct.clauses 𝓛 mem run) (λ κs (s, (sample, _)) r left. r ≡ correct_of s sample)
    pub withdraws : Says 𝓤 on_withdraw.ended (on_withdraw.clauses 𝓛 mem run) (λ κs (s, _) r left. r ≡ withdraw_of s)
    pub starts : Says 𝓤 on_start.ended (on_start.clauses 𝓛 mem run)
        (λ κs (s, (points, (tolerances, (limit, (epoch, (samples, _)))))) r left. r ≡ start_of (request points tolerances limit epoch samples.now))
    pub refines : Says 𝓤 on_refine.ended (on_refine.clauses 𝓛 mem run) (λ κs (s, (samples, _)) r left. r ≡ refine_of s samples.now)
    pub runs : Says 𝓤 on_run.ended (on_run.clauses 𝓛 mem run) (λ κs (s, (samples, (wanted, _))) r left. r ≡ run_of s samples.now wanted)
