-- The contracts of the entry points are the promises, each by its text.
use mathlib.Core.Path.{refl}
use seplogic.Ra.Ura.{Ura}
use base.Logic.{SProp}
use prog.Memory.{Memory}
use prog.Routine.{Routine}
use types.Logic.{Logic}
use contract.Monad.{Fun}
use Rattle.promised.specs.Allowed.{OpenSays, PredictSays, CorrectSays, WithdrawSays, StartSays, RefineSays, RunSays, Contracts}

module _ {M : Type 1} {𝓤 : Ura M} (𝓛 : Logic 𝓤) (mem : Memory → SProp 𝓤) (run : Routine → Fun 𝓤) where
  open-says : OpenSays 𝓛 mem run
  open-says = record { requires = λ κs a g. refl; ensures = λ κs a g r left. refl }

  predict-says : PredictSays 𝓛 mem run
  predict-says = record { requires = λ κs a g. refl; ensures = λ κs a g r left. refl }

  correct-says : CorrectSays 𝓛 mem run
  correct-says = record { requires = λ κs a g. refl; ensures = λ κs a g r left. refl }

  withdraw-says : WithdrawSays 𝓛 mem run
  withdraw-says = record { requires = λ κs a g. refl; ensures = λ κs a g r left. refl }

  start-says : StartSays 𝓛 mem run
  start-says = record { requires = λ κs a g. refl; ensures = λ κs a g r left. refl }

  refine-says : RefineSays 𝓛 mem run
  refine-says = record { requires = λ κs a g. refl; ensures = λ κs a g r left. refl }

  run-says : RunSays 𝓛 mem run
  run-says = record { requires = λ κs a g. refl; ensures = λ κs a g r left. refl }

  pub contracts : Contracts 𝓛 mem run
  contracts = record { opens = open-says; predicts = predict-says; corrects = correct-says; withdraws = withdraw-says; starts = start-says; refines = refine-says; runs = run-says }
