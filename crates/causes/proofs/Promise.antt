-- The contract of `reasons::explain` is the promise, by its text.
use mathlib.Core.Path.{refl}
use seplogic.Ra.Ura.{Ura}
use base.Logic.{SProp}
use prog.Memory.{Memory}
use prog.Routine.{Routine}
use types.Logic.{Logic}
use contract.Monad.{Fun}
use Rattle.causes.specs.Promise.{Promise}

pub promise : {M : Type 1} {𝓤 : Ura M} (𝓛 : Logic 𝓤) (mem : Memory → SProp 𝓤) (run : Routine → Fun 𝓤) → Promise 𝓛 mem run
promise 𝓛 mem run = record { requires = λ κs a g. refl; ensures = λ κs a g r left. refl }
