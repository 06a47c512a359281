-- The contracts of the calls by value say just that, each by its text.
use mathlib.Core.Path.{refl}
use seplogic.Ra.Ura.{Ura}
use base.Logic.{SProp}
use prog.Memory.{Memory}
use prog.Routine.{Routine}
use types.Logic.{Logic}
use contract.Monad.{Fun}
use Rattle.promised.specs.ByValue.{ByValue}

pub by_value : {M : Type 1} {𝓤 : Ura M} (𝓛 : Logic 𝓤) (mem : Memory → SProp 𝓤) (run : Routine → Fun 𝓤) → ByValue 𝓛 mem run
by_value 𝓛 mem run =
    record {
      opens = record { requires = λ κs a g. refl; ensures = λ κs a g r left. refl };
      predicts = record { requires = λ κs a g. refl; ensures = λ κs a g r left. refl };
      corrects = record { requires = λ κs a g. refl; ensures = λ κs a g r left. refl };
      withdraws = record { requires = λ κs a g. refl; ensures = λ κs a g r left. refl };
      starts = record { requires = λ κs a g. refl; ensures = λ κs a g r left. refl };
      refines = record { requires = λ κs a g. refl; ensures = λ κs a g r left. refl };
      runs = record { requires = λ κs a g. refl; ensures = λ κs a g r left. refl };
    }
