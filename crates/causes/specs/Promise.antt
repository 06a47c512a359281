-- That the contract of `reasons::explain` is this, nothing less and nothing more: it requires nothing, and ensures that the explanation is that of the
-- definitions. Definitions only.
use Rattle.std.specs.Prelude.{◌≡◌}
use seplogic.Ra.Ura.{Ura}
use base.Logic.{SProp, emp}
use prog.Memory.{Memory}
use prog.Routine.{Routine}
use types.Logic.{Logic}
use contract.Monad.{Fun, fact}
use contract.Lifetimes.{Lfts}
use denote.Triple.Entry.{Args, Res}
use denote.Triple.Clauses.{AtExit}
use Rattle.reasons.specs.contracts.explain as on_explain
use Rattle.reasons.specs.Explanations.{explain_of}

-- in every model of the logic
module _ {M : Type 1} {𝓤 : Ura M} (𝓛 : Logic 𝓤) (mem : Memory → SProp 𝓤) (run : Routine → Fun 𝓤) where
  pub record Promise : Type 2 where
    pub requires : (κs : Lfts (on_explain.ended).signature.lifetimes) (a : Args (on_explain.ended).signature κs) (g : (on_explain.clauses 𝓛 mem run κs a).ghost) →
        (on_explain.clauses 𝓛 mem run κs a).requires g ≡ emp 𝓤
    pub ensures : (κs : Lfts (on_explain.ended).signature.lifetimes) (a : Args (on_explain.ended).signature κs) (g : (on_explain.clauses 𝓛 mem run κs a).ghost)
        (r : Res (on_explain.ended).signature κs) (left : AtExit on_explain.ended κs) →
        (on_explain.clauses 𝓛 mem run κs a).ensures g r left ≡ fact 𝓤 (r ≡ explain_of a.0 a.1.0)
