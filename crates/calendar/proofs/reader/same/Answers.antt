-- `calendar::reader::same` meets its contract.
use mathlib.Core.Path.{◌≡◌, refl, ap, ◌∙◌}
use mathlib.Core.List.{List, [], ◌∷◌}
use Prim.Native.Nat.{ℕ}
use lib.Dec.{eqb}
use lib.Pointwise.{pointwise}
use Rattle.integers.specs.Tests.{◌and◌}
use Rattle.calendar.specs.Text.{same_text}
use Rattle.calendar.proofs.reader.same.Goals as goal

place-by-place : (s t : List ℕ) → pointwise eqb s t ≡ same_text s t
unfolding same_text
place-by-place [] [] = refl
place-by-place [] (b ∷ t) = refl
place-by-place (a ∷ s) [] = refl
place-by-place (a ∷ s) (b ∷ t) = ap (λ r. eqb a b and r) (place-by-place s t)

pub returns : goal.returns
returns c = c.eq.ensures ∙ place-by-place c.args.a.now c.args.b.now
