-- `text::reading::positive` meets its contract.
use mathlib.Core.Path.{◌≡◌, refl, sym}
use mathlib.Core.Bool.{Bool, true, false}
use Prim.Native.Nat.{ℕ, ◌^◌, ◌≤◌}
use borrow.Author.Tests.{ltb-true, ltb-false}
use lib.Dec.{ltb}
use lib.IntN.{pos}
use mir.Syntax.{w64}
use mir.Val.{SFits}
use mir.Facts.{to_z-of_z}
use Rattle.integers.specs.Parts.{integers}
use Rattle.text.proofs.Signs.{not_below-too-far, not_below-number}
use Rattle.text.proofs.reading.positive.Goals as goal

too_far : (n : ℕ) → (SFits w64 (pos n) → ⊥) → 2 ^ 63 ≤ n
too_far n f = by (ltb n (2 ^ 63)) refl
  where
    by : (t : Bool) → ltb n (2 ^ 63) ≡ t → 2 ^ 63 ≤ n
    by true t = let h = ltb-true n (2 ^ 63) t in absurd (f (omega integers))
    by false t = ltb-false n (2 ^ 63) t

pub returns-in_default : goal.returns-in_default
returns-in_default c = sym (not_below-too-far _ _ (too_far _ c.in_default.ensures))

pub returns : goal.returns
returns c =
    let (f, e) = c.in-Ok.ensures in
    rw (e, to_z-of_z f) (sym (not_below-number _ _ (omega integers)))
