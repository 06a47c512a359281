-- A number with its sign as a word.
use mathlib.Core.Path.{◌≡◌, ◌∙◌, ap}
use Prim.Native.Nat.{ℕ}
use lib.IntN.{ℤ}
use mir.Syntax.{w64}
use mir.Val.{SFits, to_z, of_z}
use mir.Facts.{to_z-of_z}

-- an i64 that is held as its bits
pub held : {r z : ℤ} → SFits w64 r → r ≡ z → to_z w64 (of_z w64 r) ≡ z
held f e = to_z-of_z f ∙ e

-- and its word
pub word_of : {w : ℕ} {z : ℤ} → SFits w64 z → w ≡ of_z w64 (to_z w64 (of_z w64 z)) → w ≡ of_z w64 z
word_of f e = e ∙ ap (of_z w64) (to_z-of_z f)
