-- `pace::run::opened` meets its contract: there are 27 floats, and 3 times as many of them are used as there are points.
use mathlib.Core.Path.{◌≡◌, refl, sym}
use mathlib.Core.List.{List}
use Prim.Native.Nat.{ℕ, ◌*◌, ◌≤◌}
use native.Mathlib.Omega.{arith}
use lib.Ieee.{Float}
use lib.ListN.{length, take}
use lib.Seq.{length-take-le}
use Rattle.pace.proofs.run.opened.Goals as goal

used : (p : ℕ) (xs : List Float) → length xs ≡ 27 → p ≤ 9 → 3 * p ≡ length (take (3 * p) xs)
used p xs e h = sym (length-take-le (3 * p) xs (omega arith))

pub slice_bounds-open-end : goal.slice_bounds-open-end
slice_bounds-open-end c = used c.args.points _ refl c.requires
