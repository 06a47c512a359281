-- `axis::formulas::left_of` meets its contract: the change is split, and then subtracted.
use mathlib.Core.Path.{◌≡◌, ◌∙◌, ap}
use Prim.Native.Nat.{◌^◌}
use lib.IntN.{◌-ℤ◌}
use mir.Facts.{to_z-of_z}
use Rattle.exact.specs.Numerator.{exact_of, numerator}
use Rattle.exact.proofs.Laws.{made}
use Rattle.exact.proofs.Bounds.{widen, split-bounded}
use mir.Syntax.{w64}
use Rattle.axis.proofs.formulas.left_of.Goals as goal

pub subtract-requires : goal.subtract-requires
subtract-requires c =
    let s : c.split.result ≡ exact_of c.args.change = c.split.ensures ∙ ap exact_of (to_z-of_z {w = w64} c.ranges.change) in
    record { bounded = widen (2 ^ 62) c.requires tt; bounded_2 = rw s (widen (2 ^ 62) (split-bounded c.args.change c.ranges.change) tt) }

pub returns : goal.returns
returns c =
    let s : c.split.result ≡ exact_of c.args.change = c.split.ensures ∙ ap exact_of (to_z-of_z {w = w64} c.ranges.change) in
    c.subtract.ensures ∙ ap (λ z. exact_of (numerator c.args.value -ℤ z)) (made _ s)
