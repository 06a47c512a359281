-- `reports::names::part` meets its contract: a part of the text by its start and its length.
use mathlib.Core.Path.{◌≡◌, ap}
use Prim.Native.Nat.{◌+◌, ◌-◌}
use native.Mathlib.Omega.{arith}
use lib.ListN.{take, drop}
use Rattle.reports.specs.Reports.{part_of}
use Rattle.reports.proofs.names.part.Goals as goal

pub returns : goal.returns
unfolding part_of
returns c =
    let a = c.args in
    let n : a.place.start + a.place.length - a.place.start ≡ a.place.length = omega arith in
    ap (λ m. take m (drop a.place.start a.text.now)) n
