-- After i turns the first i floats are stored.
use Rattle.std.proofs.Common.{◌≡◌, length, take}
use Rattle.host.specs.Samples.{floats_in}
use Rattle.host.proofs.samples.floats_in.Given as goal

abbrev pub invariant-loop-i : goal.invariant-loop-i
invariant-loop-i l = (length l.out ≡ 27) × (take l.i l.out ≡ floats_in l.i l.bytes)
