-- The loop's invariant: the first k samples have been read.
use Rattle.std.proofs.Common.{◌≡◌, ℕ, ◌+◌, ◌*◌, ◌<◌, ℤ, length, get_or}
use Rattle.image.specs.Reading.{signed_at}
use Rattle.image.proofs.reading.samples_at.Given as goal

abbrev pub invariant-loop-k : goal.invariant-loop-k
invariant-loop-k l =
    (length l.sample-items ≡ 9) × ((j : ℕ) → j < l.k → (d : ℤ) → get_or l.sample-items j d ≡ signed_at (l.at + 24 * j) l.s)
