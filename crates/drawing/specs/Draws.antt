-- How samples are drawn: three numbers, each worked out from the one before, and of each its high bits as ticks. Definitions only.
use Rattle.std.specs.Prelude.{ℕ, ◌+◌, ◌*◌, ◌/◌, ◌%◌, ◌^◌, ℤ, pos, ◌-ℤ◌}
use Rattle.std.specs.Float.{binary64}
use Rattle.std.specs.Float.Ieee.{of_int}
use Rattle.ticks.specs.declared.Sample.{Sample}
use Rattle.drawing.specs.declared.Draw.{Draw}

-- the number after another, by a linear rule modulo 2^31
unfoldable pub next_of : ℕ → ℕ
next_of seed = (1103515245 * (seed % 2 ^ 31) + 12345) % 2 ^ 31

-- 16 bits from the 15th on, less 2^15
unfoldable pub centred_of : ℕ → ℤ
centred_of seed = pos (seed / 2 ^ 15 % 2 ^ 16) -ℤ pos (2 ^ 15)

unfoldable pub drawn_of : ℕ → Draw
drawn_of seed =
    let x = next_of seed in
    let y = next_of x in
    let z = next_of y in
    record { seed = z; x = centred_of x; y = centred_of y; z = centred_of z }

-- each whole number as the nearest float
unfoldable pub sample_of : Draw → Sample
sample_of d = record { x = of_int binary64 d.x; y = of_int binary64 d.y; z = of_int binary64 d.z }
