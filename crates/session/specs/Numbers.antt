-- The numbers of a session. Definitions only.
use Rattle.std.specs.Prelude.{ℕ, Bool, leb}
use Rattle.integers.specs.Tests.{◌and◌}
use Rattle.axis.specs.declared.Tolerances.{Tolerances}

-- p is 1 to 9
unfoldable pub points_hold : ℕ → Bool
points_hold p = leb 1 p and leb p 9

-- both tolerances are 0 to 1,048,576, and the limit of corrections 1 to 8
unfoldable pub settings_hold : Tolerances → ℕ → Bool
settings_hold tolerances limit = leb tolerances.position 1048576 and leb tolerances.velocity 1048576 and leb 1 limit and leb limit 8

-- at most so many points are accepted
abbrev pub most_points : ℕ
most_points = 1000000
