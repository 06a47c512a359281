-- The floats of an opening, eight bytes each. Definitions only.
use Rattle.std.specs.Prelude.{ℕ, zero, suc, ◌*◌, cond, List, [], ◌∷◌, ◌++◌, eqb, Float, length}
use Rattle.std.specs.Float.{binary64}
use Rattle.std.specs.Float.Ieee.{of_bits}
use Rattle.integers.specs.Tests.{◌and◌}
use Rattle.session.specs.Numbers.{points_hold}
use Rattle.image.specs.Bytes.{word_at}

-- the i-th float, counted from 0
abbrev pub float_at : ℕ → List ℕ → Float
float_at i bytes = of_bits binary64 (word_at (8 * i) bytes)

-- the first n
unfoldable pub floats_in : ℕ → List ℕ → List Float
floats_in zero bytes = []
floats_in (suc n) bytes = floats_in n bytes ++ (float_at n bytes ∷ [])

-- how many are taken of so many bytes: 3p where p is 1 to 9 and there are 24p bytes; and else none, which open refuses
unfoldable pub float_count : ℕ → ℕ → ℕ
float_count p n = cond (points_hold p and eqb n (24 * p)) (3 * p) 0

abbrev pub floats_of : ℕ → List ℕ → List Float
floats_of p bytes = floats_in (float_count p (length bytes)) bytes
