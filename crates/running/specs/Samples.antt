-- The samples of a slice, three floats each. Definitions only.
use Rattle.std.specs.Prelude.{ℕ, ◌+◌, ◌*◌, List, [], ◌∷◌, Float, get_or}
use Rattle.ticks.specs.declared.Sample.{Sample}

abbrev pub sample : Float → Float → Float → Sample
sample x y z = record { x = x; y = y; z = z }

unfoldable pub samples_in : List Float → List Sample
samples_in [] = []
samples_in (x ∷ []) = []
samples_in (x ∷ y ∷ []) = []
samples_in (x ∷ y ∷ z ∷ rest) = sample x y z ∷ samples_in rest

-- the sample that stands behind i others, as the code reads it
abbrev pub sample_at : List Float → ℕ → Sample
sample_at floats i = sample (get_or floats (3 * i) Float.nan) (get_or floats (3 * i + 1) Float.nan) (get_or floats (3 * i + 2) Float.nan)
