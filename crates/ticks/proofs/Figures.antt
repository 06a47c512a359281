-- The figures of `specs/Figures.antt`, shown by computing.
use mathlib.Core.Path.{refl}
use mathlib.Core.List.{◌++◌}
use lib.Ieee.{of_bits}
use Rattle.integers.specs.Lines.{All, all_of}
use Rattle.ticks.specs.Round.{rounded_of}
use Rattle.ticks.specs.Samples.{any, fault_in}
use Rattle.ticks.specs.Figures.{figures, figures_by_bits}

pub figures-hold : All figures
unfolding rounded_of
figures-hold = (refl, (refl, (refl, (refl, (refl, (refl, (refl, tt)))))))

figures-by-bits-hold : All figures_by_bits
unfolding rounded_of of_bits any fault_in
figures-by-bits-hold = (refl, (refl, (refl, (refl, (refl, (refl, (refl, (refl, (refl, (refl, (refl, (refl, (refl, (refl, (refl, (refl, (refl, (refl, (refl, (refl, (refl, (refl, (refl, (refl, (refl, (refl, (refl, (refl, (refl, (refl, (refl, (refl, tt))))))))))))))))))))))))))))))))

pub table-holds : All (figures ++ figures_by_bits)
table-holds = all_of figures figures_by_bits figures-hold figures-by-bits-hold
