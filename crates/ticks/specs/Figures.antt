-- Figures for rounding: H1 and H2, and floats by their bits, which any other implementation can be held against.
use Rattle.std.specs.Prelude.{Bool, true, false, List, [], ◌∷◌, ℕ, pos, negsuc, ℤ, Option, Some, None, Result, Ok, Err, Float}
use Rattle.std.specs.Float.{binary64, fin}
use Rattle.std.specs.Float.Ieee.{of_bits}
use Rattle.integers.specs.Lines.{Line, line}
use Rattle.ticks.specs.declared.WholeSample.{WholeSample}
use Rattle.ticks.specs.declared.Fault.{Fault}
use Rattle.ticks.specs.declared.FaultySample.{FaultySample}
use Rattle.ticks.specs.declared.Fault.TheVariants.{TooLarge, Infinite, NotANumber}
use Rattle.ticks.specs.Round.{rounded_of}
use Rattle.ticks.specs.Samples.{fault_in, sample_of}

abbrev rounds : Float → Result ℤ Fault → Line
rounds x r = line (Result ℤ Fault) (rounded_of x) r

-- n / 2, negative where s is true
abbrev halves : Bool → ℕ → Float
halves s n = fin s n (negsuc 0)

abbrev pub figures : List Line
figures =
    -- H1: 0.5, 1.5, 2.5, -0.5, -1.5
    rounds (halves false 1) (Ok (pos 0))
    ∷ rounds (halves false 3) (Ok (pos 2))
    ∷ rounds (halves false 5) (Ok (pos 2))
    ∷ rounds (halves true 1) (Ok (pos 0))
    ∷ rounds (halves true 3) (Ok (negsuc 1))
    -- H2: 268435456.5, 268435457
    ∷ rounds (halves false 536870913) (Ok (pos 268435456))
    ∷ rounds (fin false 268435457 (pos 0)) (Err TooLarge)
    ∷ []

abbrev bits : ℕ → Float
bits b = of_bits binary64 b

abbrev pub figures_by_bits : List Line
figures_by_bits =
    -- zero and minus zero, the smallest float above zero and its negative
    rounds (bits 0x0000_0000_0000_0000) (Ok (pos 0))
    ∷ rounds (bits 0x8000_0000_0000_0000) (Ok (pos 0))
    ∷ rounds (bits 0x0000_0000_0000_0001) (Ok (pos 0))
    ∷ rounds (bits 0x8000_0000_0000_0001) (Ok (pos 0))
    -- 0.5 and its neighbours
    ∷ rounds (bits 0x3FDF_FFFF_FFFF_FFFF) (Ok (pos 0))
    ∷ rounds (bits 0x3FE0_0000_0000_0000) (Ok (pos 0))
    ∷ rounds (bits 0x3FE0_0000_0000_0001) (Ok (pos 1))
    -- 1.5 and its neighbours
    ∷ rounds (bits 0x3FF7_FFFF_FFFF_FFFF) (Ok (pos 1))
    ∷ rounds (bits 0x3FF8_0000_0000_0000) (Ok (pos 2))
    ∷ rounds (bits 0x3FF8_0000_0000_0001) (Ok (pos 2))
    -- -2.5 and its neighbours
    ∷ rounds (bits 0xC003_FFFF_FFFF_FFFF) (Ok (negsuc 1))
    ∷ rounds (bits 0xC004_0000_0000_0000) (Ok (negsuc 1))
    ∷ rounds (bits 0xC004_0000_0000_0001) (Ok (negsuc 2))
    -- 268435455.5, the tie below the limit
    ∷ rounds (bits 0x41AF_FFFF_FF00_0000) (Ok (pos 268435456))
    -- 268435456.5 and the next float, both signs
    ∷ rounds (bits 0x41B0_0000_0080_0000) (Ok (pos 268435456))
    ∷ rounds (bits 0x41B0_0000_0080_0001) (Err TooLarge)
    ∷ rounds (bits 0xC1B0_0000_0080_0000) (Ok (negsuc 268435455))
    ∷ rounds (bits 0xC1B0_0000_0080_0001) (Err TooLarge)
    -- the largest floats, and infinity, both signs
    ∷ rounds (bits 0x7FEF_FFFF_FFFF_FFFF) (Err TooLarge)
    ∷ rounds (bits 0xFFEF_FFFF_FFFF_FFFF) (Err TooLarge)
    ∷ rounds (bits 0x7FF0_0000_0000_0000) (Err Infinite)
    ∷ rounds (bits 0xFFF0_0000_0000_0000) (Err Infinite)
    -- NaNs: least and greatest fraction, both signs, and the usual one
    ∷ rounds (bits 0x7FF0_0000_0000_0001) (Err NotANumber)
    ∷ rounds (bits 0x7FFF_FFFF_FFFF_FFFF) (Err NotANumber)
    ∷ rounds (bits 0xFFF0_0000_0000_0001) (Err NotANumber)
    ∷ rounds (bits 0xFFFF_FFFF_FFFF_FFFF) (Err NotANumber)
    ∷ rounds (bits 0x7FF8_0000_0000_0000) (Err NotANumber)
    -- too large, infinite and a NaN, the worst of them last
    ∷ line (Option Fault) (fault_in []) None
    ∷ line (Option Fault) (fault_in (bits 0x41B0_0000_0080_0001 ∷ bits 0xFFF0_0000_0000_0000 ∷ [])) (Some Infinite)
    ∷ line (Result WholeSample FaultySample) (sample_of (record { x = bits 0x7FEF_FFFF_FFFF_FFFF; y = bits 0x7FF0_0000_0000_0000; z = bits 0x7FF8_0000_0000_0000 })) (Err (record { fault = NotANumber; ticks = record { x = pos 0; y = pos 0; z = pos 0 } }))
    ∷ line (Result WholeSample FaultySample) (sample_of (record { x = halves true 3; y = bits 0x7FEF_FFFF_FFFF_FFFF; z = halves false 5 })) (Err (record { fault = TooLarge; ticks = record { x = negsuc 1; y = pos 0; z = pos 2 } }))
    ∷ line (Result WholeSample FaultySample) (sample_of (record { x = halves true 3; y = halves true 1; z = halves false 5 })) (Ok (record { x = negsuc 1; y = pos 0; z = pos 2 }))
    ∷ []
