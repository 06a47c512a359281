-- The coefficients from the index on at which the formulas begin are whole times D, and the list of whole ones is then the list of all.
use Rattle.std.specs.Prelude.{ℕ, zero, suc, ◌≡◌, refl, Bool, true, false, ◌∷◌, ◌+◌, take}
use Rattle.std.proofs.Common.{sym, ◌∙◌, true≢false, ap}
use Rattle.std.proofs.Math.Bool.{Bool-set}
use Rattle.exact.specs.Numerator.{D}
use Rattle.coefficients.specs.Fraction.{Fraction, is_whole, times}
use Rattle.coefficients.specs.Rules.{c, g, l, s}
use Rattle.coefficients.specs.Scaled.{all_whole, run, times_by, whole_run, first, later}
use Rattle.coefficients.specs.Formulas.{unsummed_cowell, adams_moulton}
use Rattle.coefficients.proofs.Scaled.{c-whole, g-whole, l-whole, s-whole}

-- from the index on at which the formulas begin
abbrev pub c-from-1 : all_whole c 1 9 ≡ true
c-from-1 = later c 0 9 c-whole

abbrev pub g-from-1 : all_whole g 1 9 ≡ true
g-from-1 = later g 0 9 g-whole

abbrev pub l-from-2 : all_whole l 2 9 ≡ true
l-from-2 = later l 1 9 (later l 0 10 l-whole)

abbrev pub s-from-2 : all_whole s 2 9 ≡ true
s-from-2 = later s 1 9 (later s 0 10 s-whole)

-- ---- the list

by-true : (d : ℕ) (q : Fraction) (b : Bool) (e : is_whole d q ≡ b) (w : is_whole d q ≡ true) → times_by d q b e ≡ times d q w
by-true d q true e w = ap (times d q) (Bool-set (is_whole d q) true e w)
by-true d q false e w = absurd (true≢false (sym w ∙ e))

pub whole_run-run : (f : ℕ → Fraction) (i n : ℕ) (w : all_whole f i n ≡ true) → whole_run f i n ≡ run f i n w
unfolding whole_run run
whole_run-run f i zero w = refl
whole_run-run f i (suc n) w =
    λ j. by-true D (f i) (is_whole D (f i)) refl (first f i n w) j ∷ whole_run-run f (suc i) n (later f i n w) j

-- ---- so each formula's list is that of whole coefficients, with the proof (those of the four summed ones: `weights-run` in `Written`)

pub unsummed_cowell-run : (p : ℕ) → unsummed_cowell p ≡ take (p + 2) (run l 0 11 l-whole)
unfolding unsummed_cowell
unsummed_cowell-run p = ap (take (p + 2)) (whole_run-run l 0 11 l-whole)

pub adams_moulton-run : (p : ℕ) → adams_moulton p ≡ take (p + 1) (run c 0 10 c-whole)
unfolding adams_moulton
adams_moulton-run p = ap (take (p + 1)) (whole_run-run c 0 10 c-whole)
