-- The unsummed formulas begin with D l(0) = D, D l(1) = -D and D c(0) = D, and go on as the correctors do.
use mathlib.Core.Path.{◌≡◌, refl, sym, ◌∙◌, ap}
use mathlib.Core.List.{◌∷◌}
use Prim.Native.Nat.{ℕ, ◌+◌}
use native.Mathlib.Numerals.{add-one, add-two}
use lib.IntN.{pos, neg_ℤ}
use lib.ListN.{take}
use Rattle.exact.specs.Numerator.{D}
use Rattle.coefficients.specs.Fraction.{times}
use Rattle.coefficients.specs.Rules.{c, l, total, terms, next, divided}
use Rattle.coefficients.specs.Scaled.{run, first, later}
use Rattle.coefficients.proofs.FromFirst.{whole_run-run}
use Rattle.coefficients.proofs.Scaled.{c-whole, l-whole}
use Rattle.coefficients.specs.Formulas.{position_corrector, velocity_corrector, unsummed_cowell, adams_moulton}

l-0 : times D (l 0) (first l 0 10 l-whole) ≡ pos D
unfolding times l total c terms next divided
l-0 = refl

l-1 : times D (l 1) (first l 1 9 (later l 0 10 l-whole)) ≡ neg_ℤ (pos D)
unfolding times l total c terms next divided
l-1 = refl

c-0 : times D (c 0) (first c 0 9 c-whole) ≡ pos D
unfolding times c terms next divided
c-0 = refl

pub cowell-begins : (p : ℕ) → unsummed_cowell p ≡ pos D ∷ neg_ℤ (pos D) ∷ position_corrector p
unfolding unsummed_cowell position_corrector run
cowell-begins p =
    ap (take (p + 2)) (whole_run-run l 0 11 l-whole)
    ∙ ap (λ n. take n (run l 0 11 l-whole)) (add-two p)
    ∙ (λ i. l-0 i ∷ l-1 i ∷ ap (take p) (sym (whole_run-run l 2 9 (later l 1 9 (later l 0 10 l-whole)))) i)

pub adams-begins : (p : ℕ) → adams_moulton p ≡ pos D ∷ velocity_corrector p
unfolding adams_moulton velocity_corrector run
adams-begins p =
    ap (take (p + 1)) (whole_run-run c 0 10 c-whole)
    ∙ ap (λ n. take n (run c 0 10 c-whole)) (add-one p)
    ∙ (λ i. c-0 i ∷ ap (take p) (sym (whole_run-run c 1 9 (later c 0 9 c-whole))) i)
