-- D makes the coefficients that are used whole: the four proofs are computed here.
use Rattle.std.specs.Prelude.{◌≡◌, refl, true}
use Rattle.coefficients.specs.Rules.{c, g, l, s, total, terms, next, divided}
use Rattle.coefficients.specs.Scaled.{all_whole}

-- ---- the coefficients that are used are whole times D: c and g to 9, l and s to 10 (D c(10) is not whole)

pub c-whole : all_whole c 0 10 ≡ true
unfolding c terms next divided
c-whole = refl

pub g-whole : all_whole g 0 10 ≡ true
unfolding g total c terms next divided
g-whole = refl

pub l-whole : all_whole l 0 11 ≡ true
unfolding l total c terms next divided
l-whole = refl

pub s-whole : all_whole s 0 11 ≡ true
unfolding s l total c terms next divided
s-whole = refl
