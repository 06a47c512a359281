-- `points_in` by the length of the input and its two bytes; the points are from one to nine.
use Rattle.std.proofs.Common.{◌≡◌, ℕ, ◌-◌, ◌≤◌, Bool, true, false, List, [], ◌∷◌, length, get_or, refl, arith}
use Rattle.std.specs.Prelude.{IfSome, Some, None, cond, leb, eqb, ◌&&◌}
use borrow.Author.Tests.{leb-true}
use Rattle.text.specs.Numbers.{digit}
use Rattle.table_text.specs.Text.{points_in}

pub two_bytes : (s : List ℕ) → length s ≡ 2
    → points_in s ≡ cond (leb (digit 1) (get_or s 0 0) && leb (get_or s 0 0) (digit 9) && eqb (get_or s 1 0) 10) (Some (get_or s 0 0 - digit 0)) None
unfolding points_in
two_bytes [] e = absurd (omega arith)
two_bytes (d ∷ []) e = absurd (omega arith)
two_bytes (d ∷ n ∷ []) e = refl
two_bytes (d ∷ n ∷ x ∷ more) e = absurd (omega arith)

pub other_length : (s : List ℕ) → (length s ≡ 2 → ⊥) → points_in s ≡ None
unfolding points_in
other_length [] h = refl
other_length (d ∷ []) h = refl
other_length (d ∷ n ∷ []) h = absurd (h refl)
other_length (d ∷ n ∷ x ∷ more) h = refl

few : (d : ℕ) (a b c : Bool) → leb (digit 1) d ≡ a → leb d (digit 9) ≡ b → IfSome (cond (a && b && c) (Some (d - digit 0)) None) (λ p. (1 ≤ p) × (p ≤ 9))
few d false b c e f = tt
few d true false c e f = tt
few d true true false e f = tt
few d true true true e f = (omega (arith, leb-true (digit 1) d e), omega (arith, leb-true d (digit 9) f))

pub nine-at-most : (s : List ℕ) → IfSome (points_in s) (λ p. (1 ≤ p) × (p ≤ 9))
unfolding points_in
nine-at-most [] = tt
nine-at-most (d ∷ []) = tt
nine-at-most (d ∷ n ∷ []) = few d (leb (digit 1) d) (leb d (digit 9)) (eqb n 10) refl refl
nine-at-most (d ∷ n ∷ x ∷ more) = tt
