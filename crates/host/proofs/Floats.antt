-- The floats that are taken have room, and their bytes are there; one more float in an array.
use mathlib.Core.Path.{◌≡◌, refl, sym, ap, ◌∙◌}
use mathlib.Core.Bool.{Bool, true, false, cond}
use mathlib.Core.List.{List, [], ◌∷◌, ◌++◌, append_assoc}
use Prim.Native.Nat.{ℕ, suc, ◌*◌, ◌≤◌, ◌<◌}
use native.Mathlib.Omega.{arith}
use lib.Dec.{eqb}
use lib.ListN.{length, take, drop, set, length-append}
use lib.Seq.{take_at, set_split, length-take-le}
use borrow.Author.Tests.{eqb-true}
use Rattle.integers.specs.Tests.{◌and◌, joined}
use Rattle.session.specs.Numbers.{points_hold}
use Rattle.session.proofs.Rules.{points-hold}
use Rattle.host.specs.Samples.{float_count}

pub count_fits : (p n : ℕ) → (float_count p n ≤ 27) × (8 * float_count p n ≤ n)
unfolding float_count
count_fits p n = by (points_hold p and eqb n (24 * p)) refl
  where
    by : (t : Bool) → (points_hold p and eqb n (24 * p)) ≡ t → (cond t (3 * p) 0 ≤ 27) × (8 * cond t (3 * p) 0 ≤ n)
    by true e =
        let (h, f) = simp joined at e in
        let (_, m) = (points-hold p).0 h in
        let l = eqb-true n (24 * p) f in
        (omega arith, omega arith)
    by false e = (omega arith, omega arith)

-- the first of an array, with one more stored behind them
pub stored : {A : Type 0} (xs : List A) (i : ℕ) (x : A) → i < length xs → take (suc i) (set xs i x) ≡ take i xs ++ (x ∷ [])
stored xs i x h =
    let front = take i xs ++ (x ∷ []) in
    let n : length front ≡ suc i = omega (arith, length-append (take i xs) (x ∷ []), length-take-le i xs (omega arith)) in
    ap (take (suc i)) (set_split xs i x h ∙ sym (append_assoc (take i xs) (x ∷ []) (drop (suc i) xs))) ∙ take_at front (drop (suc i) xs) (suc i) n
