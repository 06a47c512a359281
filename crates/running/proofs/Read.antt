-- The samples of a slice: how many there are, and the one behind i others.
use mathlib.Core.Path.{◌≡◌, refl}
use mathlib.Core.List.{List, [], ◌∷◌}
use Prim.Native.Nat.{ℕ, zero, suc, ◌+◌, ◌*◌, ◌/◌, ◌<◌}
use native.Mathlib.Omega.{arith}
use lib.Ieee.{Float}
use lib.ListN.{length, drop}
use Rattle.running.specs.Samples.{samples_in, sample_at}

-- three floats each
pub length-samples : (floats : List Float) → length (samples_in floats) ≡ length floats / 3
unfolding samples_in
length-samples [] = refl
length-samples (x ∷ []) = refl
length-samples (x ∷ y ∷ []) = refl
length-samples (x ∷ y ∷ z ∷ rest) = omega (arith, length-samples rest)

pub drop-samples : (floats : List Float) (i : ℕ) → 3 * i + 2 < length floats →
    drop i (samples_in floats) ≡ sample_at floats i ∷ drop (suc i) (samples_in floats)
unfolding samples_in
drop-samples [] i l = absurd (omega arith)
drop-samples (x ∷ []) i l = absurd (omega arith)
drop-samples (x ∷ y ∷ []) i l = absurd (omega arith)
drop-samples (x ∷ y ∷ z ∷ rest) zero l = refl
drop-samples (x ∷ y ∷ z ∷ rest) (suc i) l =
    let e : 3 * suc i ≡ suc (suc (suc (3 * i))) = omega arith in
    let e1 : 3 * suc i + 1 ≡ suc (suc (suc (3 * i + 1))) = omega arith in
    let e2 : 3 * suc i + 2 ≡ suc (suc (suc (3 * i + 2))) = omega arith in
    rw (e1, e2, e) (drop-samples rest i (omega arith))
