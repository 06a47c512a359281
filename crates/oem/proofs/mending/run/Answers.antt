-- `oem::mending::run` is safe: the arrays are as long as they are declared.
use mathlib.Core.Path.{◌≡◌, sym}
use Prim.Native.Nat.{ℕ, ◌+◌, ◌*◌, ◌≤◌}
use native.Mathlib.Omega.{arith}
use lib.ListN.{length-replicate}
use Rattle.oem.proofs.mending.run.Goals as goal

-- two words of a change are listed in 32 characters at most
fits : (words room : ℕ) → words ≡ 131072 → room ≡ 2097184 → 32 + 16 * words ≤ room
fits words room a b = omega (arith, a, b)

pub mend_input-requires : goal.mend_input-requires
mend_input-requires c = fits _ _ (length-replicate {0} {A = ℕ} 131072 0) (length-replicate {0} {A = ℕ} 2097184 0)

pub slice_bounds-mend_input-end : goal.slice_bounds-mend_input-end
slice_bounds-mend_input-end c = sym (length-replicate {0} {A = ℕ} 1100001 0)

pub slice_bounds-mend_input-end-2 : goal.slice_bounds-mend_input-end-2
slice_bounds-mend_input-end-2 c = sym (length-replicate {0} {A = ℕ} 1100100 0)

pub slice_bounds-mend_input-end-4 : goal.slice_bounds-mend_input-end-4
slice_bounds-mend_input-end-4 c = sym (length-replicate {0} {A = ℕ} 2097184 0)
