-- `oem::writing::run` is safe: the arrays are as long as they are declared.
use mathlib.Core.Path.{sym, subst}
use Prim.Native.Nat.{ℕ, ◌≤◌}
use lib.Dec.{lit≤}
use lib.ListN.{length-replicate}
use Rattle.oem.proofs.writing.run.Goals as goal

pub slice_bounds-write-end : goal.slice_bounds-write-end
slice_bounds-write-end c = sym (length-replicate {0} {A = ℕ} 1100001 0)

pub write-requires : goal.write-requires
write-requires c = subst (λ n. 64 ≤ n) (sym (length-replicate {0} {A = ℕ} 560000 0)) (lit≤ tt)

pub slice_bounds-write-end-3 : goal.slice_bounds-write-end-3
slice_bounds-write-end-3 c = sym (length-replicate {0} {A = ℕ} 560000 0)
