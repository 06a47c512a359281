-- `oem::reading_messages::run` is safe: the arrays are as long as they are declared.
use mathlib.Core.Path.{sym, subst}
use Prim.Native.Nat.{ℕ, ◌≤◌}
use lib.Dec.{lit≤}
use lib.IntN.{ℤ, pos}
use lib.ListN.{length-replicate}
use Rattle.oem.proofs.reading_messages.run.Goals as goal

pub print-requires : goal.print-requires
print-requires c = record { input_len = (length-replicate {0} {A = ℕ} 1100001 0, subst (λ n. 2029308 ≤ n) (sym (length-replicate {0} {A = ℕ} 2029308 0)) (lit≤ tt)); epochs_len = (length-replicate {0} {A = ℕ} 13253 0, length-replicate {0} {A = ℤ} 79518 (pos 0)) }

pub slice_bounds-print-end : goal.slice_bounds-print-end
slice_bounds-print-end c = sym (length-replicate {0} {A = ℕ} 1100001 0)

pub slice_bounds-print-end-4 : goal.slice_bounds-print-end-4
slice_bounds-print-end-4 c = sym (length-replicate {0} {A = ℕ} 2029308 0)
