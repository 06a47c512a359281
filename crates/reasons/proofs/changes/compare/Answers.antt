-- `reasons::changes::compare` meets its contract: the change is over the tolerance or not.
use mathlib.Core.Path.{◌≡◌, sym, ap, ◌∙◌}
use mathlib.Core.Bool.{Bool, true, false, not, cond}
use Prim.Native.Nat.{ℕ, ◌*◌, ◌^◌, ◌≤◌}
use lib.Dec.{leb}
use lib.IntN.{nat_abs}
use Rattle.integers.specs.Parts.{integers, nat_abs-parts, one-part}
use Rattle.exact.specs.declared.Exact.{Exact}
use Rattle.exact.specs.Numerator.{D, numerator, exact_of, Bounded}
use Rattle.exact.specs.Report.{reported_of}
use Rattle.exact.proofs.Laws.{made}
use Rattle.exact.proofs.Bounds.{widen, difference-within}
use Rattle.axis.specs.Kinds.{moved_by, within}
use Rattle.std.specs.Prelude.{Some, None}
use Rattle.reasons.specs.Reasons.{reason, compared}
use Rattle.reasons.proofs.changes.compare.Goals as goal

-- the change of two values in range, as `subtract` gives it
module _ (e before : Exact) {r : Exact} (p : Bounded (2 ^ 52) e) (q : Bounded (2 ^ 52) before) (h : r ≡ exact_of (moved_by e before)) where
  bounded : Bounded (2 ^ 53) r
  bounded = rw h (widen (2 ^ 53) (difference-within p q) tt)

  reports : nat_abs r.whole ≤ 2 ^ 53
  reports = let b = bounded in omega (integers, nat_abs-parts r.whole, one-part r.whole)

-- what the test said
module _ (e before : Exact) {r : Exact} (n tolerance : ℕ) (h : r ≡ exact_of (moved_by e before)) {t : Bool} (f : t ≡ not (leb (nat_abs (numerator r)) (tolerance * D))) where
  told : t ≡ not (within tolerance e before)
  told = f ∙ ap (λ z. not (leb (nat_abs z) (tolerance * D))) (made (moved_by e before) h)

  over : t ≡ true → Some (reason n (reported_of r) tolerance) ≡ compared n tolerance e before
  over g = ap (λ x. Some (reason n (reported_of x) tolerance)) h ∙ sym (ap (λ b. cond b (Some (reason n (reported_of (exact_of (moved_by e before))) tolerance)) None) (sym told ∙ g))

  under : t ≡ false → None ≡ compared n tolerance e before
  under g = sym (ap (λ b. cond b (Some (reason n (reported_of (exact_of (moved_by e before))) tolerance)) None) (sym told ∙ g))

pub is_over-requires-clause-bounded : goal.is_over-requires-clause-bounded
is_over-requires-clause-bounded c = let a = c.args in widen (2 ^ 62) (bounded a.now a.before c.requires.bounded c.requires.bounded_2 c.subtract-change.ensures) tt

pub returns-then-not-is_over : goal.returns-then-not-is_over
returns-then-not-is_over c =
    let a = c.args in
    under a.now a.before a.value a.tolerance c.subtract-change.ensures c.is_over.ensures c.if-not-is_over.true

pub reported-requires : goal.reported-requires
reported-requires c = reports c.args.now c.args.before c.requires.bounded c.requires.bounded_2 c.subtract-change.ensures

pub returns : goal.returns
returns c =
    let a = c.args in
    rw c.reported.ensures (over a.now a.before a.value a.tolerance c.subtract-change.ensures c.is_over.ensures c.if-not-is_over.false)
