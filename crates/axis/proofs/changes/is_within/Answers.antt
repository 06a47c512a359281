-- `axis::changes::is_within` meets its contract: the size of the change is compared with the tolerance.
use mathlib.Core.Path.{◌≡◌, refl, ap, ◌∙◌}
use Prim.Native.Nat.{ℕ, ◌*◌, ◌<◌}
use native.Mathlib.Omega.{arith}
use borrow.Author.Rules.{rules}
use lib.Dec.{leb, lit<}
use lib.IntN.{pos}
use lib.Signed.{le_z}
use mir.Syntax.{w64}
use mir.ValLaws.{to_z_pos}
use Rattle.exact.specs.declared.Exact.{Exact}
use Rattle.exact.specs.Numerator.{D, numerator, exact_of, wholly}
use Rattle.exact.proofs.Laws.{part-below, numerator-exact_of, numerator-wholly}
use Rattle.axis.specs.Kinds.{apart_by}
use Rattle.axis.proofs.changes.is_within.Goals as goal

compared : (n t : ℕ) {e f : Exact} → e ≡ exact_of (pos n) → f ≡ wholly (pos t) → le_z (numerator e) (numerator f) ≡ leb n (t * D)
compared n t p q = rw (p, q, numerator-exact_of (pos n), numerator-wholly (pos t)) refl

pub at_most-requires : goal.at_most-requires
at_most-requires c =
    let a = c.args in
    let moved : c.apart-moved.result.part < D = rw c.apart-moved.ensures (part-below (pos (apart_by a.e a.before))) in
    let most : c.of_whole-most.result.part < D = rw c.of_whole-most.ensures (lit< tt) in
    search rules

pub returns : goal.returns
returns c =
    let a = c.args in
    c.at_most.ensures ∙ compared (apart_by a.e a.before) a.tolerance c.apart-moved.ensures (c.of_whole-most.ensures ∙ ap wholly (to_z_pos w64 a.tolerance (omega (arith, c.requires.tolerance_bound))))
