-- `epoch_axis::run_on` meets its contract: what is left to run comes to the same after each step.
use mathlib.Core.Path.{◌≡◌, refl, sym, ap, subst, ◌∙◌}
use Prim.Native.Nat.{suc, ◌-◌, ◌^◌}
use native.Mathlib.Omega.{arith}
use borrow.Author.Rules.{rules}
use mir.Syntax.{w64}
use mir.Val.{SFits}
use mir.Facts.{to_z-of_z}
use Rattle.integers.specs.Differences.{at}
use Rattle.exact.proofs.Bounds.{wider}
use Rattle.axis.proofs.Sums.{next-is}
use Rattle.epoch_axis.specs.declared.Sums.{Sums}
use Rattle.epoch_axis.specs.Formulas.{next_sums, run_on}
use Rattle.epoch_axis.proofs.Room.{Room, at_first, next-room, run-on-step}
use Rattle.epoch_axis.proofs.run_on.Goals as goal

pub loop-i-init : goal.loop-i-init
loop-i-init c =
    (at_first (2 ^ 41) (2 ^ 53) (c.args.j - c.args.j) c.requires.bounded c.requires.bounded_2, refl)

pub add-before-requires : goal.add-before-requires
add-before-requires c =
    let r = c.loop-i.invariant.0 in
    record { bounded = wider _ (2 ^ 62) _ r.before (omega arith); bounded_2 = wider _ (2 ^ 62) _ r.first (omega arith) }

pub next_first-first-requires : goal.next_first-first-requires
next_first-first-requires c =
    let f : SFits w64 (at c.args.samples (c.loop-i.i - 1)) = search rules in
    record { bounded = wider _ (2 ^ 42) _ c.loop-i.invariant.0.first (omega arith); sample_bound = rw (to_z-of_z {w = w64} f) (c.requires.small.small (c.loop-i.i - 1)) }

pub loop-i-preserved : goal.loop-i-preserved
unfolding next_sums
loop-i-preserved c =
    let a = at c.args.samples in
    let i = c.loop-i.i - 1 in
    let s : Sums = record { first = c.loop-i.first; before = c.loop-i.before } in
    let f : SFits w64 (a i) = search rules in
    let e : next_sums s (a i) ≡ record { first = c.next_first-first.result; before = c.add-before.result } =
    sym (λ k. record { first = next-is c.loop-i.first (a i) f c.next_first-first.ensures k; before = c.add-before.ensures k }) in
    let n : suc (c.args.j - c.loop-i.i) ≡ c.args.j - i = omega arith in (
      subst (λ t. Room (2 ^ 41) (2 ^ 53) (c.args.j - i) t) e (subst (λ m. Room (2 ^ 41) (2 ^ 53) m (next_sums s (a i))) n (next-room (2 ^ 41) (2 ^ 53) (c.args.j - c.loop-i.i) (omega arith) c.loop-i.invariant.0 (a i) (c.requires.small.small i))),
      sym (run-on-step a c.loop-i.i s (omega arith) ∙ ap (run_on a i) e) ∙ c.loop-i.invariant.1,
    )

pub returns : goal.returns
unfolding run_on
returns c =
    let e : c.loop-i.i ≡ 0 = omega arith in
    sym (ap (λ n. run_on (at c.args.samples) n (record { first = c.loop-i.first; before = c.loop-i.before })) e) ∙ c.loop-i.invariant.1
