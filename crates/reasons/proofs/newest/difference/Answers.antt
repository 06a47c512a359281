-- `reasons::newest::difference` meets its contract: after n turns the places hold the n-th differences.
use mathlib.Core.Path.{sym, ap, ◌∙◌, subst}
use Prim.Native.Nat.{◌+◌, ◌^◌}
use native.Mathlib.Nat.{sub-zero}
use native.Mathlib.Omega.{arith}
use borrow.Author.Rules.{rules}
use lib.IntN.{pos}
use lib.ListN.{get_or}
use mir.Syntax.{w64}
use mir.Val.{SFits}
use mir.Facts.{to_z-of_z}
use Rattle.integers.specs.Differences.{at, in_front}
use Rattle.reasons.specs.Differences.{AtMost, difference}
use Rattle.reasons.proofs.Backward.{at-most-front, at-most-back, wide_enough, turn, last}
use Rattle.reasons.proofs.newest.difference.Goals as goal

pub loop-init : goal.loop-init
loop-init c =
    let e = to_z-of_z {w = w64} c.ranges.sample in (
      subst (AtMost (2 ^ 28)) (sym (c.in_front-xs.ensures ∙ ap (λ a. in_front a (at c.args.samples)) e)) (at-most-front c.args.sample (at c.args.samples) c.requires.sample_bound c.requires.small.small),
      ap (λ n. difference n (at c.in_front-xs.result)) (sub-zero c.args.p),
    )

pub backward-xs-requires : goal.backward-xs-requires
backward-xs-requires c = let l = c.loop in wide_enough l.counter (at l.xs) (omega (arith, c.requires.p_bound)) l.invariant.0

pub loop-preserved : goal.loop-preserved
loop-preserved c =
    let l = c.loop in
    let p = c.args.p in (
      subst (AtMost (2 ^ (28 + (l.counter + 1)))) (sym c.backward-xs.ensures) (at-most-back l.counter (at l.xs) l.invariant.0),
      turn p l.counter (at l.xs) (at c.backward-xs.result) (omega arith) c.backward-xs.ensures ∙ l.invariant.1,
    )

pub returns : goal.returns
returns c =
    let l = c.loop in
    let a = c.args in
    let f : SFits w64 (get_or l.xs 0 (pos 0)) = search rules in
    to_z-of_z {w = w64} f
    ∙ sym (last a.p l.counter (at l.xs) (omega arith))
    ∙ l.invariant.1
    ∙ ap (difference a.p) (c.in_front-xs.ensures ∙ ap (λ z. in_front z (at a.samples)) (to_z-of_z {w = w64} c.ranges.sample))
