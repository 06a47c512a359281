-- `epoch_axis::earlier_motion` meets its contract: the sums run back, and the two series.
use mathlib.Core.Path.{◌≡◌, ◌∙◌, ap}
use Prim.Native.Nat.{ℕ, ◌^◌, ◌≤◌}
use native.Mathlib.Omega.{arith}
use borrow.Author.Rules.{sfits_of}
use lib.Dec.{lit≤}
use lib.IntN.{◌+ℤ◌, ◌-ℤ◌}
use Rattle.axis.specs.declared.Axis.{Axis}
use Rattle.axis.specs.Ready.{Ready}
use Rattle.epoch_axis.specs.declared.Sums.{Sums}
use Rattle.integers.specs.Differences.{at, by_differences}
use Rattle.exact.specs.declared.Exact.{Exact}
use Rattle.exact.specs.Numerator.{exact_of, numerator, Bounded}
use Rattle.exact.proofs.Bounds.{wider, widen, difference-bounded}
use Rattle.epoch_coefficients.specs.Formulas.{earlier_position, earlier_velocity}
use Rattle.epoch_coefficients.proofs.Centre.{at-most-9}
use Rattle.axis.proofs.Sums.{moved-is, motion-is}
use Rattle.epoch_axis.specs.Formulas.{run_back, newest_sums, earlier_motion}
use Rattle.epoch_axis.proofs.Room.{Room, at_first, run-back-room}
use Rattle.epoch_axis.proofs.earlier_motion.Goals as goal

-- the axis before it is run back, and run back
start : (p : ℕ) (a : Axis) {before : Exact} → Ready p a → before ≡ exact_of (numerator a.second -ℤ numerator a.first) → Bounded (2 ^ 55) before
start p a {before} r e = difference-bounded (2 ^ 54) (2 ^ 42) (2 ^ 55) a.second a.first before r.second r.first (lit≤ tt) e

room : (p : ℕ) (a : Axis) (j : ℕ) {before : Exact} {sums : Sums} → Ready p a → j ≤ 8 → before ≡ exact_of (numerator a.second -ℤ numerator a.first) → sums ≡ run_back (at a.samples) j (record { first = a.first; before = before }) → Room (2 ^ 42) (2 ^ 55) j sums
room p a j r h e f = rw f (run-back-room (2 ^ 42) (2 ^ 55) (at a.samples) r.small.small j h (at_first (2 ^ 42) (2 ^ 55) 0 r.first (start p a r e)))

pub subtract-before-requires : goal.subtract-before-requires
subtract-before-requires c = let r = c.requires.ready in record { bounded = widen (2 ^ 62) r.second tt; bounded_2 = widen (2 ^ 62) r.first tt }

pub run_back-sums-requires : goal.run_back-sums-requires
run_back-sums-requires c =
    let r = c.requires.ready in
    record { j_bound = omega (arith, at-most-9 c.requires.p_value); bounded = r.first; bounded_2 = start c.args.p c.args.a r c.subtract-before.ensures; small = r.small }

pub moved-position-requires : goal.moved-position-requires
moved-position-requires c =
    let h : c.args.j ≤ 8 = omega (arith, at-most-9 c.requires.p_value) in
    wider _ (2 ^ 61) _ (room c.args.p c.args.a c.args.j c.requires.ready h c.subtract-before.ensures c.run_back-sums.ensures).before (omega arith)

pub moved-velocity-requires : goal.moved-velocity-requires
moved-velocity-requires c =
    let h : c.args.j ≤ 8 = omega (arith, at-most-9 c.requires.p_value) in
    wider _ (2 ^ 61) _ (room c.args.p c.args.a c.args.j c.requires.ready h c.subtract-before.ensures c.run_back-sums.ensures).first (omega arith)

pub returns : goal.returns
unfolding earlier_motion newest_sums
returns c =
    let g = c.args in
    let x = at g.a.samples in
    let e : c.run_back-sums.result ≡ run_back x g.j (newest_sums g.a) = c.run_back-sums.ensures ∙ ap (λ s. run_back x g.j (record { first = g.a.first; before = s })) c.subtract-before.ensures in
    motion-is _ _
    (moved-is c.run_back-sums.result.before _ (sfits_of c.position_sum.type_inv) c.position_sum.ensures c.moved-position.ensures ∙ ap (λ s. exact_of (numerator s.before +ℤ by_differences (earlier_position g.j g.p) x)) e)
    (moved-is c.run_back-sums.result.first _ (sfits_of c.velocity_sum.type_inv) c.velocity_sum.ensures c.moved-velocity.ensures ∙ ap (λ s. exact_of (numerator s.first +ℤ by_differences (earlier_velocity g.j g.p) x)) e)
