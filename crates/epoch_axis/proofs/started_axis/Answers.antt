-- `epoch_axis::started_axis` meets its contract: the sums at the centre, run on to the newest point.
use mathlib.Core.Path.{◌≡◌, ◌∙◌, ap}
use Prim.Native.Nat.{◌^◌}
use native.Mathlib.Omega.{arith}
use lib.IntN.{◌+ℤ◌}
use Rattle.integers.specs.Differences.{at}
use Rattle.exact.specs.Numerator.{exact_of, numerator}
use Rattle.exact.proofs.Bounds.{widen}
use Rattle.epoch_coefficients.proofs.Centre.{at-least-3, at-most-9}
use Rattle.axis.specs.Formulas.{axis_with}
use Rattle.epoch_axis.specs.Formulas.{run_on, centre, centre_sums, started_axis}
use Rattle.epoch_axis.proofs.Started.{centre-near, centre-room, newest-room}
use Rattle.epoch_axis.proofs.started_axis.Goals as goal

pub run_on-sums-requires : goal.run_on-sums-requires
run_on-sums-requires c =
    let r = centre-room c.args.p c.args.epoch c.args.samples c.requires.p_value c.requires.placed c.requires.small in
    record { j_bound = centre-near c.args.p c.requires.p_value; bounded = rw c.centre_sums.ensures (widen (2 ^ 41) r.first tt); bounded_2 = rw c.centre_sums.ensures (widen (2 ^ 53) r.before tt); small = c.requires.small }

pub add-second-requires : goal.add-second-requires
add-second-requires c =
    let r = newest-room c.args.p c.args.epoch c.args.samples c.requires.p_value c.requires.placed c.requires.small in
    let a = c.args in
    let e : c.run_on-sums.result ≡ run_on (at a.samples) (centre a.p) (centre_sums a.p a.epoch a.samples) = c.run_on-sums.ensures ∙ ap (run_on (at a.samples) (centre a.p)) c.centre_sums.ensures in
    rw e (record { bounded = widen (2 ^ 62) r.before tt; bounded_2 = widen (2 ^ 62) r.first tt })

pub older_motion-older-requires : goal.older_motion-older-requires
older_motion-older-requires c = record { le_p = (omega (arith, at-least-3 c.requires.p_value), at-most-9 c.requires.p_value); small = c.requires.small }

pub returns : goal.returns
unfolding started_axis
returns c =
    let a = c.args in
    let e : c.run_on-sums.result ≡ run_on (at a.samples) (centre a.p) (centre_sums a.p a.epoch a.samples) = c.run_on-sums.ensures ∙ ap (run_on (at a.samples) (centre a.p)) c.centre_sums.ensures in
    let second = c.add-second.ensures ∙ ap (λ s. exact_of (numerator s.before +ℤ numerator s.first)) e in
    c.axis_with.ensures ∙ (λ i. axis_with (e i).first (second i) (c.older_motion-older.ensures i) c.args.samples (c.no_motion.ensures i))

pub overflow_sub-j : goal.overflow_sub-j
overflow_sub-j c = omega (arith, at-least-3 c.requires.p_value)
