-- `running::runs::run_settled` meets its contract: what the run has come to after i samples goes on with the others to what it comes to from the start.
use mathlib.Core.Path.{◌≡◌, refl, sym, ap, subst, ◌∙◌}
use Prim.Native.Nat.{◌+◌, ◌/◌, ◌≤◌, ◌<◌}
use native.Mathlib.Omega.{arith}
use lib.ListN.{length, drop}
use Rattle.session.specs.Holding.{holds}
use Rattle.session.proofs.Rules.{settled-holds}
use Rattle.running.specs.Samples.{samples_in, sample_at}
use Rattle.running.specs.Runs.{taken, on}
use Rattle.running.proofs.Read.{length-samples}
use Rattle.running.proofs.Kept.{taken-holds, taken-used, points-short}
use Rattle.running.proofs.On.{on-over, on_none, on-next}
use Rattle.running.proofs.runs.run_settled.Goals as goal

pub loop-i-init : goal.loop-i-init
loop-i-init c =
    let e = c.come_to-run.ensures in
    (rw e (omega arith), (ap (λ r. holds r.session) e ∙ settled-holds c.args.s c.requires, refl))

pub returns-then-is_over : goal.returns-then-is_over
returns-then-is_over c =
    let l = c.loop-i in
    let o = sym c.is_over.ensures ∙ c.if-is_over.true in
    let all = samples_in c.args.samples.now in
    sym (on-over c.args.wanted l.run o (drop l.i all)) ∙ l.invariant.1.1 ∙ ap (λ r. on c.args.wanted r all) c.come_to-run.ensures

pub take-run-requires-clause-points_bound : goal.take-run-requires-clause-points_bound
take-run-requires-clause-points_bound c =
    let o = sym c.is_over.ensures ∙ c.if-is_over.false in
    omega (arith, points-short c.args.wanted c.loop-i.run.answer o, c.ranges)

pub loop-i-preserved : goal.loop-i-preserved
loop-i-preserved c =
    let l = c.loop-i in
    let o = sym c.is_over.ensures ∙ c.if-is_over.false in
    let floats = c.args.samples.now in
    let a = sample_at floats l.i in
    let next : c.take-run.result ≡ taken l.run a = c.take-run.ensures ∙ ap (taken l.run) c.sample_at.ensures in
    let t : l.i < length floats / 3 = c.loop-i-test.true in
    let used : (taken l.run a).answer.used ≤ l.i + 1 = omega (arith, taken-used l.run a, l.invariant.0) in (
      subst (λ r. r.answer.used ≤ l.i + 1) (sym next) used,
      (
        ap (λ r. holds r.session) next ∙ taken-holds l.run a l.invariant.1.0,
        ap (λ r. on c.args.wanted r (drop (l.i + 1) (samples_in floats))) next
            ∙ sym (on-next c.args.wanted l.run o floats l.i (omega (arith, t)))
            ∙ l.invariant.1.1,
      ),
    )

pub returns : goal.returns
returns c =
    let l = c.loop-i in
    let all = samples_in c.args.samples.now in
    sym (on_none c.args.wanted l.run all l.i (omega (arith, length-samples c.args.samples.now))) ∙ l.invariant.1.1 ∙ ap (λ r. on c.args.wanted r all) c.come_to-run.ensures
