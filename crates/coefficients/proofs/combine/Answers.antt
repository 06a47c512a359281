-- `coefficients::combine` meets its contract. The loop's invariant: the sum is that of the weights passed.
use Rattle.std.proofs.Common.{◌≡◌, refl, add-one, arith, rules, length, w64}
use mir.ValLaws.{to_z-of_z}
use Rattle.integers.specs.Differences.{by_samples}
use Rattle.coefficients.proofs.Turn.{turn}
use Rattle.coefficients.proofs.combine.Goals as goal

pub loop-i-init : goal.loop-i-init
unfolding by_samples
loop-i-init c = refl

pub overflow_mul-sum : goal.overflow_mul-sum
overflow_mul-sum c =
    let e : length c.args.row ≡ 9 = search rules in
    let t = turn c.args.row c.args.samples c.args.skip _ c.requires.row_bound c.requires.small (omega arith) c.loop-i.invariant in
    rw (to_z-of_z w64 _ t.weight, to_z-of_z w64 _ t.sample) t.product

pub overflow_add-sum-in-loop-i : goal.overflow_add-sum-in-loop-i
overflow_add-sum-in-loop-i c =
    let e : length c.args.row ≡ 9 = search rules in
    let t = turn c.args.row c.args.samples c.args.skip _ c.requires.row_bound c.requires.small (omega arith) c.loop-i.invariant in
    rw (to_z-of_z w64 _ t.weight, to_z-of_z w64 _ t.sample, to_z-of_z w64 _ t.product) t.summed

pub loop-i-preserved : goal.loop-i-preserved
loop-i-preserved c =
    let e : length c.args.row ≡ 9 = search rules in
    let t = turn c.args.row c.args.samples c.args.skip _ c.requires.row_bound c.requires.small (omega arith) c.loop-i.invariant in
    rw (add-one, to_z-of_z w64 _ t.weight, to_z-of_z w64 _ t.sample, to_z-of_z w64 _ t.product, to_z-of_z w64 _ t.summed) t.next
