-- `host::samples::open_from` meets its contract: the floats are counted, read and handed to the opening.
use mathlib.Core.Path.{◌≡◌, sym, ap, ◌∙◌}
use Prim.Native.Nat.{◌≤◌}
use native.Mathlib.Omega.{arith}
use borrow.Author.Rules.{rules}
use lib.ListN.{length}
use lib.Seq.{length-take-le}
use Rattle.session.specs.Requests.{request}
use Rattle.steps.specs.Steps.{open_of}
use Rattle.host.specs.Samples.{floats_in}
use Rattle.host.proofs.Floats.{count_fits}
use Rattle.host.proofs.samples.open_from.Goals as goal

pub floats_in-floats-requires : goal.floats_in-floats-requires
floats_in-floats-requires c =
    let a = c.args in
    rw c.count-n.ensures (count_fits a.points (length a.bytes.now))

-- the count is at most the array's length
pub slice_bounds-floats-end : goal.slice_bounds-floats-end
slice_bounds-floats-end c =
    let a = c.args in
    let long : length c.floats_in-floats.result ≡ 27 = search rules in
    omega (arith, c.count-n.ensures, (count_fits a.points (length a.bytes.now)).0)

pub returns : goal.returns
returns c =
    let a = c.args in
    c.open_step.ensures
    ∙ ap (λ xs. open_of (request a.points a.tolerances a.limit a.point xs))
    (c.floats_in-floats.ensures ∙ ap (λ n. floats_in n a.bytes.now) c.count-n.ensures)

pub slice_bounds-open_step-end : goal.slice_bounds-open_step-end
slice_bounds-open_step-end c =
    let a = c.args in
    let long : length c.floats_in-floats.result ≡ 27 = search rules in
    let within : c.count-n.result ≤ length c.floats_in-floats.result = omega (arith, c.count-n.ensures, (count_fits a.points (length a.bytes.now)).0) in
    sym (length-take-le c.count-n.result c.floats_in-floats.result within)
