-- `host::answering::put_reported` meets its contract: the exact value, and the report's bits.
use mathlib.Core.List.{[], ◌∷◌}
use Rattle.image.proofs.Lengths.{length-exact_words}
use Rattle.host.specs.Answers.{reported_words}
use native.Mathlib.Omega.{arith}
use Rattle.image.proofs.Puts.{renamed, put_then}
use mathlib.Core.Path.{ap}
use Rattle.host.proofs.answering.put_reported.Goals as goal

pub returns : goal.returns
unfolding reported_words
returns c =
    let r = c.args.r in
    put_then c.put_exact.ensures (omega (arith, length-exact_words r.exact))
    (renamed (ap (λ w. w ∷ []) c.bits_of.ensures) c.put_u64.ensures)
