-- The theorems about held sums apply to something: in a session of 3 points the sums are not zero, and a record of which one is off by a part counts as closed.
use mathlib.Core.Path.{◌≡◌, ap}
use mathlib.Core.List.{[], ◌∷◌}
use native.Mathlib.Omega.{arith}
use lib.IntN.{pos, nat_abs}
use lib.ListN.{replicate}
use Rattle.integers.specs.Differences.{at, ordinates, spread}
use Rattle.exact.specs.Numerator.{exact_of}
use Rattle.coefficients.specs.declared.Formula.TheVariants.{PositionCorrector, VelocityCorrector}
use Rattle.coefficients.proofs.Written.{written, weights-written}
use Rattle.axis.specs.declared.Axis.{Axis}
use Rattle.axis.specs.declared.Motion.{Motion}
use Rattle.axis.specs.Formulas.{axis_with, still}
use Rattle.axis.specs.Kinds.{of_position, of_velocity}
use Rattle.session.specs.declared.Session.{Session}
use Rattle.session.specs.declared.State.TheVariants.{Settled}
use Rattle.session.specs.Moves.{closed_session}
use Rattle.session.specs.Coordinates.{on_z}
use Rattle.demands.specs.Records.{older_sum, column}
use Rattle.demands.specs.Histories.{ours, predict, refine, step, event, after, history, beginning, calling}
use Rattle.demands.specs.Held.{HeldTrue}
use Rattle.demands.specs.Before.{bare, before}
use Rattle.demands.specs.Theorems.{refused7}
use Rattle.demands.proofs.Theorems.{our-calls}
use Rattle.demands.proofs.RoundExamples.{force, first, begun}
use Rattle.demands.proofs.StartExamples as E

-- ---- true where rounds opened it, and after two points of it

held : HeldTrue (E.opened begun)
held = our-calls.held.always closed_session our-calls.held.new (calling (refine (force (pos 12))) ∷ beginning first ∷ [])

-- with the samples 24, 12 and 12, newest first: 1330560 · 24 - 665280 · 12 and 26611200 · 24 - 6652800 · 12
position-columns : older_sum (column of_position 3) (at (pos 24 ∷ pos 12 ∷ pos 12 ∷ [])) 2 ≡ pos 23950080
unfolding older_sum written ordinates spread
position-columns = ap (λ ws. older_sum (at (ordinates ws)) (at (pos 24 ∷ pos 12 ∷ pos 12 ∷ [])) 2) (weights-written PositionCorrector 3)

velocity-columns : older_sum (column of_velocity 3) (at (pos 24 ∷ pos 12 ∷ pos 12 ∷ [])) 2 ≡ pos 558835200
unfolding older_sum written ordinates spread
velocity-columns = ap (λ ws. older_sum (at (ordinates ws)) (at (pos 24 ∷ pos 12 ∷ pos 12 ∷ [])) 2) (weights-written VelocityCorrector 3)

-- the record holds these: 23950080 parts, and 3 ticks and 79833600 parts
held-twice : (after ours (E.opened begun) E.twice).x.older ≡ record { position = record { whole = pos 0; part = 23950080 }; velocity = record { whole = pos 3; part = 79833600 } }
held-twice = (E.computed).older

-- ---- its answers are those of the calls as they were

same-answers : history before (bare (E.opened begun)) E.twice ≡ history ours (E.opened begun) E.twice
same-answers = our-calls.unchanged.histories (E.opened begun) held E.twice

-- ---- a record of one point that is all zero, but for one part in the held position on z

abbrev calm : Motion → Axis
calm older = axis_with (exact_of (pos 0)) (exact_of (pos 0)) older (replicate 9 (pos 0)) still

abbrev one_part : Motion
one_part = record { position = record { whole = pos 0; part = 1 }; velocity = exact_of (pos 0) }

abbrev off_on_z : Session
off_on_z =
    record {
      state = Settled;
      points = 1;
      tolerances = record { position = 1; velocity = 1 };
      limit = 1;
      accepted = 0;
      corrections = 0;
      x = calm still;
      y = calm still;
      z = calm one_part;
    }

untrue : ¬ HeldTrue off_on_z
unfolding older_sum
untrue h = omega (arith, ap nat_abs (h on_z of_position).value)

counts-as-closed : (step ours off_on_z predict ≡ off_on_z) × (event ours off_on_z predict ≡ refused7 predict)
counts-as-closed = our-calls.untrue_sums off_on_z untrue predict
