-- The tests of the held sums decide the statements: true is what the columns give, and zero is zero.
use mathlib.Core.Path.{◌≡◌, sym, ap, ◌∙◌}
use mathlib.Core.Bool.{true}
use native.Mathlib.Omega.{arith}
use lib.IntN.{ℤ}
use Rattle.integers.specs.Differences.{at}
use Rattle.exact.specs.declared.Exact.{Exact}
use Rattle.exact.specs.Numerator.{exact_of, numerator}
use Rattle.exact.proofs.Laws.{part-below, made, exact_of-numerator}
use Rattle.axis.specs.declared.Motion.{Motion}
use Rattle.axis.specs.Kinds.{Kind, of_position, of_velocity, value_of}
use Rattle.axis.specs.Formulas.{still, older_motion}
use Rattle.axis.specs.Holding.{older_holds}
use Rattle.axis.proofs.Agreement.{motions-same, motions-refl}
use Rattle.axis.proofs.Held.{held-true, true-held, held-value, older-value}
use Rattle.session.specs.declared.Session.{Session}
use Rattle.session.specs.Coordinates.{Coordinate, axis_of}
use Rattle.session.proofs.Values.{of-each}
use Rattle.epoch_session.specs.Records.{older_zero}
use Rattle.demands.specs.Records.{Zero, Means, HeldSums, NoHeldSums}
use Rattle.demands.proofs.Columns.{older-by-columns}
use Rattle.demands.proofs.Fields.{still-to, still-from}

-- ---- one value

means-to : {e : Exact} (z : ℤ) → e ≡ exact_of z → Means e z
unfolding numerator
means-to z h = record { part = rw h (omega (arith, part-below z)); value = made z h }

means-from : {e : Exact} (z : ℤ) → Means e z → e ≡ exact_of z
unfolding numerator
means-from {e} z m = sym (exact_of-numerator e m.part) ∙ ap exact_of m.value

-- a motion is what it is of each kind
motion-by : (m n : Motion) → ((kind : Kind) → value_of kind m ≡ value_of kind n) → m ≡ n
motion-by m n h = λ i. record { position = h of_position i; velocity = h of_velocity i }

-- ---- every axis

module _ (s : Session) where
  pub sums-to : ((k : Coordinate) → older_holds s.points (axis_of k s) ≡ true) → HeldSums s
  sums-to h k kind =
      let a = axis_of k s in
      means-to _ (held-value s.points a (held-true s.points a (h k)) kind ∙ ap exact_of (older-by-columns kind s.points (at a.samples)))

  pub sums-from : HeldSums s → (k : Coordinate) → older_holds s.points (axis_of k s) ≡ true
  sums-from h k =
      let a = axis_of k s in
      true-held s.points a (record {
        older = motion-by a.older (older_motion s.points a.samples) (λ kind.
            means-from _ (h k kind) ∙ ap exact_of (sym (older-by-columns kind s.points (at a.samples))) ∙ sym (older-value s.points a.samples kind));
      })

  pub no-sums-to : ((k : Coordinate) → older_zero (axis_of k s) ≡ true) → NoHeldSums s
  unfolding older_zero
  no-sums-to h k = let (p, v) = still-to (motions-same (axis_of k s).older still (h k)) in of-each (λ kind. Zero (value_of kind (axis_of k s).older)) p v

  pub no-sums-from : NoHeldSums s → (k : Coordinate) → older_zero (axis_of k s) ≡ true
  unfolding older_zero
  no-sums-from h k = rw (still-from (h k of_position, h k of_velocity)) (motions-refl still)
