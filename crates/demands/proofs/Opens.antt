-- A successful `open` leaves a record that begins at the origin that was asked for, with no point accepted; and which float is which opening sample.
use mathlib.Core.Path.{◌≡◌, refl, sym, ap, ◌∙◌}
use mathlib.Core.Logic.{inl}
use Prim.Native.Nat.{ℕ, ◌+◌, ◌*◌, ◌-◌, ◌<◌}
use native.Mathlib.Omega.{arith}
use lib.ListN.{length, get_or}
use lib.Ieee.{Float}
use Rattle.integers.specs.Differences.{at}
use Rattle.integers.proofs.Differences.{at-taken}
use Rattle.ticks.specs.Round.{rounded_of, ticks_in}
use Rattle.axis.specs.Formulas.{places, opened_axis}
use Rattle.session.specs.declared.Session.{Session}
use Rattle.session.specs.Moves.{present_point, opened_session}
use Rattle.session.proofs.Present.{present-opened}
use Rattle.steps.specs.Answers.{opening_answer}
use Rattle.session.specs.Requests.{exact_point, Request}
use Rattle.steps.specs.Opening.{opened_with}
use Rattle.steps.specs.Refusals.{open_refusal}
use Rattle.steps.specs.Steps.{open_by, open_of}
use Rattle.steps.proofs.Answers.{open-answers}
use Rattle.steps.proofs.Given.{exact-point-placed, at-samples}
use Rattle.steps.proofs.Left.{open-settles}
use Rattle.steps.proofs.Refusals.{opened-range}
use Rattle.demands.specs.Coordinates.{position_of, velocity_of}
use Rattle.session.specs.Coordinates.{Coordinate, on_x, on_y, on_z, axis_of}
use Rattle.demands.specs.ClosedForm.{Begins, place, opening_samples, origin}
use Rattle.demands.proofs.Records.{settled-record}
use Rattle.std.specs.Prelude.{Ok}

module _ (r : Request) where
  abbrev session : Session
  session = opened_with r.points r.tolerances r.limit (exact_point r.point) r.floats

  -- the answer's number is the refusal's
  pub number_is : (opening_answer (open_of r).answer).number ≡ open_refusal r
  number_is = ap (λ a. a.number) (open-answers r)

  module _ (e : (open_of r).answer ≡ Ok tt) where
    not-refused : open_refusal r ≡ 0
    not-refused = sym number_is ∙ ap (λ a. (opening_answer a).number) e

    opened : (open_of r).session ≡ session
    unfolding open_of
    opened = ap (λ n. (open_by n r).session) not-refused

    present : present_point (open_of r).session ≡ exact_point r.point
    unfolding opened_with
    present =
        ap present_point opened
        ∙ present-opened r.points r.tolerances r.limit (exact_point r.point) _ _ _ (exact-point-placed r.point (opened-range r not-refused))

    samples-are : (k : Coordinate) → (axis_of k session).samples ≡ places r.points (opening_samples r k)
    unfolding opened_with opened_session opened_axis
    samples-are on_x = refl
    samples-are on_y = refl
    samples-are on_z = refl

    pub open-begins : Begins (origin r) (open_of r).session
    unfolding opened_with opened_session
    open-begins =
        record {
          held = inl ((settled-record (open_of r).session).yes.0 (open-settles r not-refused));
          points = ap (λ s. s.points) opened;
          position = λ k. ap (position_of k) present;
          velocity = λ k. ap (velocity_of k) present;
          samples = λ k i l. ap (λ s. at (axis_of k s).samples i) opened ∙ ap (λ xs. at xs i) (samples-are k) ∙ at-taken r.points (9 - r.points) (opening_samples r k) i l;
        }

    pub open-counts : ((open_of r).session.accepted ≡ 0) × ((open_of r).session.corrections ≡ 0)
    unfolding opened_with opened_session
    open-counts = (ap (λ s. s.accepted) opened, ap (λ s. s.corrections) opened)

-- three floats for each back point, the oldest point first
pub opening-sample : (r : Request) (k : Coordinate) (i : ℕ) (d : Float) → i < r.points → length r.floats ≡ 3 * r.points →
    at (opening_samples r k) i ≡ ticks_in (rounded_of (get_or r.floats (3 * (r.points - 1 - i) + place k) d))
opening-sample r k i d l e = at-samples r.points (place k) i r.floats d l (within k)
  where
    within : (k : Coordinate) → 3 * (r.points - 1 - i) + place k < length r.floats
    within on_x = omega arith
    within on_y = omega arith
    within on_z = omega arith
