-- The tests of a record decide the statements: which records are open, settled or awaiting, and which are starting.
use mathlib.Core.Path.{◌≡◌, refl, sym, ap, ◌∙◌}
use mathlib.Core.Logic.{◌⊎◌, inl, inr, ⊎_elim}
use mathlib.Core.Bool.{true, false≢true}
use Prim.Native.Nat.{ℕ, ◌≤◌}
use native.Mathlib.Omega.{arith}
use borrow.Author.Tests.{eqb-true, eq-eqb}
use lib.IntN.{pos}
use Rattle.integers.specs.Tests.{joined}
use Rattle.integers.specs.Differences.{at}
use Rattle.exact.specs.declared.Exact.{Exact}
use Rattle.exact.specs.Numerator.{exact_of, same_exact}
use Rattle.exact.proofs.Laws.{same_true, same_refl}
use Rattle.axis.specs.declared.Axis.{Axis}
use Rattle.axis.specs.Formulas.{still}
use Rattle.axis.specs.Estimates.{in_range}
use Rattle.axis.specs.Ready.{Proper}
use Rattle.axis.proofs.Places.{places-by-rules}
use Rattle.axis.proofs.Sound.{KeepsAxis, holds-by-rules}
use Rattle.session.specs.declared.Session.{Session}
use Rattle.session.specs.declared.State.{State}
use Rattle.session.specs.declared.State.TheVariants.{Closed, Settled, Awaiting, Starting}
use Rattle.session.specs.Coordinates.{Coordinate, on_x, on_y, on_z, axis_of, motion_on}
use Rattle.session.specs.Moves.{nowhere, present_point, estimate_of}
use Rattle.session.specs.Holding.{state_holds, holds, is_settled, is_awaiting, settled, awaiting}
use Rattle.session.proofs.Coordinates.{on-each, point-by, present-on, estimate-on}
use Rattle.session.proofs.Values.{range-iff}
use Rattle.session.proofs.Rules.{KeepsRules, holding, counts-are, counts-hold, settled-holds, resting, settled-by, awaiting-holds, expecting, awaiting-by}
use Rattle.rules.specs.Rules.{Decides}
use Rattle.rules.proofs.Readings.{decides}
use Rattle.epoch_coefficients.specs.Formulas.{has_centre}
use Rattle.epoch_coefficients.proofs.Centre.{of-each}
use Rattle.epoch_session.specs.Records.{held_round, sums_zero, epoch_holds, axis_starts, starting}
use Rattle.epoch_session.proofs.Rules.{keeps-start, by-rules}
use Rattle.demands.specs.Records.{SampleInRange, Zero, Remainders, Filled, SettledRecord, AwaitingRecord, OpenRecord, StartingRecord}
use Rattle.demands.proofs.Ranges.{ProperPoint, range, present-range, track-range}
use Rattle.demands.proofs.Conditions.{settings}
use Rattle.demands.proofs.Fields.{samples-to, samples-from, empty-to, empty-from, zero-to, zero-from, still-to, still-from, remainders-to, remainders-from}
use Rattle.demands.proofs.Sums.{sums-to, sums-from, no-sums-to, no-sums-from}

-- ---- open records

nowhere-on : (k : Coordinate) → motion_on k nowhere ≡ still
unfolding nowhere
nowhere-on = on-each _ refl refl refl

module _ (s : Session) where
  -- the estimate, where its remainders are less than a tick
  estimate-proper : ((k : Coordinate) → Proper (axis_of k s).estimate) → ProperPoint (estimate_of s)
  unfolding estimate_of
  estimate-proper h = on-each _ (h on_x) (h on_y) (h on_z)

  proper : ((k : Coordinate) → Remainders (axis_of k s)) → ProperPoint (estimate_of s)
  proper r = estimate-proper (λ k. record { position = (r k).position; velocity = (r k).velocity })

  -- what a settled and an awaiting record both keep to
  filled-to : KeepsRules s → Filled s
  filled-to h =
      let c = counts-are s h.counts in
      let axis : (k : Coordinate) → KeepsAxis s.points (axis_of k s) = λ k. (holds-by-rules s.points (axis_of k s)).0 (h.axes k) in
      let r : (k : Coordinate) → Remainders (axis_of k s) = λ k. remainders-to (axis_of k s) (axis k).remainders in
      record {
        points = c.points;
        settings = ((c.tolerances.position, c.tolerances.velocity), c.limit);
        samples = λ k. samples-to (axis_of k s).samples (axis k).samples;
        accepted = c.accepted;
        remainders = r;
        present = (present-range s).yes.0 ((range-iff (present_point s)).1 (λ k. ap in_range (present-on s k) ∙ (axis k).present-point));
        estimate = (range (estimate_of s) (proper r)).yes.0 ((range-iff (estimate_of s)).1 (λ k. ap in_range (estimate-on s k) ∙ (axis k).estimate));
        empty = λ k. empty-to s.points (axis_of k s).samples (axis k).empty-places;
        older = sums-to s (λ k. (axis k).older);
      }

  filled-from : Filled s → KeepsRules s
  filled-from h =
      let p = (range-iff (present_point s)).0 ((present-range s).yes.1 h.present) in
      let e = (range-iff (estimate_of s)).0 ((range (estimate_of s) (proper h.remainders)).yes.1 h.estimate) in
      record {
        counts = counts-hold s (record {
          points = h.points;
          tolerances = record { position = h.settings.0.0; velocity = h.settings.0.1 };
          limit = h.settings.1;
          accepted = h.accepted;
        });
        axes = λ k. (holds-by-rules s.points (axis_of k s)).1 (record {
          remainders = remainders-from (axis_of k s) (h.remainders k);
          samples = samples-from (axis_of k s).samples (h.samples k);
          empty-places = empty-from s.points (axis_of k s).samples (h.empty k);
          present-point = sym (ap in_range (present-on s k)) ∙ p k;
          estimate = sym (ap in_range (estimate-on s k)) ∙ e k;
          older = sums-from s h.older k;
        });
      }

  -- ---- settled, awaiting, and so open

  pub settled-record : Decides (settled s) (SettledRecord s)
  settled-record = decides (to, from)
    where
      to : settled s ≡ true → SettledRecord s
      to t =
          let r = resting s t in
          record {
            filled = filled-to (holding s (settled-holds s t)).rules;
            state = r.state;
            estimate = λ k. still-to (sym (estimate-on s k) ∙ ap (motion_on k) r.estimate ∙ nowhere-on k);
            corrections = r.corrections;
          }

      from : SettledRecord s → settled s ≡ true
      from h =
          settled-by s (filled-from h.filled) (record {
            state = h.state;
            estimate = point-by (estimate_of s) nowhere (λ k. estimate-on s k ∙ still-from (h.estimate k) ∙ sym (nowhere-on k));
            corrections = h.corrections;
          })

  pub awaiting-record : Decides (awaiting s) (AwaitingRecord s)
  awaiting-record = decides (to, from)
    where
      to : awaiting s ≡ true → AwaitingRecord s
      to t =
          let r = expecting s t in
          record { filled = filled-to (holding s (awaiting-holds s t)).rules; state = r.state; corrections = r.corrections; estimate = r.estimate; accepted = r.accepted }

      from : AwaitingRecord s → awaiting s ≡ true
      from h = awaiting-by s (filled-from h.filled) (record { state = h.state; corrections = h.corrections; estimate = h.estimate; accepted = h.accepted })

  -- an open record, whichever of the two it is
  pub open-filled : OpenRecord s → Filled s
  open-filled = ⊎_elim (λ h. h.filled) (λ h. h.filled)

  -- its state is one of the two
  one_of : (k : State) → state_holds k s ≡ true → (is_settled k ≡ true) ⊎ (is_awaiting k ≡ true)
  one_of Closed h = absurd (false≢true h)
  one_of Settled h = inl refl
  one_of Awaiting h = inr refl
  one_of Starting h = absurd (false≢true h)

  pub open-record : Decides (holds s) (OpenRecord s)
  unfolding settled awaiting
  open-record = decides (to, ⊎_elim (λ h. settled-holds s (settled-record.yes.1 h)) (λ h. awaiting-holds s (awaiting-record.yes.1 h)))
    where
      to : holds s ≡ true → OpenRecord s
      to t = ⊎_elim (λ k. inl (settled-record.yes.0 (simp joined (k, t)))) (λ k. inr (awaiting-record.yes.0 (simp joined (k, t)))) (one_of s.state (holding s t).state)

-- ---- starting records

-- one coordinate
record StartsOn (p : ℕ) (a : Axis) : Type 0 where
  sums : Zero a.first × Zero a.second
  samples : (i : ℕ) → SampleInRange (at a.samples i)
  empty : (i : ℕ) → p ≤ i → at a.samples i ≡ pos 0
  whole : (a.estimate.position.part ≡ 0) × (a.estimate.velocity.part ≡ 0)
  epoch : in_range a.estimate ≡ true

same-zero : {e : Exact} → Zero e → same_exact e (exact_of (pos 0)) ≡ true
same-zero z = ap (λ e. same_exact e (exact_of (pos 0))) (zero-from z) ∙ same_refl (exact_of (pos 0))

module _ (p : ℕ) (a : Axis) where
  axis-to : axis_starts p a ≡ true → StartsOn p a
  unfolding axis_starts sums_zero epoch_holds
  axis-to t =
      let ((f, g), (x, (y, (v, r)))) = simp joined at t in
      let (small, empty) = simp joined at (sym (places-by-rules p a.samples) ∙ x) in
      record {
        sums = (zero-to (same_true a.first (exact_of (pos 0)) f), zero-to (same_true a.second (exact_of (pos 0)) g));
        samples = samples-to a.samples small;
        empty = empty-to p a.samples empty;
        whole = (eqb-true a.estimate.position.part 0 y, eqb-true a.estimate.velocity.part 0 v);
        epoch = r;
      }

  axis-from : StartsOn p a → axis_starts p a ≡ true
  unfolding axis_starts sums_zero epoch_holds
  axis-from h =
      simp joined (
        (same-zero h.sums.0, same-zero h.sums.1),
        (
          places-by-rules p a.samples ∙ simp joined (samples-from a.samples h.samples, empty-from p a.samples h.empty),
          (eq-eqb a.estimate.position.part 0 h.whole.0, (eq-eqb a.estimate.velocity.part 0 h.whole.1, h.epoch)),
        ),
      )

-- p has a centre
abbrev Centred : ℕ → Type 0
Centred p = (p ≡ 3) ⊎ ((p ≡ 5) ⊎ ((p ≡ 7) ⊎ (p ≡ 9)))

centred-to : (p : ℕ) → has_centre p ≡ true → Centred p
centred-to = of-each Centred (inl refl) (inr (inl refl)) (inr (inr (inl refl))) (inr (inr (inr refl)))

centred-from : (p : ℕ) → Centred p → has_centre p ≡ true
unfolding has_centre
centred-from p = ⊎_elim (ap has_centre) (⊎_elim (ap has_centre) (⊎_elim (ap has_centre) (ap has_centre)))

module _ (s : Session) where
  epoch-proper : ((k : Coordinate) → ((axis_of k s).estimate.position.part ≡ 0) × ((axis_of k s).estimate.velocity.part ≡ 0)) → ProperPoint (estimate_of s)
  epoch-proper w = estimate-proper s (λ k. record { position = omega (arith, (w k).0); velocity = omega (arith, (w k).1) })

  pub starting-record : Decides (starting s) (StartingRecord s)
  starting-record = decides (to, from)
    where
      to : starting s ≡ true → StartingRecord s
      to t =
          let h = keeps-start s t in
          let kept = on-each (λ k. axis_starts s.points (axis_of k s) ≡ true) h.on-x h.on-y h.on-z in
          let on : (k : Coordinate) → StartsOn s.points (axis_of k s) = λ k. axis-to s.points (axis_of k s) (kept k) in
          record {
            state = h.state;
            points = centred-to s.points h.centred;
            settings = (settings s.tolerances s.limit).yes.0 h.settings;
            whole = λ k. (on k).whole;
            epoch = (range (estimate_of s) (epoch-proper (λ k. (on k).whole))).yes.0 ((range-iff (estimate_of s)).1 (λ k. ap in_range (estimate-on s k) ∙ (on k).epoch));
            rounds = h.rounds;
            samples = λ k. (on k).samples;
            accepted = h.accepted;
            sums = λ k. (on k).sums;
            older = no-sums-to s h.older;
            empty = λ k. (on k).empty;
            track = (track-range (held_round s)).yes.0 h.points-range;
          }

      from : StartingRecord s → starting s ≡ true
      from h =
          let e = (range-iff (estimate_of s)).0 ((range (estimate_of s) (epoch-proper h.whole)).yes.1 h.epoch) in
          let on : (k : Coordinate) → axis_starts s.points (axis_of k s) ≡ true = λ k. axis-from s.points (axis_of k s) (record {
            sums = h.sums k;
            samples = h.samples k;
            empty = h.empty k;
            whole = h.whole k;
            epoch = sym (ap in_range (estimate-on s k)) ∙ e k;
          }) in
          by-rules s (record {
            state = h.state;
            centred = centred-from s.points h.points;
            settings = (settings s.tolerances s.limit).yes.1 h.settings;
            accepted = h.accepted;
            rounds = h.rounds;
            older = no-sums-from s h.older;
            on-x = on on_x;
            on-y = on on_y;
            on-z = on on_z;
            points-range = (track-range (held_round s)).yes.1 h.track;
          })
