-- The numbers of a record that stands fit their words, and so do those of the closed one.
use mathlib.Core.Path.{◌≡◌, sym, subst}
use mathlib.Core.Bool.{true}
use mathlib.Core.List.{List, []}
use Prim.Native.Nat.{ℕ, ◌≤◌, ◌<◌, ◌^◌, zero-le}
use native.Mathlib.Omega.{arith}
use lib.Dec.{T, leb, lit<}
use lib.IntN.{ℤ, pos}
use mir.Syntax.{w64}
use mir.Val.{SFits}
use Rattle.integers.specs.Size.{sfits-of-size}
use Rattle.integers.specs.Differences.{at}
use Rattle.integers.proofs.Differences.{past-taken}
use Rattle.integers.specs.Tests.{joined}
use Rattle.exact.specs.declared.Exact.{Exact}
use Rattle.exact.specs.Numerator.{exact_of, Bounded}
use Rattle.exact.proofs.Laws.{same_true}
use Rattle.exact.proofs.Bounds.{widen, bounded-fits, split-bounded}
use Rattle.coefficients.specs.Formulas.{Small}
use Rattle.epoch_coefficients.proofs.Centre.{at-most-9}
use Rattle.axis.specs.declared.Motion.{Motion}
use Rattle.axis.specs.declared.Axis.{Axis}
use Rattle.axis.specs.declared.Tolerances.{Tolerances}
use Rattle.axis.specs.Kinds.{Kind, value_of, tolerance_of}
use Rattle.axis.specs.Formulas.{still, empty_axis}
use Rattle.axis.specs.Holding.{axis_holds}
use Rattle.axis.specs.Ready.{Placed, Tolerable}
use Rattle.axis.proofs.Agreement.{motions-same}
use Rattle.axis.proofs.Held.{held-bounded}
use Rattle.axis.proofs.Sound.{axis-ready, axis-held, estimate-placed}
use Rattle.axis.proofs.Kept.{still_placed}
use Rattle.session.specs.declared.Session.{Session}
use Rattle.session.specs.Coordinates.{axis_of}
use Rattle.session.specs.Moves.{closed_session}
use Rattle.session.specs.Holding.{holds, settled, awaiting}
use Rattle.session.proofs.Coordinates.{on-each}
use Rattle.session.proofs.Values.{of-each}
use Rattle.session.proofs.Rules.{settings-hold, holding, counts-are, settled-holds, resting, awaiting-holds, expecting}
use Rattle.epoch_session.specs.Records.{sums_zero, older_zero, axis_starts, starting}
use Rattle.epoch_session.proofs.Ready.{axis-starting}
use Rattle.epoch_session.proofs.Rules.{keeps-start}
use Rattle.image.specs.Shapes.{ExactFits, MotionFits, AxisFits, FitsWords}

-- ---- one value, one motion, samples

exact-fits : {h : ℕ} {e : Exact} → Bounded h e → T (leb h (2 ^ 62)) → ExactFits e
exact-fits {h} {e} b t = record { whole = bounded-fits e (widen (2 ^ 62) b t); part = omega (arith, b.small) }

motion-fits : (m : Motion) → Placed m → MotionFits m
motion-fits m p = of-each (λ kind. ExactFits (value_of kind m)) (exact-fits p.position tt) (exact-fits p.velocity tt)

still-fits : MotionFits still
still-fits = motion-fits still still_placed

zero-fits : ExactFits (exact_of (pos 0))
zero-fits = exact-fits (split-bounded (pos 0) (sfits-of-size (lit< tt))) tt

samples-fit : (xs : List ℤ) → Small xs → (i : ℕ) → SFits w64 (at xs i)
samples-fit xs small i = sfits-of-size (omega (arith, small.small i))

-- ---- an axis: one that holds, one that starts, and the empty one

holding-fits : (p : ℕ) (a : Axis) → axis_holds p a ≡ true → (1 ≤ p) × (p ≤ 9) → AxisFits a
holding-fits p a t some =
    let r = axis-ready p a t some in
    record {
      first = exact-fits r.first tt;
      second = exact-fits r.second tt;
      older = λ kind. exact-fits (held-bounded p a (axis-held p a t) kind some r.small) tt;
      samples = samples-fit a.samples r.small;
      estimate = motion-fits a.estimate (estimate-placed p a t);
    }

starting-fits : (p : ℕ) (a : Axis) → axis_starts p a ≡ true → older_zero a ≡ true → AxisFits a
unfolding sums_zero older_zero
starting-fits p a t o =
    let r = axis-starting p a t in
    let (f, g) = simp joined at r.sums in
    record {
      first = subst ExactFits (sym (same_true a.first (exact_of (pos 0)) f)) zero-fits;
      second = subst ExactFits (sym (same_true a.second (exact_of (pos 0)) g)) zero-fits;
      older = subst MotionFits (sym (motions-same a.older still o)) still-fits;
      samples = samples-fit a.samples r.small;
      estimate = motion-fits a.estimate r.epoch-range;
    }

empty-fits : AxisFits empty_axis
unfolding empty_axis
empty-fits =
    record {
      first = zero-fits;
      second = zero-fits;
      older = still-fits;
      samples = λ i. subst (SFits w64) (sym (past-taken 0 9 [] i zero-le)) (sfits-of-size (lit< tt));
      estimate = still-fits;
    }

-- ---- a record: one that holds, one that starts, and the closed one

tolerances-fit : (t : Tolerances) → Tolerable t → (kind : Kind) → tolerance_of kind t < 2 ^ 64
tolerances-fit t h = of-each (λ kind. tolerance_of kind t < 2 ^ 64) (omega (arith, h.position)) (omega (arith, h.velocity))

holds-fit : (s : Session) → holds s ≡ true → s.corrections ≤ s.limit → FitsWords s
holds-fit s t l =
    let h = (holding s t).rules in
    let c = counts-are s h.counts in
    record {
      points = omega (arith, c.points.1);
      tolerances = tolerances-fit s.tolerances c.tolerances;
      limit = omega (arith, c.limit.1);
      accepted = omega (arith, c.accepted);
      corrections = omega (arith, c.limit.1);
      axes = λ k. holding-fits s.points (axis_of k s) (h.axes k) c.points;
    }

pub settled-fits : (s : Session) → settled s ≡ true → FitsWords s
settled-fits s t = holds-fit s (settled-holds s t) (omega (arith, (resting s t).corrections))

pub awaiting-fits : (s : Session) → awaiting s ≡ true → FitsWords s
awaiting-fits s t = holds-fit s (awaiting-holds s t) (omega (arith, (expecting s t).corrections))

pub start_fits : (s : Session) → starting s ≡ true → FitsWords s
start_fits s t =
    let h = keeps-start s t in
    let (e, l) = (settings-hold s.tolerances s.limit).0 h.settings in
    let axis = on-each (λ k. axis_starts s.points (axis_of k s) ≡ true) h.on-x h.on-y h.on-z in
    record {
      points = omega (arith, at-most-9 h.centred);
      tolerances = tolerances-fit s.tolerances e;
      limit = omega (arith, l.1);
      accepted = omega (arith, h.accepted);
      corrections = omega (arith, h.rounds, l.1);
      axes = λ k. starting-fits s.points (axis_of k s) (axis k) (h.older k);
    }

pub closed-fits : FitsWords closed_session
unfolding closed_session
closed-fits =
    record {
      points = lit< tt;
      tolerances = of-each _ (lit< tt) (lit< tt);
      limit = lit< tt;
      accepted = lit< tt;
      corrections = lit< tt;
      axes = on-each _ empty-fits empty-fits empty-fits;
    }
