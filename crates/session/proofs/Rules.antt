-- What a record that holds is known to be, rule by rule, and that the arithmetic of the calls is then safe.
use mathlib.Core.Path.{◌≡◌, refl, sym, ap, ◌∙◌}
use mathlib.Core.Logic.{◌↔◌}
use mathlib.Core.Bool.{Bool, true, false, not, ◌||◌, false≢true}
use Prim.Native.Nat.{ℕ, ◌≤◌, ◌<◌}
use native.Mathlib.Omega.{arith}
use borrow.Author.Tests.{leb-true, le-leb, ltb-true, lt-ltb, eqb-true, eq-eqb}
use lib.Dec.{eqb}
use Rattle.integers.specs.Tests.{◌and◌, agree, joined}
use Rattle.axis.specs.declared.Tolerances.{Tolerances}
use Rattle.axis.specs.Estimates.{in_range}
use Rattle.axis.specs.Ready.{Ready, Held, Tolerable}
use Rattle.axis.specs.Holding.{remainders_hold, samples_small, empty_zero, older_holds, axis_holds}
use Rattle.session.specs.declared.Point.{Point}
use Rattle.session.specs.declared.Session.{Session}
use Rattle.session.specs.declared.State.{State}
use Rattle.session.specs.declared.State.TheVariants.{Closed, Settled, Awaiting, Starting}
use Rattle.session.specs.Coordinates.{Coordinate, on_x, on_y, on_z, axis_of}
use Rattle.session.specs.Numbers.{points_hold, settings_hold, most_points}
use Rattle.session.specs.Moves.{nowhere, present_point, estimate_of, predicted_point, point_in_range}
use Rattle.session.specs.Holding.{counts_hold, same_point, settled_holds, estimate_begins, awaiting_holds, state_holds, holds, is_settled, is_awaiting, settled, awaiting}
use Rattle.session.specs.Ready.{ReadySession, Waiting}
use Rattle.axis.proofs.Sound.{KeepsAxis, holds-by-rules, axis-ready, axis-held, estimate-placed}
use Rattle.session.proofs.Coordinates.{on-each, coordinates-iff, present-on, estimate-on}
use Rattle.session.proofs.Values.{range-by-axes, range-iff, same-point-true, same_point_lem}

-- ---- numbers

pub points-hold : (p : ℕ) → (points_hold p ≡ true) ↔ ((1 ≤ p) × (p ≤ 9))
unfolding points_hold
points-hold p = (
  (λ h. let (a, b) = simp joined at h in (leb-true 1 p a, leb-true p 9 b)),
  (λ h. simp joined (le-leb 1 p h.0, le-leb p 9 h.1)),
)

pub settings-hold : (t : Tolerances) (limit : ℕ) → (settings_hold t limit ≡ true) ↔ (Tolerable t × ((1 ≤ limit) × (limit ≤ 8)))
unfolding settings_hold
settings-hold t limit = (
  (λ h.
      let (p, (v, (b, c))) = simp joined at h in
      (record { position = leb-true t.position 1048576 p; velocity = leb-true t.velocity 1048576 v }, (leb-true 1 limit b, leb-true limit 8 c))),
  (λ h. simp joined (le-leb t.position 1048576 h.0.position, (le-leb t.velocity 1048576 h.0.velocity, (le-leb 1 limit h.1.0, le-leb limit 8 h.1.1)))),
)

-- ---- points

pub axes-in-range : (q : Point) → (point_in_range q ≡ true) ↔ ((in_range q.x ≡ true) × ((in_range q.y ≡ true) × (in_range q.z ≡ true)))
axes-in-range q = rw (range-by-axes q) ((λ h. simp joined at h), (λ h. simp joined h))

-- ---- every rule that a record that holds keeps

-- those of every state
pub record KeepsRules (s : Session) : Type 0 where
  pub counts : counts_hold s ≡ true
  pub axes : (k : Coordinate) → axis_holds s.points (axis_of k s) ≡ true

pub record Holding (s : Session) : Type 0 where
  pub rules : KeepsRules s
  pub state : state_holds s.state s ≡ true

pub holding : (s : Session) → holds s ≡ true → Holding s
unfolding holds
holding s h =
    let (c, ((xs, (ys, zs)), ((xr, (yr, zr)), (p, (e, ((xz, (yz, zz)), ((xo, (yo, zo)), st))))))) = simp joined at h in
    let axes : (k : Coordinate) → KeepsAxis s.points (axis_of k s) = λ k. record {
      samples = on-each (λ k. samples_small (axis_of k s).samples ≡ true) xs ys zs k;
      remainders = on-each (λ k. remainders_hold (axis_of k s) ≡ true) xr yr zr k;
      present-point = sym (ap in_range (present-on s k)) ∙ (range-iff (present_point s)).0 p k;
      estimate = sym (ap in_range (estimate-on s k)) ∙ (range-iff (estimate_of s)).0 e k;
      empty-places = on-each (λ k. empty_zero s.points (axis_of k s).samples ≡ true) xz yz zz k;
      older = on-each (λ k. older_holds s.points (axis_of k s) ≡ true) xo yo zo k;
    } in
    record { rules = record { counts = c; axes = λ k. (holds-by-rules s.points (axis_of k s)).1 (axes k) }; state = st }

also : {a b : Bool} → a ≡ true → b ≡ true → (a and b) ≡ true
also p q = simp joined (p, q)

pub holds_by : (s : Session) → Holding s → holds s ≡ true
unfolding holds
holds_by s h =
    let rule : (k : Coordinate) → KeepsAxis s.points (axis_of k s) = λ k. (holds-by-rules s.points (axis_of k s)).0 (h.rules.axes k) in
    also h.rules.counts
    (also ((coordinates-iff (λ k. samples_small (axis_of k s).samples)).1 (λ k. (rule k).samples))
    (also ((coordinates-iff (λ k. remainders_hold (axis_of k s))).1 (λ k. (rule k).remainders))
    (also ((range-iff (present_point s)).1 (λ k. ap in_range (present-on s k) ∙ (rule k).present-point))
    (also ((range-iff (estimate_of s)).1 (λ k. ap in_range (estimate-on s k) ∙ (rule k).estimate))
    (also ((coordinates-iff (λ k. empty_zero s.points (axis_of k s).samples)).1 (λ k. (rule k).empty-places))
    (also ((coordinates-iff (λ k. older_holds s.points (axis_of k s))).1 (λ k. (rule k).older))
    h.state))))))

-- the paper's rules, one for all axes after another, are the code's tests, one axis after another
pub as-tested : (s : Session) → holds s ≡ (counts_hold s and axis_holds s.points s.x and axis_holds s.points s.y and axis_holds s.points s.z and state_holds s.state s)
as-tested s =
    agree (holds s) (counts_hold s and axis_holds s.points s.x and axis_holds s.points s.y and axis_holds s.points s.z and state_holds s.state s)
    (λ t. let h = holding s t in simp joined (h.rules.counts, (h.rules.axes on_x, (h.rules.axes on_y, (h.rules.axes on_z, h.state)))))
    (λ t. let (c, (x, (y, (z, k)))) = simp joined at t in holds_by s (record { rules = record { counts = c; axes = on-each _ x y z }; state = k }))

-- ---- the counts

pub record Counts (s : Session) : Type 0 where
  pub points : (1 ≤ s.points) × (s.points ≤ 9)
  pub tolerances : Tolerable s.tolerances
  pub limit : (1 ≤ s.limit) × (s.limit ≤ 8)
  pub accepted : s.accepted ≤ most_points

pub counts-are : (s : Session) → counts_hold s ≡ true → Counts s
unfolding counts_hold
counts-are s h =
    let (p, (e, a)) = simp joined at h in
    let (t, l) = (settings-hold s.tolerances s.limit).0 e in
    record { points = (points-hold s.points).0 p; tolerances = t; limit = l; accepted = leb-true s.accepted most_points a }

pub counts-hold : (s : Session) → Counts s → counts_hold s ≡ true
unfolding counts_hold
counts-hold s c =
    simp joined ((points-hold s.points).1 c.points, ((settings-hold s.tolerances s.limit).1 (c.tolerances, c.limit), le-leb s.accepted most_points c.accepted))

-- ---- the arithmetic is safe

pub ready : (s : Session) → KeepsRules s → ReadySession s
ready s h =
    let some = (counts-are s h.counts).points in
    let axis : (k : Coordinate) → Ready s.points (axis_of k s) = λ k. axis-ready s.points (axis_of k s) (h.axes k) some in
    let held : (k : Coordinate) → Held s.points (axis_of k s) = λ k. axis-held s.points (axis_of k s) (h.axes k) in
    record { on-x = axis on_x; on-y = axis on_y; on-z = axis on_z; held_x = held on_x; held-y = held on_y; held-z = held on_z }

-- ---- a settled record

pub record Resting (s : Session) : Type 0 where
  pub state : s.state ≡ Settled
  pub estimate : estimate_of s ≡ nowhere
  pub corrections : s.corrections ≡ 0

settled-state : (k : State) → is_settled k ≡ true → k ≡ Settled
settled-state Closed e = absurd (false≢true e)
settled-state Settled e = refl
settled-state Awaiting e = absurd (false≢true e)
settled-state Starting e = absurd (false≢true e)

pub settled-holds : (s : Session) → settled s ≡ true → holds s ≡ true
unfolding settled
settled-holds s t = let (k, h) = simp joined at t in h

pub settled-ready : (s : Session) → settled s ≡ true → ReadySession s
settled-ready s t = ready s (holding s (settled-holds s t)).rules

pub resting : (s : Session) → settled s ≡ true → Resting s
unfolding settled settled_holds
resting s t =
    let (k, h) = simp joined at t in
    let e = settled-state s.state k in
    let (q, c) = simp joined at (ap (λ k. state_holds k s) (sym e) ∙ (holding s h).state) in
    record { state = e; estimate = same-point-true (estimate_of s) nowhere q; corrections = eqb-true s.corrections 0 c }

pub settled-by : (s : Session) → KeepsRules s → Resting s → settled s ≡ true
unfolding settled settled_holds
settled-by s h r =
    let k : settled_holds s ≡ true = simp joined (same_point_lem (estimate_of s) nowhere r.estimate, eq-eqb s.corrections 0 r.corrections) in
    simp joined (ap is_settled r.state, holds_by s (record { rules = h; state = ap (λ k. state_holds k s) r.state ∙ k }))

-- ---- an awaiting record

pub record Expecting (s : Session) : Type 0 where
  pub state : s.state ≡ Awaiting
  pub corrections : s.corrections < s.limit
  pub estimate : s.corrections ≡ 0 → estimate_of s ≡ predicted_point s
  pub accepted : s.accepted < most_points

awaiting-state : (k : State) → is_awaiting k ≡ true → k ≡ Awaiting
awaiting-state Closed e = absurd (false≢true e)
awaiting-state Settled e = absurd (false≢true e)
awaiting-state Awaiting e = refl
awaiting-state Starting e = absurd (false≢true e)

pub awaiting-holds : (s : Session) → awaiting s ≡ true → holds s ≡ true
unfolding awaiting
awaiting-holds s t = let (k, h) = simp joined at t in h

begins : (s : Session) → estimate_begins s ≡ true → s.corrections ≡ 0 → estimate_of s ≡ predicted_point s
unfolding estimate_begins
begins s b e = same-point-true (estimate_of s) (predicted_point s) (sym (ap (λ t. not t || same_point (estimate_of s) (predicted_point s)) (eq-eqb s.corrections 0 e)) ∙ b)

begun : (s : Session) → (s.corrections ≡ 0 → estimate_of s ≡ predicted_point s) → estimate_begins s ≡ true
unfolding estimate_begins
begun s f = by (eqb s.corrections 0) refl
  where
    by : (t : Bool) → eqb s.corrections 0 ≡ t → (not t || same_point (estimate_of s) (predicted_point s)) ≡ true
    by true e = same_point_lem (estimate_of s) (predicted_point s) (f (eqb-true s.corrections 0 e))
    by false e = refl

pub expecting : (s : Session) → awaiting s ≡ true → Expecting s
unfolding awaiting awaiting_holds
expecting s t =
    let (k, h) = simp joined at t in
    let e = awaiting-state s.state k in
    let (c, (b, a)) = simp joined at (ap (λ k. state_holds k s) (sym e) ∙ (holding s h).state) in
    record { state = e; corrections = ltb-true s.corrections s.limit c; estimate = begins s b; accepted = ltb-true s.accepted most_points a }

pub awaiting-by : (s : Session) → KeepsRules s → Expecting s → awaiting s ≡ true
unfolding awaiting awaiting_holds
awaiting-by s h r =
    let k : awaiting_holds s ≡ true = simp joined (lt-ltb s.corrections s.limit r.corrections, (begun s r.estimate, lt-ltb s.accepted most_points r.accepted)) in
    simp joined (ap is_awaiting r.state, holds_by s (record { rules = h; state = ap (λ k. state_holds k s) r.state ∙ k }))

-- what the arithmetic of a correction asks
pub waiting : (s : Session) → awaiting s ≡ true → Waiting s
waiting s t =
    let h = (holding s (awaiting-holds s t)).rules in
    let c = counts-are s h.counts in
    let r = expecting s t in
    record {
      ready = ready s h;
      on-x = estimate-placed s.points s.x (h.axes on_x);
      on-y = estimate-placed s.points s.y (h.axes on_y);
      on-z = estimate-placed s.points s.z (h.axes on_z);
      tolerances = c.tolerances;
      accepted = r.accepted;
      corrections = omega (arith, c.limit.1, r.corrections);
    }
