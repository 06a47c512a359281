-- What a record that counts as starting is known to be, rule by rule.
use mathlib.Core.Path.{◌≡◌, refl, ap}
use mathlib.Core.Bool.{true, false≢true}
use Prim.Native.Nat.{◌<◌}
use borrow.Author.Tests.{eqb-true, eq-eqb, ltb-true, lt-ltb}
use Rattle.integers.specs.Tests.{joined}
use Rattle.epoch_coefficients.specs.Formulas.{has_centre}
use Rattle.session.specs.declared.Session.{Session}
use Rattle.session.specs.declared.State.{State}
use Rattle.session.specs.declared.State.TheVariants.{Closed, Settled, Awaiting, Starting}
use Rattle.session.specs.Coordinates.{Coordinate, on_x, on_y, on_z, axis_of}
use Rattle.session.specs.Numbers.{settings_hold}
use Rattle.session.proofs.Coordinates.{on-each}
use Rattle.epoch_session.specs.Rounds.{round_in_range}
use Rattle.epoch_session.specs.Records.{held_round, older_zero, axis_starts, axes_start, start_holds, is_starting, starting}
use Rattle.epoch_session.specs.Ready.{HoldsRound}
use Rattle.epoch_session.proofs.Ready.{holds-round}

pub record KeepsStart (s : Session) : Type 0 where
  pub state : s.state ≡ Starting
  pub centred : has_centre s.points ≡ true
  pub settings : settings_hold s.tolerances s.limit ≡ true
  pub accepted : s.accepted ≡ 0
  pub rounds : s.corrections < s.limit
  pub older : (k : Coordinate) → older_zero (axis_of k s) ≡ true
  pub on-x : axis_starts s.points s.x ≡ true
  pub on-y : axis_starts s.points s.y ≡ true
  pub on-z : axis_starts s.points s.z ≡ true
  pub points-range : round_in_range (held_round s) ≡ true

starting-state : (k : State) → is_starting k ≡ true → k ≡ Starting
starting-state Closed e = absurd (false≢true e)
starting-state Settled e = absurd (false≢true e)
starting-state Awaiting e = absurd (false≢true e)
starting-state Starting e = refl

pub keeps-start : (s : Session) → starting s ≡ true → KeepsStart s
unfolding starting start_holds axes_start
keeps-start s t =
    let (k, (h, (e, (a, (n, ((xo, (yo, zo)), (x, (y, (z, r))))))))) = simp joined at t in
    record {
      state = starting-state s.state k;
      centred = h;
      settings = e;
      accepted = eqb-true s.accepted 0 a;
      rounds = ltb-true s.corrections s.limit n;
      older = on-each (λ k. older_zero (axis_of k s) ≡ true) xo yo zo;
      on-x = x;
      on-y = y;
      on-z = z;
      points-range = r;
    }

pub by-rules : (s : Session) → KeepsStart s → starting s ≡ true
unfolding starting start_holds axes_start
by-rules s h =
    simp joined (
      ap is_starting h.state,
      (h.centred, (h.settings, (eq-eqb s.accepted 0 h.accepted, (lt-ltb s.corrections s.limit h.rounds, ((h.older on_x, (h.older on_y, h.older on_z)), (h.on-x, (h.on-y, (h.on-z, h.points-range)))))))),
    )

pub starting-round : (s : Session) → starting s ≡ true → HoldsRound s
starting-round s t = let h = keeps-start s t in holds-round s h.centred h.on-x h.on-y h.on-z
