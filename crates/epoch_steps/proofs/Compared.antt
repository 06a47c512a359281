-- The rounds that the two calls work with are ready: one that is given, and the one that a starting record holds beside it.
use mathlib.Core.Path.{◌≡◌, refl, sym, ap, subst, ◌∙◌}
use mathlib.Core.Bool.{true, false}
use mathlib.Core.List.{List}
use Prim.Native.Nat.{ℕ, ◌+◌}
use lib.Ieee.{Float}
use Rattle.rules.specs.Rules.{first_of}
use Rattle.axis.specs.Formulas.{places}
use Rattle.epoch_coefficients.specs.Formulas.{has_centre}
use Rattle.session.specs.declared.Point.{Point}
use Rattle.session.specs.declared.Session.{Session}
use Rattle.session.specs.Moves.{estimate_of, closed_session}
use Rattle.session.specs.Ready.{PlacedPoint}
use Rattle.epoch_session.specs.declared.Round.{Round}
use Rattle.epoch_session.specs.Rounds.{round_of, round_in_range, rounds_agree, largest_move}
use Rattle.epoch_session.specs.Records.{held_round, starting, opened_round}
use Rattle.epoch_session.specs.Ready.{ReadyRound}
use Rattle.epoch_session.proofs.Ready.{round-ready, held-ready}
use Rattle.epoch_session.proofs.Rules.{keeps-start, starting-round}
use Rattle.steps.specs.Answers.{reported_change}
use Rattle.steps.specs.Opening.{axis_samples}
use Rattle.steps.specs.Refusals.{is_last}
use Rattle.steps.proofs.Given.{places-small}
use Rattle.epoch_steps.specs.declared.Outcome.TheVariants.{More, Opened}
use Rattle.epoch_steps.specs.Refusals.{given_round, later_round, later_rules}
use Rattle.epoch_steps.specs.Steps.{told, refused, starting_from, refine_by}

-- ---- a round that is given

pub given-ready : (p : ℕ) (q : Point) (floats : List Float) → has_centre p ≡ true → PlacedPoint q → ReadyRound (given_round p q floats)
unfolding given_round
given-ready p q floats h e =
    round-ready p q (places p (axis_samples p 0 floats)) (places p (axis_samples p 1 floats)) (places p (axis_samples p 2 floats)) h e
    (places-small p 0 floats) (places-small p 1 floats) (places-small p 2 floats)

module _ (s : Session) (floats : List Float) where
  -- as the code makes it
  pub later-is : {r : Round} {q : Point} → r ≡ given_round s.points q floats → q ≡ estimate_of s → r ≡ later_round s floats
  unfolding later_round
  later-is e f = e ∙ ap (λ q. given_round s.points q floats) f

  pub later-ready : starting s ≡ true → ReadyRound (later_round s floats)
  unfolding later_round
  later-ready t = let h = starting-round s t in given-ready s.points (estimate_of s) floats h.centred h.epoch

  pub later-points : (later_round s floats).points ≡ s.points
  unfolding later_round given_round round_of
  later-points = refl

-- ---- beside the round that the record holds

held-points : (s : Session) → (held_round s).points ≡ s.points
unfolding held_round round_of
held-points s = refl

pub record Comparable (r before : Round) : Type 0 where
  pub ready : ReadyRound r
  pub ready-before : ReadyRound before
  pub points : r.points ≡ before.points
  pub range : round_in_range r ≡ true
  pub range-before : round_in_range before ≡ true

pub comparable : (s : Session) (r before : Round) → starting s ≡ true → ReadyRound r → r.points ≡ s.points → round_in_range r ≡ true → before ≡ held_round s → Comparable r before
comparable s r before t h n i e =
    record {
      ready = h;
      ready-before = subst ReadyRound (sym e) (held-ready s (starting-round s t));
      points = n ∙ sym (ap (λ (x : Round). x.points) e ∙ held-points s);
      range = i;
      range-before = ap round_in_range e ∙ (keeps-start s t).points-range;
    }

-- ---- what a later round whose points are in range is answered

module _ (s : Session) (r : Round) (t : round_in_range r ≡ true) where
  pub later-opens : rounds_agree s.tolerances r (held_round s) ≡ true → refine_by (first_of (later_rules s r)) s r ≡ record { session = opened_round s.tolerances s.limit r; answer = told Opened r }
  unfolding first_of
  later-opens a = rw (t, a, a) refl

  pub later-ends : rounds_agree s.tolerances r (held_round s) ≡ false → is_last s ≡ true → refine_by (first_of (later_rules s r)) s r ≡ record { session = closed_session; answer = refused 8 }
  unfolding first_of
  later-ends a l = rw (t, a, l) refl

  pub later-asks : rounds_agree s.tolerances r (held_round s) ≡ false → is_last s ≡ false
      → refine_by (first_of (later_rules s r)) s r ≡ record { session = starting_from s.tolerances s.limit (s.corrections + 1) (estimate_of s) r; answer = told (More (reported_change (largest_move r (held_round s)))) r }
  unfolding first_of
  later-asks a l = rw (t, a, l, a) refl

pub later-out : (s : Session) (r : Round) → round_in_range r ≡ false → first_of (later_rules s r) ≡ 6
unfolding first_of
later-out s r t = rw t refl
