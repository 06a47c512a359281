-- What each call gives by the number that its rules give, and what is known where nothing refuses it: by the number of each rule, that it did not apply.
use mathlib.Core.Path.{◌≡◌, refl, sym, ap, ◌∙◌}
use mathlib.Core.Bool.{Bool, true, false, not, cond}
use mathlib.Core.List.{List, [], ◌∷◌}
use Prim.Native.Nat.{ℕ, zero, suc}
use native.Mathlib.Omega.{arith}
use borrow.Author.Tests.{not-false, ne_eqb}
use lib.Ieee.{Float}
use Rattle.integers.specs.Tests.{◌and◌}
use Rattle.rules.specs.Rules.{NotZero, first_of, Gives}
use Rattle.rules.proofs.Tests.{clear, first-before, first-after, given}
use Rattle.epoch_coefficients.specs.Formulas.{has_centre}
use Rattle.axis.specs.declared.Tolerances.{Tolerances}
use Rattle.session.specs.declared.Point.{Point}
use Rattle.session.specs.declared.Session.{Session}
use Rattle.session.specs.Numbers.{settings_hold}
use Rattle.session.specs.Moves.{point_in_range, closed_session}
use Rattle.session.specs.Requests.{Request, exact_point}
use Rattle.epoch_session.specs.declared.Round.{Round}
use Rattle.epoch_session.specs.Rounds.{round_in_range, rounds_agree}
use Rattle.epoch_session.specs.Records.{held_round, starting}
use Rattle.steps.specs.Refusals.{is_last}
use Rattle.epoch_steps.specs.Refusals.{first_round, start_rules, start_refusal, later_round, later_rules, early_rules, early_refusal, refine_rules, refine_refusal}
use Rattle.epoch_steps.specs.Steps.{refused, start_by, start_of, refine_by, refine_of}

-- ---- by the number

pub start_gives : (r : Request) {n : ℕ} → Gives (start_rules r) n → start_by n r.tolerances r.limit (exact_point r.point) (first_round r) ≡ start_of r
unfolding start_of start_refusal
start_gives r g = ap (λ n. start_by n r.tolerances r.limit (exact_point r.point) (first_round r)) (sym g.first)

-- a refused first round closes the record
pub start-refuses : (tolerances : Tolerances) (limit : ℕ) (epoch : Point) (r : Round) (n : ℕ) → NotZero n → start_by n tolerances limit epoch r ≡ record { session = closed_session; answer = refused n }
start-refuses tolerances limit epoch r zero f = absurd (f refl)
start-refuses tolerances limit epoch r (suc n) f = refl

pub refine-gives : (s : Session) (floats : List Float) {n : ℕ} → Gives (refine_rules s floats) n → refine_by n s (later_round s floats) ≡ refine_of s floats
unfolding refine_of refine_refusal
refine-gives s floats g = ap (λ n. refine_by n s (later_round s floats)) (sym g.first)

-- 8 closes the record, and every other refusal of a later round leaves it as it was
pub refine-refuses : (s : Session) (r : Round) (n : ℕ) → NotZero n → (n ≡ 8 → ⊥) → refine_by n s r ≡ record { session = s; answer = refused n }
refine-refuses s r zero f g = absurd (f refl)
refine-refuses s r (suc n) f g = ap (λ t. record { session = cond t closed_session s; answer = refused (suc n) }) (ne_eqb (suc n) 8 g)

-- ---- where nothing refuses it

module _ (r : Request) (e : start_refusal r ≡ 0) where
  pub started-centred : has_centre r.points ≡ true
  unfolding start_refusal
  started-centred = not-false (has_centre r.points) (clear 10 (start_rules r) refl e).0

  pub started-settings : settings_hold r.tolerances r.limit ≡ true
  unfolding start_refusal
  started-settings = not-false (settings_hold r.tolerances r.limit) (clear 3 (start_rules r) refl e).0

  -- the epoch, and every point that was worked out
  pub started-range : point_in_range (exact_point r.point) ≡ true
  unfolding start_refusal
  started-range = not-false (point_in_range (exact_point r.point)) (clear 6 (start_rules r) refl e).0

  pub started-points : round_in_range (first_round r) ≡ true
  unfolding start_refusal
  started-points = not-false (round_in_range (first_round r)) (clear 6 (start_rules r) refl e).1.0

module _ (s : Session) (floats : List Float) (e : refine_refusal s floats ≡ 0) where
  pub refined-starting : starting s ≡ true
  unfolding refine_refusal
  refined-starting = not-false (starting s) (clear 7 (refine_rules s floats) refl e).0

  pub refined-points : round_in_range (later_round s floats) ≡ true
  unfolding refine_refusal
  refined-points = not-false (round_in_range (later_round s floats)) (clear 6 (refine_rules s floats) refl e).0

  -- it agrees, or is not the last
  pub refined-more : (not (rounds_agree s.tolerances (later_round s floats) (held_round s)) and is_last s) ≡ false
  unfolding refine_refusal
  refined-more = (clear 8 (refine_rules s floats) refl e).0

-- ---- before a later round is compared

-- none of the numbers closes the record
not-8 : (t u v w x y : Bool) → first_of ((t, 7) ∷ (u, 2) ∷ (v, 4) ∷ (w, 13) ∷ (x, 5) ∷ (y, 6) ∷ []) ≡ 8 → ⊥
unfolding first_of
not-8 true u v w x y e = omega arith
not-8 false true v w x y e = omega arith
not-8 false false true w x y e = omega arith
not-8 false false false true x y e = omega arith
not-8 false false false false true y e = omega arith
not-8 false false false false false true e = omega arith
not-8 false false false false false false e = omega arith

module _ (s : Session) (floats : List Float) where
  -- the last rule is looked at where none before it applies
  abbrev last_rules : List (Bool × ℕ)
  last_rules = (not (rounds_agree s.tolerances (later_round s floats) (held_round s)) and is_last s, 8) ∷ []

  pub early-refuses : (n : ℕ) → NotZero n → early_refusal s floats ≡ n → record { session = s; answer = refused n } ≡ refine_of s floats
  unfolding early_refusal
  early-refuses n f e =
      sym (refine-refuses s (later_round s floats) n f (λ h. not-8 _ _ _ _ _ _ (e ∙ h))) ∙ refine-gives s floats (first-before (early_rules s floats) last_rules n f e)

  module _ (z : early_refusal s floats ≡ 0) where
    pub early-starting : starting s ≡ true
    unfolding early_refusal
    early-starting = not-false (starting s) (clear 7 (early_rules s floats) refl z).0

    pub early-range : round_in_range (later_round s floats) ≡ true
    unfolding early_refusal
    early-range = not-false (round_in_range (later_round s floats)) (clear 6 (early_rules s floats) refl z).0

    left : first_of (later_rules s (later_round s floats)) ≡ first_of last_rules
    unfolding first_of
    left = rw early-range refl

    pub early-gives : refine_by (first_of (later_rules s (later_round s floats))) s (later_round s floats) ≡ refine_of s floats
    unfolding early_refusal
    early-gives = ap (λ n. refine_by n s (later_round s floats)) left ∙ refine-gives s floats (first-after (early_rules s floats) last_rules refl z (given last_rules))
