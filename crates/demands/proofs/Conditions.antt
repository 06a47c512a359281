-- The tests of the calls decide the conditions of the tables, one by one: floats, settings, points, and the points of a round.
use mathlib.Core.Path.{◌≡◌, refl, sym, ◌∙◌}
use mathlib.Core.Logic.Iff
use mathlib.Core.Logic.{◌↔◌, ◌⊎◌, inl, inr, ⊎_elim}
use mathlib.Core.Bool.{Bool, true, false, not, ◌||◌, cond, false≢true, true≢false}
use mathlib.Core.List.{List, [], ◌∷◌}
use Prim.Native.Nat.{ℕ, ◌+◌, ◌*◌, ◌≤◌, ◌<◌, zero, suc}
use native.Mathlib.Omega.{arith}
use borrow.Author.Tests.{eqb-true, eq-eqb, leb-true, leb-false, le-leb, eqb-false}
use lib.Dec.{eqb, leb}
use lib.IntN.{ℤ}
use lib.Ieee.{Float, nan, inf, fin, up, down}
use lib.Ieee.Nearest.{closest}
use lib.ListN.{length}
use Rattle.integers.specs.Tests.{not-true-iff}
use Rattle.std.specs.Prelude.{Result, Ok, Err}
use Rattle.ticks.specs.declared.Fault.{Fault}
use Rattle.ticks.specs.declared.Fault.TheVariants as F
use Rattle.ticks.specs.Round.{limit, signed, rounded_of, is_not_a_number, is_infinite, is_too_large}
use Rattle.ticks.specs.Samples.{any}
use Rattle.axis.specs.declared.Tolerances.{Tolerances}
use Rattle.axis.specs.Kinds.{of_position, of_velocity, tolerance_of}
use Rattle.session.specs.declared.Point.{Point}
use Rattle.session.specs.declared.Session.{Session}
use Rattle.session.specs.Numbers.{points_hold, settings_hold}
use Rattle.session.specs.Moves.{estimate_of}
use Rattle.session.specs.Apart.{points_agree}
use Rattle.session.specs.Values.{Value, value, size_at}
use Rattle.session.proofs.Values.{of-each as each-kind, agree-iff}
use Rattle.session.proofs.Rules.{points-hold, settings-hold}
use Rattle.steps.specs.Refusals.{full, agrees, is_last}
use Rattle.rules.specs.Rules.{Decides}
use Rattle.demands.specs.Refusals.{Some, NotANumber, Infinite, TooLarge, Near, Within, Last, RoundWithin, Even}
use Rattle.demands.specs.Records.{SomePoints, Settings, per_tick}
use Rattle.demands.proofs.Ranges.{every}
use Rattle.epoch_coefficients.specs.Formulas.{has_centre}
use Rattle.epoch_coefficients.proofs.Centre.{of-each}
use Rattle.epoch_session.specs.declared.Round.{Round}
use Rattle.epoch_session.specs.Rounds.{earlier_point, rounds_agree}
use Rattle.epoch_session.specs.Records.{held_round}
use Rattle.rules.proofs.Readings.{decides}

-- ---- floats

module _ (test : Result ℤ Fault → Bool) (P : Float → Type 0) (h : (x : Float) → (test (rounded_of x) ≡ true) ↔ P x) where
  any-to : (xs : List Float) → any test xs ≡ true → Some P xs
  unfolding any
  any-to [] e = false≢true e
  any-to (x ∷ xs) e = by (test (rounded_of x)) refl e (any-to xs)
    where
      by : (t : Bool) → test (rounded_of x) ≡ t → (t || any test xs) ≡ true → (any test xs ≡ true → Some P xs) → P x ⊎ Some P xs
      by true f e rest = inl ((h x).0 f)
      by false f e rest = inr (rest e)

  any-from : (xs : List Float) → Some P xs → any test xs ≡ true
  unfolding any
  any-from [] s = absurd s
  any-from (x ∷ xs) (inl p) = rw ((h x).1 p)
  any-from (x ∷ xs) (inr s) = rw (any-from xs s) (last (test (rounded_of x)))
    where
      last : (t : Bool) → (t || true) ≡ true
      last true = refl
      last false = refl

  any-decides : (xs : List Float) → Decides (any test xs) (Some P xs)
  any-decides xs = decides (any-to xs, any-from xs)

-- a finite float rounds to a tick or is too large: nothing else is said of it
neither-said : (test : Result ℤ Fault → Bool) (t : Bool) (n : ℤ) → test (Ok n) ≡ false → test (Err F.TooLarge) ≡ false → (test (cond t (Ok n) (Err F.TooLarge)) ≡ true) ↔ ⊥
neither-said test true n f g = ((λ e. false≢true (sym f ∙ e)), absurd)
neither-said test false n f g = ((λ e. false≢true (sym g ∙ e)), absurd)

pub not-a-number : (x : Float) → (is_not_a_number (rounded_of x) ≡ true) ↔ NotANumber x
unfolding rounded_of
not-a-number nan = ((λ e. tt), (λ p. refl))
not-a-number (inf s) = (false≢true, absurd)
not-a-number (fin s m e) = neither-said is_not_a_number (leb (closest (m * up e) (down e)) limit) (signed s (closest (m * up e) (down e))) refl refl

pub infinite : (x : Float) → (is_infinite (rounded_of x) ≡ true) ↔ Infinite x
unfolding rounded_of
infinite nan = (false≢true, absurd)
infinite (inf s) = ((λ e. tt), (λ p. refl))
infinite (fin s m e) = neither-said is_infinite (leb (closest (m * up e) (down e)) limit) (signed s (closest (m * up e) (down e))) refl refl

pub too_large : (x : Float) → (is_too_large (rounded_of x) ≡ true) ↔ TooLarge x
unfolding rounded_of
too_large nan = (false≢true, absurd)
too_large (inf s) = (false≢true, absurd)
too_large (fin s m e) = by (leb n limit) refl
  where
    n : ℕ
    n = closest (m * up e) (down e)

    by : (t : Bool) → leb n limit ≡ t → (is_too_large (cond t (Ok (signed s n)) (Err F.TooLarge)) ≡ true) ↔ (limit < n)
    by true f = ((λ e. absurd (false≢true e)), (λ l. absurd (omega (arith, leb-true n limit f))))
    by false f = ((λ e. leb-false n limit f), (λ l. refl))

pub no-numbers : (xs : List Float) → Decides (any is_not_a_number xs) (Some NotANumber xs)
no-numbers = any-decides is_not_a_number NotANumber not-a-number

pub infinities : (xs : List Float) → Decides (any is_infinite xs) (Some Infinite xs)
infinities = any-decides is_infinite Infinite infinite

pub large : (xs : List Float) → Decides (any is_too_large xs) (Some TooLarge xs)
large = any-decides is_too_large TooLarge too_large

-- ---- points that are near

module _ (t : Tolerances) (q before : Point) where
  near : Near t q before → (v : Value) → size_at q before v ≤ tolerance_of v.kind t * per_tick
  near h v = each-kind (λ kind. size_at q before (value kind v.coordinate) ≤ tolerance_of kind t * per_tick) (h v.coordinate).0 (h v.coordinate).1 v.kind

  pub apart : Decides (points_agree t q before) (Near t q before)
  apart = decides (Iff.trans (agree-iff q before t) ((λ h k. (h (value of_position k), h (value of_velocity k))), near))

pub agreement : (s : Session) (q : Point) → Decides (agrees s q) (Within s q)
unfolding agrees
agreement s q = apart s.tolerances q (estimate_of s)

-- ---- settings

pub some-points : (p : ℕ) → Decides (points_hold p) (SomePoints p)
some-points p = decides (points-hold p)

pub enough : (floats : List Float) (p : ℕ) → Decides (eqb (length floats) (3 * p)) (length floats ≡ 3 * p)
enough floats p = decides (eqb-true (length floats) (3 * p), eq-eqb (length floats) (3 * p))

pub settings : (t : Tolerances) (limit : ℕ) → Decides (settings_hold t limit) (Settings t limit)
settings t limit = decides (Iff.trans (settings-hold t limit) (Iff.and ((λ h. (h.position, h.velocity)), (λ h. record { position = h.0; velocity = h.1 })) Iff.rfl))

pub room : (s : Session) → Decides (full s) (1000000 ≤ s.accepted)
unfolding full
room s = decides (leb-true 1000000 s.accepted, le-leb 1000000 s.accepted)

pub is-last : (s : Session) → Decides (is_last s) (Last s)
unfolding is_last
is-last s = decides (leb-true s.limit (s.corrections + 1), le-leb s.limit (s.corrections + 1))

-- ---- of 1 to 9 points, those without a centre

parity : (p : ℕ) → Even p ⊎ ((m : ℕ) × (p ≡ m + m + 1))
parity zero = inl (0, refl)
parity (suc p) = ⊎_elim (λ (m, e). inr (m, omega (arith, e))) (λ (m, e). inl (m + 1, omega (arith, e))) (parity p)

neither : (a b : Bool) → (a || b) ≡ false → (a ≡ false) × (b ≡ false)
neither true b e = absurd (true≢false e)
neither false b e = (refl, e)

even-or-one : (p : ℕ) → SomePoints p → has_centre p ≡ false → Even p ⊎ (p ≡ 1)
unfolding has_centre
even-or-one p h e =
    let (d, n9) = neither (eqb p 3 || eqb p 5 || eqb p 7) (eqb p 9) e in
    let (c, n7) = neither (eqb p 3 || eqb p 5) (eqb p 7) d in
    let (n3, n5) = neither (eqb p 3) (eqb p 5) c in
    ⊎_elim inl (λ (m, o). inr (omega (arith, h.0, h.1, o, eqb-false p 3 n3, eqb-false p 5 n5, eqb-false p 7 n7, eqb-false p 9 n9))) (parity p)

odd-and-more : (p : ℕ) → has_centre p ≡ true → ¬ (Even p ⊎ (p ≡ 1))
odd-and-more = of-each (λ p. ¬ (Even p ⊎ (p ≡ 1))) (no 3 1 refl (λ e. omega (arith, e))) (no 5 2 refl (λ e. omega (arith, e))) (no 7 3 refl (λ e. omega (arith, e))) (no 9 4 refl (λ e. omega (arith, e)))
  where
    no : (p m : ℕ) → p ≡ 2 * m + 1 → (p ≡ 1 → ⊥) → ¬ (Even p ⊎ (p ≡ 1))
    no p m e f (inl (k, h)) = omega (arith, e, h)
    no p m e f (inr h) = f h

pub centred : (p : ℕ) → SomePoints p → Decides (not (has_centre p)) (Even p ⊎ (p ≡ 1))
centred p h =
    decides (
      (λ e. even-or-one p h ((not-true-iff (has_centre p)).0 e)),
      (λ w. (not-true-iff (has_centre p)).1 (by (has_centre p) refl w)),
    )
  where
    by : (t : Bool) → has_centre p ≡ t → Even p ⊎ (p ≡ 1) → t ≡ false
    by true e w = absurd (odd-and-more p e w)
    by false e w = refl

-- ---- every point of a round

pub rounds-apart : (s : Session) (r : Round) → Decides (rounds_agree s.tolerances r (held_round s)) (RoundWithin s r)
unfolding rounds_agree
rounds-apart s r =
    every (λ j. points_agree s.tolerances (earlier_point r j) (earlier_point (held_round s) j)) (λ j. Near s.tolerances (earlier_point r j) (earlier_point (held_round s) j))
    (λ j. apart s.tolerances (earlier_point r j) (earlier_point (held_round s) j)) r.points
