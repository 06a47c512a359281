-- What it is that an explanation names the cause of an answer, of any function that explains, in the words of the table of refusals. Definitions only.
use Rattle.std.specs.Prelude.{◌≡◌, ◌↔◌, ◌⊎◌, true, false, List, [], ◌∷◌, ℕ, suc, ◌*◌, ◌^◌, ◌<◌, ℤ, pos, nat_abs, ◌-ℤ◌}
use Rattle.rules.specs.Rules.{NotZero, Exactly, Unrefused}
use Rattle.exact.specs.Numerator.{numerator}
use Rattle.exact.specs.Report.{report_of}
use Rattle.ticks.specs.declared.Sample.{Sample}
use Rattle.ticks.specs.Samples.{axes_of, whole_of}
use Rattle.axis.specs.Kinds.{Kind, of_position, of_velocity}
use Rattle.session.specs.declared.Point.{Point}
use Rattle.session.specs.declared.Session.{Session}
use Rattle.session.specs.Coordinates.{Coordinate, on_x, on_y, on_z}
use Rattle.session.specs.Moves.{estimate_of, corrected_point}
use Rattle.session.specs.Values.{Value, value, value_at}
use Rattle.demands.specs.Records.{per_tick, Between, Means}
use Rattle.demands.specs.Refusals.{NotANumber, Infinite, TooLarge, Within, correct_table}
use Rattle.reasons.specs.declared.Reason.{Reason}
use Rattle.reasons.specs.declared.Differences.{Differences}
use Rattle.reasons.specs.declared.Explanation.{Explanation}
use Rattle.reasons.specs.Differences.{difference_on}

-- a function that explains: it is given the record and the sample, and returns neither
abbrev pub Explaining : Type 0
Explaining = Session → Sample → Explanation

abbrev pub corrected : Session → Sample → Point
corrected s a = corrected_point s (whole_of a)

-- ---- the six values, in their order

abbrev pub in_order : List Value
in_order =
    value of_position on_x
    ∷ value of_position on_y
    ∷ value of_position on_z
    ∷ value of_velocity on_x
    ∷ value of_velocity on_y
    ∷ value of_velocity on_z
    ∷ []

abbrev pub numerator_of : Value → Point → ℤ
numerator_of v q = numerator (value_at v q)

-- out of its range: a position is at least -2^52 and below 2^52, a velocity at least -2^40 and below 2^40
abbrev pub reach : Kind → ℕ
reach of_position = 2 ^ 52
reach of_velocity = 2 ^ 40

abbrev pub Out : Point → Value → Type 0
Out q v = ¬ Between (reach v.kind) (numerator_of v q)

-- over its tolerance: the size of its change, the new value less the last estimate's, is more
abbrev pub tolerated : Session → Kind → ℕ
tolerated s of_position = s.tolerances.position
tolerated s of_velocity = s.tolerances.velocity

abbrev pub changed : Session → Sample → Value → ℤ
changed s a v = numerator_of v (corrected s a) -ℤ numerator_of v (estimate_of s)

abbrev pub Over : Session → Sample → Value → Type 0
Over s a v = tolerated s v.kind * per_tick < nat_abs (changed s a v)

-- ---- what a reason says

-- a change of z over D, in the one form that it has and beside its report, and a tolerance of t
pub record Says (z : ℤ) (t : ℕ) (r : Reason) : Type 0 where
  pub exact : Means r.change.exact z
  pub report : r.change.report ≡ report_of r.change.exact
  pub allowed : r.tolerance ≡ t

-- a value's own change and tolerance
abbrev pub Compares : Session → Sample → Value → Reason → Type 0
Compares s a v r = Says (changed s a v) (tolerated s v.kind) r

-- no change was compared
abbrev pub Blank : Reason → Type 0
Blank r = Says (pos 0) 0 r

abbrev pub NamesNone : Reason → Type 0
NamesNone r = (r.value ≡ 0) × Blank r

-- it names the first of a list that has P, and none before it has: by its place, counted from n, and says S of it
abbrev pub NamesFirst : {A : Type 0} → (A → Type 0) → (A → Reason → Type 0) → ℕ → List A → Reason → Type 0
NamesFirst P S n [] r = ⊥
NamesFirst P S n (x ∷ rest) r = (P x × ((r.value ≡ n) × S x r)) ⊎ ((¬ P x) × NamesFirst P S (suc n) rest r)

-- an axis of the sample, or a value of the corrected point, by its place alone
abbrev pub NamesPlace : {A : Type 0} → (A → Type 0) → List A → Reason → Type 0
NamesPlace P xs r = NamesFirst P (λ x. Blank) 1 xs r

-- the first value over its tolerance, with its change and that tolerance
abbrev pub NamesChange : Session → Sample → Reason → Type 0
NamesChange s a r = NamesFirst (Over s a) (Compares s a) 1 in_order r

-- ---- the cause

module _ (E : Explaining) (s : Session) (a : Sample) where
  abbrev pub number_in : ℕ
  number_in = (E s a).number

  abbrev pub reason_in : Reason
  reason_in = (E s a).reason

pub record Causes (E : Explaining) : Type 0 where
  -- the number is that of the first rule of the table that applies, and 0 where none does
  pub number : (s : Session) (a : Sample) → Exactly (correct_table s a) (number_in E s a)
  -- nothing refuses it: accepted, for no reason, where all six are within; and else again, for the first that is not
  pub accepted : (s : Session) (a : Sample) → Unrefused (correct_table s a) → Within s (corrected s a) → ((E s a).kind ≡ 1) × NamesNone (reason_in E s a)
  pub again : (s : Session) (a : Sample) → Unrefused (correct_table s a) → ¬ Within s (corrected s a) → ((E s a).kind ≡ 2) × NamesChange s a (reason_in E s a)
  -- a refusal: what each number names
  pub refused : (s : Session) (a : Sample) → NotZero (number_in E s a) → (E s a).kind ≡ 0
  pub unfitting : (s : Session) (a : Sample) → number_in E s a ≡ 7 → NamesNone (reason_in E s a)
  pub not_a_number : (s : Session) (a : Sample) → number_in E s a ≡ 4 → NamesPlace NotANumber (axes_of a) (reason_in E s a)
  pub infinite : (s : Session) (a : Sample) → number_in E s a ≡ 13 → NamesPlace Infinite (axes_of a) (reason_in E s a)
  pub too_large : (s : Session) (a : Sample) → number_in E s a ≡ 5 → NamesPlace TooLarge (axes_of a) (reason_in E s a)
  pub outside : (s : Session) (a : Sample) → number_in E s a ≡ 6 → NamesPlace (Out (corrected s a)) in_order (reason_in E s a)
  pub ended : (s : Session) (a : Sample) → number_in E s a ≡ 8 → NamesChange s a (reason_in E s a)

-- ---- the differences

abbrev pub given_on : Coordinate → Differences → ℤ
given_on on_x d = d.x
given_on on_y d = d.y
given_on on_z d = d.z

-- a first correction, and none of the numbers 4, 13, 5 and 7
abbrev pub NoneOf : List ℕ → ℕ → Type 0
NoneOf [] n = Unit {0}
NoneOf (m ∷ rest) n = (¬ (n ≡ m)) × NoneOf rest n

abbrev pub FirstCorrection : Session → ℕ → Type 0
FirstCorrection s n = (s.corrections ≡ 0) × NoneOf (4 ∷ 13 ∷ 5 ∷ 7 ∷ []) n

pub record GivesDifferences (E : Explaining) : Type 0 where
  pub exactly : (s : Session) (a : Sample) → ((E s a).differences.given ≡ true) ↔ FirstCorrection s (number_in E s a)
  pub given : (s : Session) (a : Sample) → (E s a).differences.given ≡ true → (k : Coordinate) → given_on k (E s a).differences ≡ difference_on k s (whole_of a)
  pub none : (s : Session) (a : Sample) → (E s a).differences.given ≡ false → (k : Coordinate) → given_on k (E s a).differences ≡ pos 0
