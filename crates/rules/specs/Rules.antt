-- Ordered rules, each with a number. As tests, for the code: the first test that is true gives its number. As statements, for a reader: what it is
-- that a number is theirs. And what it is that the tests decide the statements, rule by rule. Definitions only.
use Rattle.std.specs.Prelude.{ℕ, ◌≡◌, ◌↔◌, ◌⊎◌, Bool, true, false, not, List, [], ◌∷◌, ◌++◌, eqb}
use Rattle.integers.specs.Tests.{◌and◌}

abbrev pub NotZero : ℕ → Type 0
NotZero n = ¬ (n ≡ 0)

-- ---- tests

-- the number beside the first test that is true, and 0 where none is
unfoldable pub first_of : List (Bool × ℕ) → ℕ
first_of [] = 0
first_of ((true, n) ∷ rest) = n
first_of ((false, n) ∷ rest) = first_of rest

-- these tests give that number
pub record Gives (tests : List (Bool × ℕ)) (number : ℕ) : Type 0 where
  pub first : first_of tests ≡ number

-- ---- statements

-- a number, and when it is given
pub record Rule : Type 1 where
  pub number : ℕ
  pub when : Type 0

abbrev pub rule : ℕ → Type 0 → Rule
rule n A = record { number = n; when = A }

-- none of these rules applies, and A
abbrev pub NoneAnd : List Rule → Type 0 → Type 0
NoneAnd [] A = A
NoneAnd (r ∷ rs) A = (¬ r.when) × NoneAnd rs A

-- no rule of a list applies
abbrev pub Unrefused : List Rule → Type 0
Unrefused rs = NoneAnd rs (Unit {0})

-- n is the number of the first rule that applies, and 0 where none does: also for a list in which two rules have one number
abbrev pub First : List Rule → ℕ → Type 0
First [] n = n ≡ 0
First (r ∷ rs) n = (r.when × (n ≡ r.number)) ⊎ ((¬ r.when) × First rs n)

-- n is each rule's number exactly when that rule applies and none before it does, and 0 exactly when none does
abbrev pub Continues : List Rule → List Rule → ℕ → Type 0
Continues before [] n = (n ≡ 0) ↔ Unrefused before
Continues before (r ∷ rs) n = ((n ≡ r.number) ↔ NoneAnd before r.when) × Continues (before ++ r ∷ []) rs n

abbrev pub Exactly : List Rule → ℕ → Type 0
Exactly rs n = Continues [] rs n

-- ---- their numbers

-- no rule has the number n
abbrev pub lacks : ℕ → List Rule → Bool
lacks n [] = true
lacks n (r ∷ rs) = not (eqb r.number n) and lacks n rs

-- no two rules have one number, and none has 0
abbrev pub distinct : List Rule → Bool
distinct [] = true
distinct (r ∷ rs) = not (eqb r.number 0) and lacks r.number rs and distinct rs

-- ---- the tests decide the statements

-- a test is true where a statement holds, and false where it does not
pub record Decides (t : Bool) (A : Type 0) : Type 0 where
  pub yes : (t ≡ true) ↔ A
  pub no : (t ≡ false) ↔ (¬ A)

-- rule by rule: the same number, and the test decides the statement where no rule before it applies
abbrev pub Deciding : List (Bool × ℕ) → List Rule → Type 0
Deciding [] [] = Unit {0}
Deciding [] (r ∷ rs) = ⊥
Deciding (x ∷ xs) [] = ⊥
Deciding ((t, m) ∷ xs) (r ∷ rs) = ((m ≡ r.number) × Decides t r.when) × ((¬ r.when) → Deciding xs rs)

pub record Decided (tests : List (Bool × ℕ)) (rules : List Rule) : Type 0 where
  pub each : Deciding tests rules
