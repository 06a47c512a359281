-- What a test that passed or failed says: joined tests, and tests as a function of early returns makes them.
-- `let (p, (q, r)) = simp joined at h in ..` takes a chain `(a and b and c) ≡ true` apart, and `simp joined (p, (q, r))` proves one.
use Rattle.std.specs.Prelude.{◌≡◌, refl, ◌↔◌, Bool, true, false, not, ◌&&◌, eqb, ℤ, pos, negsuc}
use Rattle.std.proofs.Common.{sym, ◌∙◌, true≢false}
use Rattle.std.proofs.lemmas.Bool.{false≢true, not-true, not-false}
use Rattle.std.proofs.Math.Bool.{and-eq-true_iff}

-- both tests pass: `&&`, nested to the right
infixr 35 ◌and◌
abbrev pub ◌and◌ : Bool → Bool → Bool
a and b = a && b

pub not-true-iff : (a : Bool) → (not a ≡ true) ↔ (a ≡ false)
not-true-iff true = (sym, sym)
not-true-iff false = (λ e. refl, λ e. refl)

pub not-false-iff : (a : Bool) → (not a ≡ false) ↔ (a ≡ true)
not-false-iff true = (λ e. refl, λ e. refl)
not-false-iff false = (sym, sym)

-- for `simp`: a chain of tests that passed is the pair of what each says
pub ruleset joined = (and-eq-true_iff, not-true-iff, not-false-iff)

-- a test cannot have passed and failed
pub clash {ℓ} : {A : Type ℓ} {t : Bool} → t ≡ true → t ≡ false → A
clash p q = absurd (true≢false (sym p ∙ q))

pub passes : (t : Bool) → (t ≡ false → ⊥) → t ≡ true
passes true f = refl
passes false f = absurd (f refl)

pub fails : (t : Bool) → (t ≡ true → ⊥) → t ≡ false
fails true f = absurd (f refl)
fails false f = refl

pub agree : (t u : Bool) → (t ≡ true → u ≡ true) → (u ≡ true → t ≡ true) → t ≡ u
agree true u f g = sym (f refl)
agree false u f g = sym (fails u (λ e. false≢true (g e)))

-- ---- equality of integers, as a test, and as the machine makes it: by the bits

abbrev pub eqℤ : ℤ → ℤ → Bool
eqℤ (pos a) (pos b) = eqb a b
eqℤ (pos a) (negsuc b) = false
eqℤ (negsuc a) (pos b) = false
eqℤ (negsuc a) (negsuc b) = eqb a b

-- ---- a function of early returns: each call's result r is a test's value t, and `not r` was looked at

pub failed : {r t : Bool} → r ≡ t → not r ≡ true → t ≡ false
failed {r} e h = sym e ∙ not-true r h

pub passed : {r t : Bool} → r ≡ t → not r ≡ false → t ≡ true
passed {r} e h = sym e ∙ not-false r h

-- the whole chain's value: where a test failed, and where it passed and the rest is r
pub and_no : {t : Bool} (rest : Bool) → t ≡ false → false ≡ (t and rest)
and_no rest e = sym (rw e)

pub and_yes : {t r rest : Bool} → t ≡ true → r ≡ rest → r ≡ (t and rest)
and_yes e f = rw e f

-- the same from a call's result
pub stop : {r t : Bool} (rest : Bool) → r ≡ t → not r ≡ true → false ≡ (t and rest)
stop rest e h = and_no rest (failed e h)

pub go_on : {r t s rest : Bool} → r ≡ t → not r ≡ false → s ≡ rest → s ≡ (t and rest)
go_on e h f = and_yes (passed e h) f
