-- Naming the first: what the first of a list says by a test is named as the first by a statement that the test decides; it is one; and which rule of a table
-- a number is of.
use mathlib.Core.Path.{◌≡◌, refl, sym, ◌∙◌}
use mathlib.Core.Logic.{◌⊎◌, inl, inr}
use mathlib.Core.Bool.{Bool, true, false, cond}
use mathlib.Core.List.{List, [], ◌∷◌}
use Prim.Native.Nat.{ℕ, suc}
use native.Mathlib.Nat.{suc-ne-zero}
use borrow.Author.Tests.{eqb-false}
use lib.Dec.{eqb}
use Rattle.rules.specs.Rules.{NotZero, Rule, First, Decides}
use Rattle.reasons.specs.declared.Reason.{Reason}
use Rattle.reasons.specs.Reasons.{no_reason, first_from}
use Rattle.causes.specs.Causes.{NamesFirst}

-- no element has P
abbrev pub Nowhere : {A : Type 0} → (A → Type 0) → List A → Type 0
Nowhere P [] = Unit {0}
Nowhere P (x ∷ xs) = (¬ P x) × Nowhere P xs

module _ {A : Type 0} {test : A → Bool} {P : A → Type 0} (d : (x : A) → Decides (test x) (P x)) where
  module _ (said : ℕ → A → Reason) (S : A → Reason → Type 0) (says : (n : ℕ) (x : A) → ((said n x).value ≡ n) × S x (said n x)) where
    pub names : (n : ℕ) (xs : List A) → ¬ Nowhere P xs → NamesFirst P S n xs (first_from n test said xs)
    unfolding first_from
    names n [] h = h tt
    names n (x ∷ xs) h = by (test x) refl (names (suc n) xs)
      where
        later : Reason
        later = first_from (suc n) test said xs

        by : (t : Bool) → test x ≡ t → ((¬ Nowhere P xs) → NamesFirst P S (suc n) xs later) → NamesFirst P S n (x ∷ xs) (cond t (said n x) later)
        by true e f = inl ((d x).yes.0 e, says n x)
        by false e f = let none = (d x).no.0 e in inr (none, f (λ rest. h (none, rest)))

  pub names-none : (said : ℕ → A → Reason) (n : ℕ) (xs : List A) → Nowhere P xs → first_from n test said xs ≡ no_reason
  unfolding first_from
  names-none said n [] h = refl
  names-none said n (x ∷ xs) h = by (test x) refl (names-none said (suc n) xs h.1)
    where
      later : Reason
      later = first_from (suc n) test said xs

      by : (t : Bool) → test x ≡ t → later ≡ no_reason → cond t (said n x) later ≡ no_reason
      by true e f = absurd (h.0 ((d x).yes.0 e))
      by false e f = f

-- ---- what is named

module _ {A : Type 0} (P : A → Type 0) (S : A → Reason → Type 0) where
  -- a place
  pub named : (n : ℕ) (xs : List A) (r : Reason) → NamesFirst P S (suc n) xs r → NotZero r.value
  named n [] r h = absurd h
  named n (x ∷ xs) r (inl h) = λ z. suc-ne-zero n (sym h.1.0 ∙ z)
  named n (x ∷ xs) r (inr h) = named (suc n) xs r h.1

  -- the same by two reasons
  pub one_name : ((x : A) (r u : Reason) → r.value ≡ u.value → S x r → S x u → r ≡ u) → (n : ℕ) (xs : List A) (r u : Reason) →
      NamesFirst P S n xs r → NamesFirst P S n xs u → r ≡ u
  one_name one n [] r u h k = absurd h
  one_name one n (x ∷ xs) r u (inl h) (inl k) = one x r u (h.1.0 ∙ sym k.1.0) h.1.1 k.1.1
  one_name one n (x ∷ xs) r u (inl h) (inr k) = absurd (k.0 h.0)
  one_name one n (x ∷ xs) r u (inr h) (inl k) = absurd (h.0 k.0)
  one_name one n (x ∷ xs) r u (inr h) (inr k) = one_name one (suc n) xs r u h.1 k.1

-- ---- the rules that have a number

abbrev Chosen : Bool → Type 0 → Type 0 → Type 0
Chosen true A B = A ⊎ B
Chosen false A B = B

-- some rule with the number m applies
abbrev pub Applies : ℕ → List Rule → Type 0
Applies m [] = ⊥
Applies m (r ∷ rs) = Chosen (eqb r.number m) r.when (Applies m rs)

pub applies : (rs : List Rule) (n m : ℕ) → First rs n → n ≡ m → NotZero m → Applies m rs
applies [] n m h e z = absurd (z (sym e ∙ h))
applies (r ∷ rs) n m (inl h) e z = by (eqb r.number m) refl
  where
    by : (t : Bool) → eqb r.number m ≡ t → Chosen t r.when (Applies m rs)
    by true f = inl h.0
    by false f = absurd (eqb-false r.number m f (sym h.1 ∙ e))
applies (r ∷ rs) n m (inr h) e z = by (eqb r.number m) (applies rs n m h.1 e z)
  where
    by : (t : Bool) → Applies m rs → Chosen t r.when (Applies m rs)
    by true k = inr k
    by false k = k

-- the number is one of theirs
abbrev pub Numbered : List Rule → ℕ → Type 0
Numbered [] n = ⊥
Numbered (r ∷ rs) n = (n ≡ r.number) ⊎ Numbered rs n

pub numbered : (rs : List Rule) (n : ℕ) → First rs n → NotZero n → Numbered rs n
numbered [] n h z = absurd (z h)
numbered (r ∷ rs) n (inl h) z = inl h.1
numbered (r ∷ rs) n (inr h) z = inr (numbered rs n h.1 z)
