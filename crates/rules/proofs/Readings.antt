-- Laws between the readings of a list of rules: what the tests give is the number of the first rule that applies; it is one number, and 0 exactly where no
-- rule applies; and where the numbers differ, each is given exactly when its rule applies and none before it does.
use Rattle.std.specs.Prelude.{ℕ, ◌≡◌, refl, ◌↔◌, Bool, true, false, not, List, [], ◌∷◌, ◌++◌}
use Rattle.std.proofs.Common.{sym, ◌∙◌, inl, inr}
use mathlib.Core.Logic.Iff
use Rattle.std.proofs.Math.Bool.{and-eq-true_iff}
use Rattle.std.proofs.lemmas.Bool.{eqb-false}
use Rattle.integers.specs.Tests.{◌and◌, joined, clash, passes, fails, not-true-iff, not-false-iff}
use Rattle.rules.specs.Rules.{NotZero, first_of, Rule, rule, NoneAnd, Unrefused, First, Continues, Exactly, lacks, distinct, Decides, Deciding, Decided}

-- ---- a test decides a statement

pub decides : {t : Bool} {A : Type 0} → (t ≡ true) ↔ A → Decides t A
decides {t} f = record { yes = f; no = ((λ e a. clash (f.1 a) e), (λ n. fails t (λ e. n (f.0 e)))) }

-- that it is true is decided by itself
pub itself : (t : Bool) → Decides t (t ≡ true)
itself t = decides ((λ e. e), (λ e. e))

-- it fails exactly where the statement does not hold
pub opposite : {t : Bool} {A : Type 0} → Decides t A → Decides (not t) (¬ A)
opposite {t} d =
    record {
      yes = Iff.trans (not-true-iff t) d.no;
      no = Iff.trans (not-false-iff t) ((λ e n. n (d.yes.0 e)), (λ f. passes t (λ e. f (d.no.0 e))));
    }

-- what is decided and does not fail holds
pub surely : {t : Bool} {A : Type 0} → Decides t A → ¬ ¬ A → A
surely {t} d f = d.yes.0 (passes t (λ e. f (d.no.0 e)))

pub both : {t u : Bool} {A B : Type 0} → Decides t A → Decides u B → Decides (t and u) (A × B)
both {t} {u} d e = decides (Iff.trans (and-eq-true_iff t u) (Iff.and d.yes e.yes))

-- ---- the tests decide the statements, one rule after the other

pub none_left : Decided [] []
none_left = record { each = tt }

-- a rule whose test decides it whatever was before, and the others
module _ {t : Bool} {A : Type 0} {n : ℕ} {xs : List (Bool × ℕ)} {rs : List Rule} where
  pub by_itself : Decides t A → Decided xs rs → Decided ((t, n) ∷ xs) (rule n A ∷ rs)
  by_itself d rest = record { each = ((refl, d), λ none. rest.each) }

  -- the others where it does not apply
  pub and_then : Decides t A → ((¬ A) → Decided xs rs) → Decided ((t, n) ∷ xs) (rule n A ∷ rs)
  and_then d rest = record { each = ((refl, d), λ none. (rest none).each) }

-- rules, and then others
deciding : (xs ys : List (Bool × ℕ)) (rs ts : List Rule) → Deciding xs rs → Deciding ys ts → Deciding (xs ++ ys) (rs ++ ts)
deciding [] ys [] ts d e = e
deciding [] ys (r ∷ rs) ts d e = absurd d
deciding (x ∷ xs) ys [] ts d e = absurd d
deciding ((t, m) ∷ xs) ys (r ∷ rs) ts d e = (d.0, λ none. deciding xs ys rs ts (d.1 none) e)

pub and-also : {xs ys : List (Bool × ℕ)} {rs ts : List Rule} → Decided xs rs → Decided ys ts → Decided (xs ++ ys) (rs ++ ts)
and-also {xs} {ys} {rs} {ts} d e = record { each = deciding xs ys rs ts d.each e.each }

-- ---- the first rule that applies

first-of : (xs : List (Bool × ℕ)) (rs : List Rule) → Deciding xs rs → First rs (first_of xs)
unfolding first_of
first-of [] [] d = refl
first-of [] (r ∷ rs) d = absurd d
first-of (x ∷ xs) [] d = absurd d
first-of ((true, m) ∷ xs) (r ∷ rs) d = inl (d.0.1.yes.0 refl, d.0.0)
first-of ((false, m) ∷ xs) (r ∷ rs) d = let none = d.0.1.no.0 refl in inr (none, first-of xs rs (d.1 none))

pub first-decided : {xs : List (Bool × ℕ)} {rs : List Rule} → Decided xs rs → First rs (first_of xs)
first-decided {xs} {rs} d = first-of xs rs d.each

-- it is one number
pub one-first : (rs : List Rule) (m n : ℕ) → First rs n → First rs m → m ≡ n
one-first [] m n c d = d ∙ sym c
one-first (r ∷ rs) m n (inl c) (inl d) = d.1 ∙ sym c.1
one-first (r ∷ rs) m n (inl c) (inr d) = absurd (d.0 c.0)
one-first (r ∷ rs) m n (inr c) (inl d) = absurd (c.0 d.0)
one-first (r ∷ rs) m n (inr c) (inr d) = one-first rs m n c.1 d.1

-- where no rule has the number k, and k is not 0, it is not k
other-number : (rs : List Rule) (n k : ℕ) → lacks k rs ≡ true → NotZero k → First rs n → n ≡ k → ⊥
other-number [] n k l z h e = z (sym e ∙ h)
other-number (r ∷ rs) n k l z (inl h) e = let (f, _) = simp joined at l in eqb-false r.number k f (sym h.1 ∙ e)
other-number (r ∷ rs) n k l z (inr h) e = let (_, g) = simp joined at l in other-number rs n k g z h.1 e

-- it is 0 exactly where no rule applies, if no rule has the number 0
pub first-none : (rs : List Rule) (n : ℕ) → lacks 0 rs ≡ true → First rs n → (n ≡ 0) ↔ Unrefused rs
first-none rs n l h = ((λ e. to rs l h e), (λ u. from rs h u))
  where
    to : (rs : List Rule) → lacks 0 rs ≡ true → First rs n → n ≡ 0 → Unrefused rs
    to [] l h e = tt
    to (r ∷ rs) l (inl h) e = let (f, _) = simp joined at l in absurd (eqb-false r.number 0 f (sym h.1 ∙ e))
    to (r ∷ rs) l (inr h) e = let (_, g) = simp joined at l in (h.0, to rs g h.1 e)

    from : (rs : List Rule) → First rs n → Unrefused rs → n ≡ 0
    from [] h u = h
    from (r ∷ rs) (inl h) u = absurd (u.0 h.0)
    from (r ∷ rs) (inr h) u = from rs h.1 u.1

-- ---- each number exactly when its rule applies and none before it does

none-split : (rs : List Rule) (A : Type 0) → NoneAnd rs A ↔ (Unrefused rs × A)
none-split [] A = ((λ a. (tt, a)), (λ h. h.1))
none-split (r ∷ rs) A = (
  (λ h. let (u, a) = (none-split rs A).0 h.1 in ((h.0, u), a)),
  (λ h. (h.0.0, (none-split rs A).1 (h.0.1, h.1))),
)

none_more : (rs : List Rule) (r : Rule) → Unrefused (rs ++ r ∷ []) ↔ (Unrefused rs × (¬ r.when))
none_more [] r = ((λ h. (tt, h.0)), (λ h. (h.1, tt)))
none_more (q ∷ rs) r = (
  (λ h. let (u, f) = (none_more rs r).0 h.1 in ((h.0, u), f)),
  (λ h. (h.0.0, (none_more rs r).1 (h.0.1, h.1))),
)

-- a rule before these applied, and n is none of their numbers and not 0
applied : (before rs : List Rule) (n : ℕ) → ¬ Unrefused before → lacks n rs ≡ true → NotZero n → Continues before rs n
applied before [] n some l z = ((λ e. absurd (z e)), (λ u. absurd (some u)))
applied before (r ∷ rs) n some l z =
    let (f, g) = simp joined at l in (
      ((λ e. absurd (eqb-false r.number n f (sym e))), (λ h. absurd (some ((none-split before r.when).0 h).0))),
      applied (before ++ r ∷ []) rs n (λ u. some ((none_more before r).0 u).0) g z,
    )

-- no rule before these applied
unapplied : (before rs : List Rule) (n : ℕ) → Unrefused before → distinct rs ≡ true → First rs n → Continues before rs n
unapplied before [] n none d h = ((λ e. none), (λ u. h))
unapplied before (r ∷ rs) n none d (inl h) =
    let (f, (g, _)) = simp joined at d in
    let e = h.1 in (
      ((λ _. (none-split before r.when).1 (none, h.0)), (λ _. e)),
      applied (before ++ r ∷ []) rs n (λ u. ((none_more before r).0 u).1 h.0) (rw e g) (λ z. eqb-false r.number 0 f (sym e ∙ z)),
    )
unapplied before (r ∷ rs) n none d (inr h) =
    let (f, (g, k)) = simp joined at d in (
      (
        (λ e. absurd (other-number rs n r.number g (eqb-false r.number 0 f) h.1 e)),
        (λ a. absurd (h.0 ((none-split before r.when).0 a).1)),
      ),
      unapplied (before ++ r ∷ []) rs n ((none_more before r).1 (none, h.0)) k h.1,
    )

-- where the numbers differ, the first reading gives the second
pub first-exactly : (rs : List Rule) (n : ℕ) → distinct rs ≡ true → First rs n → Exactly rs n
first-exactly rs n d h = unapplied [] rs n tt d h

-- and a number of the second reading is that of the first
continued : (before rs : List Rule) (m n : ℕ) → Unrefused before → First rs n → Continues before rs m → m ≡ n
continued before [] m n none h c = c.1 none ∙ sym h
continued before (r ∷ rs) m n none (inl h) c = c.0.1 ((none-split before r.when).1 (none, h.0)) ∙ sym h.1
continued before (r ∷ rs) m n none (inr h) c = continued (before ++ r ∷ []) rs m n ((none_more before r).1 (none, h.0)) h.1 c.1

pub one-exactly : (rs : List Rule) (m n : ℕ) → First rs n → Exactly rs m → m ≡ n
one-exactly rs m n h c = continued [] rs m n tt h c

-- worked: 13 between two others
second-of-three : (a b c : Bool) {A B C : Type 0} → Decides a A → Decides b B → Decides c C →
    Exactly (rule 4 A ∷ rule 13 B ∷ rule 5 C ∷ []) (first_of ((a, 4) ∷ (b, 13) ∷ (c, 5) ∷ []))
second-of-three a b c {A} {B} {C} d e f =
    let rs : List Rule = rule 4 A ∷ rule 13 B ∷ rule 5 C ∷ [] in
    let xs : List (Bool × ℕ) = (a, 4) ∷ (b, 13) ∷ (c, 5) ∷ [] in
    first-exactly rs (first_of xs) refl (first-decided (by_itself d (by_itself e (by_itself f none_left))))
