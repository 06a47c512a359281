-- The derived order of exact values, first by the whole part and then by the part, is the order of their numerators.
use Rattle.std.specs.Prelude.{◌≡◌, refl, Some, true, false, cond, ◌&&◌, eqb, ◌<◌, ℤ, ◌<ℤ◌, int_lt}
use Rattle.std.proofs.Common.{sym, ap, ◌∙◌}
use Rattle.std.specs.Int.Signed.{le_z}
use Rattle.std.specs.Bool.{one_answer}
use Rattle.std.specs.Cmp.{signed_Decides}
use Rattle.std.specs.declared.cmp.Ordering.{Ordering}
use Rattle.std.specs.declared.cmp.Ordering.TheVariants.{Less, Equal, Greater}
use Rattle.std.specs.Ordering.{ordering_then, partial_ordering_then, is_some_and, int_cmp, int_eq, nat_cmp, is_lt, is_le}
use Rattle.std.proofs.lemmas.Cmp.{ranked, int_ranked, by_ranked}
use Rattle.integers.specs.Tests.{eqℤ}
use Rattle.integers.proofs.Tests.{eqℤ-true, eqℤ-refl}
use Rattle.integers.specs.Parts.{integers}
use Rattle.exact.specs.declared.Exact.{Exact}
use Rattle.exact.specs.Numerator.{D, numerator, same_exact, larger_of}
use Rattle.exact.proofs.Laws.{numerator-parts}

-- what `int_cmp` answers, from the order
less : (x y : ℤ) → x <ℤ y → int_cmp x y ≡ Less
less x y h = let e : int_lt x y ≡ true = omega integers in rw e

equal : (x y : ℤ) → x ≡ y → int_cmp x y ≡ Equal
equal x y h =
    let e : int_lt x y ≡ false = omega integers in
    let f : int_lt y x ≡ false = omega integers in
    rw (e, f)

greater : (x y : ℤ) → y <ℤ x → int_cmp x y ≡ Greater
greater x y h =
    let e : int_lt x y ≡ false = omega integers in
    let f : int_lt y x ≡ true = omega integers in
    rw (e, f)

is_le-int_cmp : (x y : ℤ) → is_le (int_cmp x y) ≡ le_z x y
is_le-int_cmp x y =
    by_ranked (x <ℤ y) (x ≡ y) (y <ℤ x) (int_cmp x y) (int_ranked x y (int_cmp x y) refl)
    (λ e h. ap is_le e ∙ sym (omega integers))
    (λ e h. ap is_le e ∙ sym (omega integers))
    (λ e h. ap is_le e ∙ sym (omega integers))

-- the maximum of two, by the order of the second and the first
choice : {A : Type 0} (x y : ℤ) (a b : A) → cond (is_lt (int_cmp y x)) a b ≡ cond (le_z x y) b a
choice x y a b =
    by_ranked (y <ℤ x) (y ≡ x) (x <ℤ y) (int_cmp y x) (int_ranked y x (int_cmp y x) refl)
    (λ e h. let f : le_z x y ≡ false = omega integers in rw (e, f))
    (λ e h. let f : le_z x y ≡ true = omega integers in rw (e, f))
    (λ e h. let f : le_z x y ≡ true = omega integers in rw (e, f))

partly : (o p : Ordering) → is_some_and is_le (partial_ordering_then (Some o) (Some p)) ≡ is_le (ordering_then o p)
partly Less p = refl
partly Equal p = refl
partly Greater p = refl

module _ (a b : Exact) (ha : a.part < D) (hb : b.part < D) where
  pub order-exact : ordering_then (int_cmp a.whole b.whole) (nat_cmp a.part b.part) ≡ int_cmp (numerator a) (numerator b)
  order-exact =
      by_ranked (a.whole <ℤ b.whole) (a.whole ≡ b.whole) (b.whole <ℤ a.whole) (int_cmp a.whole b.whole) (int_ranked a.whole b.whole (int_cmp a.whole b.whole) refl)
      (λ e h. ap (λ o. ordering_then o (nat_cmp a.part b.part)) e ∙ sym (less (numerator a) (numerator b) (omega (integers, numerator-parts a, numerator-parts b))))
      (λ e h. ap (λ o. ordering_then o (nat_cmp a.part b.part)) e ∙ beside h)
      (λ e h. ap (λ o. ordering_then o (nat_cmp a.part b.part)) e ∙ sym (greater (numerator a) (numerator b) (omega (integers, numerator-parts a, numerator-parts b))))
    where
      beside : a.whole ≡ b.whole → nat_cmp a.part b.part ≡ int_cmp (numerator a) (numerator b)
      beside h =
          by_ranked (a.part < b.part) (a.part ≡ b.part) (b.part < a.part) (nat_cmp a.part b.part) (ranked a.part b.part (nat_cmp a.part b.part) refl)
          (λ e k. e ∙ sym (less (numerator a) (numerator b) (omega (integers, numerator-parts a, numerator-parts b))))
          (λ e k. e ∙ sym (equal (numerator a) (numerator b) (omega (integers, numerator-parts a, numerator-parts b))))
          (λ e k. e ∙ sym (greater (numerator a) (numerator b) (omega (integers, numerator-parts a, numerator-parts b))))

  pub at_most-exact : is_some_and is_le (partial_ordering_then (Some (int_cmp a.whole b.whole)) (Some (nat_cmp a.part b.part))) ≡ le_z (numerator a) (numerator b)
  at_most-exact = partly (int_cmp a.whole b.whole) (nat_cmp a.part b.part) ∙ ap is_le order-exact ∙ is_le-int_cmp (numerator a) (numerator b)

pub larger-exact : (a b : Exact) → a.part < D → b.part < D → cond (is_lt (ordering_then (int_cmp b.whole a.whole) (nat_cmp b.part a.part))) a b ≡ larger_of a b
unfolding larger_of
larger-exact a b ha hb = ap (λ o. cond (is_lt o) a b) (order-exact b a hb ha) ∙ choice (numerator a) (numerator b) a b

-- the derived equality
pub same-exact : (a b : Exact) → int_eq a.whole b.whole && eqb a.part b.part ≡ same_exact a b
unfolding same_exact
same-exact a b = ap (λ t. t && eqb a.part b.part) (one_answer (int_eq a.whole b.whole) (eqℤ a.whole b.whole) (signed_Decides a.whole b.whole) (eqℤ-true a.whole b.whole, λ e. rw e (eqℤ-refl b.whole)))
