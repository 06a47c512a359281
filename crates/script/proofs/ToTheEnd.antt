-- Pieces of a line, read one after another up to its end.
use mathlib.Core.Path.{◌≡◌, refl, sym, ◌∙◌, ap}
use mathlib.Core.Bool.{Bool, true, false}
use mathlib.Core.List.{List, [], ◌∷◌, ◌++◌, append-nil, append_assoc}
use Prim.Native.Nat.{ℕ, zero, suc, ◌+◌, ◌-◌, ◌<◌, ◌≤◌}
use native.Mathlib.Omega.{arith}
use lib.ListN.{length}
use Rattle.script.specs.Words.{Place, Reader, is_over, ◌>>=◌, pure}
use Rattle.script.specs.Series.{series}

-- what a series is where some pieces were read, by what is left
abbrev pub after : {A : Type 0} → List A → List A × Place → List A × Place
after xs r = (xs ++ r.0, r.1)

after-after : {A : Type 0} (xs ys : List A) (r : List A × Place) → after xs (after ys r) ≡ after (xs ++ ys) r
after-after xs ys r = ap (λ zs. (zs, r.1)) (sym (append_assoc xs ys r.0))

module _ {A : Type 0} (read : Reader A) where
  -- what is read by whether the line ends
  abbrev more : ℕ → Place → Bool → List A × Place
  more n p over = elim over as (λ _. List A × Place) [ true ↦ ([], p) | false ↦ (read >>= (λ x. series read n >>= (λ xs. pure (x ∷ xs)))) p ]

  ended : (n : ℕ) (p : Place) → is_over p ≡ true → series read n p ≡ ([], p)
  unfolding series
  ended zero p e = refl
  ended (suc n) p e = ap (more n p) e

  first : (n : ℕ) (p q : Place) (x : A) → is_over p ≡ false → read p ≡ (x, q) → series read (suc n) p ≡ after (x ∷ []) (series read n q)
  unfolding series
  first n p q x e h = ap (more n p) e ∙ ap (λ r. after (r.0 ∷ []) (series read n r.1)) h

  module _ (most k : ℕ) (start p : Place) (xs : List A) (so_far : series read most start ≡ after xs (series read (most - k) p)) where
    -- at the line's end, and when no more fit
    pub at_end : is_over p ≡ true → series read most start ≡ (xs, p)
    at_end e = so_far ∙ ap (after xs) (ended (most - k) p e) ∙ ap (λ zs. (zs, p)) (append-nil xs)

    pub full : most ≤ k → series read most start ≡ (xs, p)
    unfolding series
    full h =
        let z : most - k ≡ 0 = omega arith in
        so_far ∙ ap (λ n. after xs (series read n p)) z ∙ ap (λ zs. (zs, p)) (append-nil xs)

    module _ (h : k < most) (e : is_over p ≡ false) where
      left : most - k ≡ suc (most - (k + 1))
      left = omega arith

      pub one_more : (x : A) (q : Place) → read p ≡ (x, q) → series read most start ≡ after (xs ++ (x ∷ [])) (series read (most - (k + 1)) q)
      one_more x q s =
          so_far
          ∙ ap (λ n. after xs (series read n p)) left
          ∙ ap (after xs) (first (most - (k + 1)) p q x e s)
          ∙ after-after xs (x ∷ []) (series read (most - (k + 1)) q)

  -- ---- there are no more pieces than may be read

  few_by : (n : ℕ) (p : Place) (over : Bool) → ((q : Place) → length (series read n q).0 ≤ n) → length (more n p over).0 ≤ suc n
  few_by n p true h = omega arith
  few_by n p false h = omega (arith, h (read p).1)

  pub few : (n : ℕ) (p : Place) → length (series read n p).0 ≤ n
  unfolding series
  few zero p = omega arith
  few (suc n) p = few_by n p (is_over p) (few n)
