-- Weighted backward differences of samples x(0), x(1), .., the newest first: the sums and their laws.
use Rattle.std.specs.Prelude.{◌≡◌, refl, List, [], ◌∷◌, ◌++◌, ℕ, zero, suc, ◌*◌, ◌≤◌, ◌<◌, ℤ, pos, neg_ℤ, nat_abs, ◌+ℤ◌, ◌-ℤ◌, ◌*ℤ◌, length, take, replicate}
use Rattle.std.proofs.Common.{sym, ap, ◌∙◌, zero-le, mul-le-mul_left, add-mul, arith}
use Rattle.std.proofs.Math.IntN.{+ℤ_assoc, +ℤ_comm, +ℤ_idl, zero-*ℤ}
use Rattle.integers.specs.Size.{nat_abs-+ℤ, nat_abs-*ℤ}
use Rattle.integers.specs.Solver.{atom, terms, ring}
use Rattle.integers.specs.Differences.{at, back, older, by_differences, by_samples, spread, ordinates, sizes}

-- ---- the places of a list

at-zeros : (n k : ℕ) → at (replicate n (pos 0)) k ≡ pos 0
at-zeros zero k = refl
at-zeros (suc n) zero = refl
at-zeros (suc n) (suc k) = at-zeros n k

-- the first p of a list, with zeros after them: as in the list below p, and 0 from p on
pub at-taken : (p n : ℕ) (xs : List ℤ) (k : ℕ) → k < p → at (take p xs ++ replicate n (pos 0)) k ≡ at xs k
at-taken zero n xs k h = absurd (omega arith)
at-taken (suc p) n [] k h = at-zeros n k
at-taken (suc p) n (x ∷ xs) zero h = refl
at-taken (suc p) n (x ∷ xs) (suc k) h = at-taken p n xs k (omega arith)

pub past-taken : (p n : ℕ) (xs : List ℤ) (k : ℕ) → p ≤ k → at (take p xs ++ replicate n (pos 0)) k ≡ pos 0
past-taken zero n xs k h = at-zeros n k
past-taken (suc p) n [] k h = at-zeros n k
past-taken (suc p) n (x ∷ xs) zero h = absurd (omega arith)
past-taken (suc p) n (x ∷ xs) (suc k) h = past-taken p n xs k (omega arith)

-- ---- differences and ordinates come to the same

spread-law : (a : ℤ) (ws : List ℤ) (x : ℕ → ℤ) → by_samples (spread a ws) x ≡ a *ℤ x 0 +ℤ by_samples ws (back x)
unfolding by_samples spread
spread-law a [] x = refl
spread-law a (w ∷ ws) x = ap (λ r. (a +ℤ w) *ℤ x 0 +ℤ r) (spread-law _ ws (older x)) ∙ regroup a w (x 0) (x 1) (by_samples ws (back (older x)))
  where
    regroup : (a w x y r : ℤ) → (a +ℤ w) *ℤ x +ℤ (neg_ℤ w *ℤ y +ℤ r) ≡ a *ℤ x +ℤ (w *ℤ (x -ℤ y) +ℤ r)
    regroup a w x y r = rw (atom 0 a, atom 1 w, atom 2 x, atom 3 y, atom 4 r) (simp terms (ring _ _ refl))

pub ordinates-law : (bs : List ℤ) (x : ℕ → ℤ) → by_samples (ordinates bs) x ≡ by_differences bs x
unfolding by_samples by_differences ordinates
ordinates-law [] x = refl
ordinates-law (a ∷ bs) x = spread-law a (ordinates bs) x ∙ ap (λ r. a *ℤ x 0 +ℤ r) (ordinates-law bs (back x))

spread-length : (a : ℤ) (ws : List ℤ) → length (spread a ws) ≡ suc (length ws)
unfolding spread
spread-length a [] = refl
spread-length a (w ∷ ws) = ap suc (spread-length (neg_ℤ w) ws)

pub length-ordinates : (bs : List ℤ) → length (ordinates bs) ≡ length bs
unfolding ordinates
length-ordinates [] = refl
length-ordinates (a ∷ bs) = spread-length a (ordinates bs) ∙ ap suc (length-ordinates bs)

-- ---- sums by samples

-- weights of 0 at the end add nothing
pub padded : (ws : List ℤ) (n : ℕ) (x : ℕ → ℤ) → by_samples (ws ++ replicate n (pos 0)) x ≡ by_samples ws x
unfolding by_samples
padded [] zero x = refl
padded [] (suc n) x = rw (zero-*ℤ, +ℤ_idl) (padded [] n (older x))
padded (w ∷ ws) n x = ap (λ r. w *ℤ x 0 +ℤ r) (padded ws n (older x))

-- one weight more at the end
pub one_more : (ws : List ℤ) (w : ℤ) (x : ℕ → ℤ) → by_samples (ws ++ w ∷ []) x ≡ by_samples ws x +ℤ w *ℤ x (length ws)
unfolding by_samples
one_more [] w x = +ℤ_comm (w *ℤ x 0) (pos 0)
one_more (v ∷ ws) w x = ap (λ r. v *ℤ x 0 +ℤ r) (one_more ws w (older x)) ∙ sym (+ℤ_assoc (v *ℤ x 0) _ _)

-- ---- sums by differences

-- a step back in time is a step up in the differences
pub by-older : (bs : List ℤ) (x : ℕ → ℤ) → by_differences bs x -ℤ by_differences bs (older x) ≡ by_differences bs (back x)
unfolding by_differences
by-older [] x = refl
by-older (a ∷ bs) x = rw (← (by-older bs (back x))) (regroup a (x 0) (x 1) (by_differences bs (back x)) (by_differences bs (back (older x))))
  where
    regroup : (a x y u v : ℤ) → (a *ℤ x +ℤ u) -ℤ (a *ℤ y +ℤ v) ≡ a *ℤ (x -ℤ y) +ℤ (u -ℤ v)
    regroup a x y u v = rw (atom 0 a, atom 1 x, atom 2 y, atom 3 u, atom 4 v) (simp terms (ring _ _ refl))

-- samples that add give sums that add
pub by-sum : (bs : List ℤ) (x y z : ℕ → ℤ) → ((k : ℕ) → z k ≡ x k +ℤ y k) → by_differences bs z ≡ by_differences bs x +ℤ by_differences bs y
unfolding by_differences
by-sum [] x y z h = refl
by-sum (a ∷ bs) x y z h =
    rw (h 0, by-sum bs (back x) (back y) (back z) (λ k. rw (h k, h (suc k)) (apart (x k) (y k) (x (suc k)) (y (suc k)))))
    (regroup a (x 0) (y 0) (by_differences bs (back x)) (by_differences bs (back y)))
  where
    apart : (a b c d : ℤ) → (a +ℤ b) -ℤ (c +ℤ d) ≡ (a -ℤ c) +ℤ (b -ℤ d)
    apart a b c d = rw (atom 0 a, atom 1 b, atom 2 c, atom 3 d) (simp terms (ring _ _ refl))

    regroup : (a x y u v : ℤ) → a *ℤ (x +ℤ y) +ℤ (u +ℤ v) ≡ (a *ℤ x +ℤ u) +ℤ (a *ℤ y +ℤ v)
    regroup a x y u v = rw (atom 0 a, atom 1 x, atom 2 y, atom 3 u, atom 4 v) (simp terms (ring _ _ refl))

-- n weights read the first n samples
pub same_first : (bs : List ℤ) (x y : ℕ → ℤ) → ((k : ℕ) → k < length bs → x k ≡ y k) → by_differences bs x ≡ by_differences bs y
unfolding by_differences
same_first [] x y h = refl
same_first (a ∷ bs) x y h = rw (h 0 (omega arith), same_first bs (back x) (back y) (λ k b. rw (h k (omega arith), h (suc k) (omega arith))))

-- ---- how large they become

-- one weight, and the first weights, are no larger than all
pub size-at : (ws : List ℤ) (k : ℕ) → nat_abs (at ws k) ≤ sizes ws
unfolding sizes
size-at [] k = zero-le
size-at (w ∷ ws) zero = omega arith
size-at (w ∷ ws) (suc k) = omega (arith, size-at ws k)

pub sizes-take : (n : ℕ) (ws : List ℤ) → sizes (take n ws) ≤ sizes ws
unfolding sizes
sizes-take zero ws = zero-le
sizes-take (suc n) [] = zero-le
sizes-take (suc n) (w ∷ ws) = omega (arith, sizes-take n ws)

-- of samples no larger than m
pub size-of-product : (w x : ℤ) {m : ℕ} → nat_abs x ≤ m → nat_abs (w *ℤ x) ≤ nat_abs w * m
size-of-product w x h = rw (nat_abs-*ℤ w x) (mul-le-mul_left (nat_abs w) h)

pub size-of-sum : (ws : List ℤ) (x : ℕ → ℤ) {m : ℕ} → ((k : ℕ) → nat_abs (x k) ≤ m) → nat_abs (by_samples ws x) ≤ sizes ws * m
unfolding sizes by_samples
size-of-sum [] x h = zero-le
size-of-sum (w ∷ ws) x {m} h =
    rw add-mul
    (omega (arith, nat_abs-+ℤ (w *ℤ x 0) (by_samples ws (older x)), size-of-product w (x 0) (h 0), size-of-sum ws (older x) (λ k. h (suc k))))
