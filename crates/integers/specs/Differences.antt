-- Weighted backward differences of samples x(0), x(1), .., the newest first: the sums. Their laws are in `proofs/Differences`.
use Rattle.std.specs.Prelude.{List, [], ◌∷◌, ℕ, zero, suc, ◌+◌, ℤ, pos, neg_ℤ, nat_abs, ◌+ℤ◌, ◌-ℤ◌, ◌*ℤ◌, get_or}

-- a list's elements, and 0 past its end
abbrev pub at : List ℤ → ℕ → ℤ
at xs k = get_or xs k (pos 0)

-- the backward difference B
abbrev pub back : (ℕ → ℤ) → ℕ → ℤ
back x k = x k -ℤ x (suc k)

-- the samples from the one before on
abbrev pub older : (ℕ → ℤ) → ℕ → ℤ
older x k = x (suc k)

-- the samples with one more in front
abbrev pub in_front : ℤ → (ℕ → ℤ) → ℕ → ℤ
in_front a x zero = a
in_front a x (suc k) = x k

-- by differences: a₀ x(0) + a₁ Bx(0) + a₂ BBx(0) + ..
unfoldable pub by_differences : List ℤ → (ℕ → ℤ) → ℤ
by_differences [] x = pos 0
by_differences (a ∷ bs) x = a *ℤ x 0 +ℤ by_differences bs (back x)

-- by samples: w₀ x(0) + w₁ x(1) + ..
unfoldable pub by_samples : List ℤ → (ℕ → ℤ) → ℤ
by_samples [] x = pos 0
by_samples (w ∷ ws) x = w *ℤ x 0 +ℤ by_samples ws (older x)

-- a x(0) + w₀ Bx(0) + w₁ Bx(1) + .. by samples: x(0) has a + w₀, and -w₀ is left to x(1), and so on
unfoldable pub spread : ℤ → List ℤ → List ℤ
spread a [] = a ∷ []
spread a (w ∷ ws) = (a +ℤ w) ∷ spread (neg_ℤ w) ws

-- the weights by samples that come to the same as the weights a₀, a₁, .. by differences
unfoldable pub ordinates : List ℤ → List ℤ
ordinates [] = []
ordinates (a ∷ bs) = spread a (ordinates bs)

-- |w₀| + |w₁| + ..
unfoldable pub sizes : List ℤ → ℕ
sizes [] = 0
sizes (w ∷ ws) = nat_abs w + sizes ws
