-- A place that has no word: none of the places of a list.
use mathlib.Core.Path.{◌≡◌, refl}
use mathlib.Core.List.{List, [], ◌∷◌}
use Prim.Native.Nat.{ℕ, zero, suc}
use Rattle.text.specs.Numbers.{ascii}
use Rattle.sentences.specs.Sentences.{name_text, ordinal, cardinal}

-- a number is none of these, the first of them last
abbrev pub NoneOf : ℕ → List ℕ → Type 0
NoneOf n [] = Unit {0}
NoneOf n (k ∷ rest) = NoneOf n rest × (n ≡ k → ⊥)

pub no_name : (n : ℕ) → NoneOf n (6 ∷ 5 ∷ 4 ∷ 3 ∷ 2 ∷ 1 ∷ []) → name_text n ≡ []
unfolding name_text ascii
no_name zero r = refl
no_name (suc zero) r = absurd (r.0.0.0.0.0.1 refl)
no_name (suc (suc zero)) r = absurd (r.0.0.0.0.1 refl)
no_name (suc (suc (suc zero))) r = absurd (r.0.0.0.1 refl)
no_name (suc (suc (suc (suc zero)))) r = absurd (r.0.0.1 refl)
no_name (suc (suc (suc (suc (suc zero))))) r = absurd (r.0.1 refl)
no_name (suc (suc (suc (suc (suc (suc zero)))))) r = absurd (r.1 refl)
no_name (suc (suc (suc (suc (suc (suc (suc n))))))) r = refl

pub no-ordinal : (n : ℕ) → NoneOf n (7 ∷ 6 ∷ 5 ∷ 4 ∷ 3 ∷ 2 ∷ 1 ∷ 0 ∷ []) → ordinal n ≡ []
unfolding ordinal ascii
no-ordinal zero r = absurd (r.0.0.0.0.0.0.0.1 refl)
no-ordinal (suc zero) r = absurd (r.0.0.0.0.0.0.1 refl)
no-ordinal (suc (suc zero)) r = absurd (r.0.0.0.0.0.1 refl)
no-ordinal (suc (suc (suc zero))) r = absurd (r.0.0.0.0.1 refl)
no-ordinal (suc (suc (suc (suc zero)))) r = absurd (r.0.0.0.1 refl)
no-ordinal (suc (suc (suc (suc (suc zero))))) r = absurd (r.0.0.1 refl)
no-ordinal (suc (suc (suc (suc (suc (suc zero)))))) r = absurd (r.0.1 refl)
no-ordinal (suc (suc (suc (suc (suc (suc (suc zero))))))) r = absurd (r.1 refl)
no-ordinal (suc (suc (suc (suc (suc (suc (suc (suc n)))))))) r = refl

pub no-cardinal : (n : ℕ) → NoneOf n (8 ∷ 7 ∷ 6 ∷ 5 ∷ 4 ∷ 3 ∷ 2 ∷ 1 ∷ []) → cardinal n ≡ []
unfolding cardinal ascii
no-cardinal zero r = refl
no-cardinal (suc zero) r = absurd (r.0.0.0.0.0.0.0.1 refl)
no-cardinal (suc (suc zero)) r = absurd (r.0.0.0.0.0.0.1 refl)
no-cardinal (suc (suc (suc zero))) r = absurd (r.0.0.0.0.0.1 refl)
no-cardinal (suc (suc (suc (suc zero)))) r = absurd (r.0.0.0.0.1 refl)
no-cardinal (suc (suc (suc (suc (suc zero))))) r = absurd (r.0.0.0.1 refl)
no-cardinal (suc (suc (suc (suc (suc (suc zero)))))) r = absurd (r.0.0.1 refl)
no-cardinal (suc (suc (suc (suc (suc (suc (suc zero))))))) r = absurd (r.0.1 refl)
no-cardinal (suc (suc (suc (suc (suc (suc (suc (suc zero)))))))) r = absurd (r.1 refl)
no-cardinal (suc (suc (suc (suc (suc (suc (suc (suc (suc n))))))))) r = refl
