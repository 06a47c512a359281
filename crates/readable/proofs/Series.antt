-- Points one after the other, by a function of their number: their texts, and that they rise.
use mathlib.Core.Path.{◌≡◌, refl, sym, ◌∙◌, ap, ap₂}
use mathlib.Core.List.{List, ◌++◌, flatten, map, append_assoc, append-nil}
use Prim.Native.Nat.{ℕ, zero, suc, ◌+◌, ◌<◌, ◌≤◌}
use native.Mathlib.Nat.{add-zero, add-suc, suc-add}
use native.Mathlib.Omega.{arith}
use lib.ListN.{length}
use Rattle.message.specs.Message.{texts}
use Rattle.received.specs.Data.{Point, line_of, last_from}
use Rattle.received.specs.Messages.{Every, Rising}
use Rattle.readable.specs.Sent.{points_from}

module _ (f : ℕ → Point) where
  -- the texts of the first i, and of those from i on
  pub texts-from : (i n : ℕ) → texts (λ k. line_of (f k)) (i + n) ≡ texts (λ k. line_of (f k)) i ++ flatten (map line_of (points_from f i n))
  unfolding texts flatten
  texts-from i zero = ap (texts (λ k. line_of (f k))) (add-zero i) ∙ sym (append-nil _)
  texts-from i (suc n) =
      ap (texts (λ k. line_of (f k))) (add-suc i n ∙ sym (suc-add i n))
      ∙ texts-from (suc i) n
      ∙ append_assoc (texts (λ k. line_of (f k)) i) (line_of (f i)) (flatten (map line_of (points_from f (suc i) n)))

  pub every-from : (P : Point → Type 0) (i n : ℕ) → ((k : ℕ) → i ≤ k → k < i + n → P (f k)) → Every P (points_from f i n)
  every-from P i zero h = tt
  every-from P i (suc n) h = (h i (omega arith) (omega arith), every-from P (suc i) n (λ k l m. h k (omega arith) (omega arith)))

  pub rising-from : (earliest i n : ℕ) → ((k : ℕ) → (f k).seconds < (f (suc k)).seconds) → earliest ≤ (f i).seconds → Rising earliest (points_from f i n)
  rising-from earliest i zero h l = tt
  rising-from earliest i (suc n) h l = (l, rising-from (suc (f i).seconds) (suc i) n h (h i))

  pub length_from : (i n : ℕ) → length (points_from f i n) ≡ n
  length_from i zero = refl
  length_from i (suc n) = ap suc (length_from (suc i) n)

  pub last-from : (before i n : ℕ) → last_from before (points_from f i (suc n)) ≡ (f (i + n)).seconds
  unfolding last_from
  last-from before i zero = ap (λ k. (f k).seconds) (sym (add-zero i))
  last-from before i (suc n) = last-from (f i).seconds (suc i) n ∙ ap (λ k. (f k).seconds) (suc-add i n ∙ sym (add-suc i n))

-- two functions with the same texts
pub same-texts : (f g : ℕ → List ℕ) → ((i : ℕ) → f i ≡ g i) → (n : ℕ) → texts f n ≡ texts g n
unfolding texts
same-texts f g h zero = refl
same-texts f g h (suc n) = ap₂ (λ x y. x ++ y) (same-texts f g h n) (h n)
