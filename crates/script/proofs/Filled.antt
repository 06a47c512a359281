-- An array that its values fill from its start, when one more is put behind them.
use mathlib.Core.Path.{◌≡◌, sym, ◌∙◌, ap}
use mathlib.Core.List.{List, [], ◌∷◌, ◌++◌, append_assoc}
use Prim.Native.Nat.{ℕ, suc, ◌+◌, ◌-◌, ◌<◌}
use native.Mathlib.Numerals.{add-one}
use native.Mathlib.Omega.{arith}
use lib.ListN.{length, take, drop, set, replicate, length-append}
use lib.Seq.{take_at, drop_at, drop-drop, length-take-le, set_split}
use Rattle.script.specs.Series.{array_of}

module _ {A : Type 0} (most k : ℕ) (empty : A) (values : List A) (h : k < most) (long : length values ≡ most) (e : values ≡ array_of most empty (take k values)) where
  size : length (take k values) ≡ k
  size = length-take-le k values (omega (arith, long))

  -- the others are empty
  others : drop k values ≡ replicate (most - k) empty
  others = ap (drop k) e ∙ drop_at (take k values) (replicate (most - length (take k values)) empty) k size ∙ ap (λ n. replicate (most - n) empty) size

  one_less : drop (suc k) values ≡ replicate (most - suc k) empty
  one_less =
      let m : most - k ≡ suc (most - suc k) = omega arith in
      ap (λ n. drop n values) (sym (add-one k)) ∙ sym (drop-drop 1 k values) ∙ ap (drop 1) (others ∙ ap (λ n. replicate n empty) m)

  pub one_more : (x : A) → set values k x ≡ array_of most empty (take (k + 1) (set values k x))
  one_more x =
      let xs = take k values ++ (x ∷ []) in
      let joined : set values k x ≡ xs ++ replicate (most - suc k) empty =
      set_split values k x (omega (arith, long))
      ∙ ap (λ ys. take k values ++ (x ∷ ys)) one_less
      ∙ sym (append_assoc (take k values) (x ∷ []) (replicate (most - suc k) empty)) in
      let many : length xs ≡ k + 1 = omega (arith, length-append (take k values) (x ∷ []), size) in
      let front : take (k + 1) (set values k x) ≡ xs =
      ap (take (k + 1)) joined ∙ take_at xs (replicate (most - suc k) empty) (k + 1) many in
      let left : most - suc k ≡ most - length xs = omega (arith, many) in
      joined ∙ ap (λ n. xs ++ replicate n empty) left ∙ ap (array_of most empty) (sym front)
