-- The first newline of a text: where its first line ends, and what stands before it.
use mathlib.Core.Path.{◌≡◌, refl, sym, ◌∙◌, ap}
use mathlib.Core.Bool.{Bool, true, false, cond}
use mathlib.Core.List.{List, [], ◌∷◌}
use Prim.Native.Nat.{ℕ, suc, ◌+◌, ◌≤◌, ◌<◌}
use native.Mathlib.Numerals.{one-add}
use native.Mathlib.Omega.{arith}
use lib.Dec.{eqb, ltb}
use lib.ListN.{length, take, drop, length-drop}
use lib.Seq.{take_all}
use borrow.Author.Tests.{ltb-true, ltb-false}
use Rattle.std.specs.Prelude.{Some, None, not}
use Rattle.std.specs.List.{position_or_len}
use Rattle.std.proofs.lemmas.List.Sums.{prefix_len-le-length}
use Rattle.received.specs.Lines.{first_line, newline_in, past_line}
use Rattle.received.specs.Versions.{up_to_newline}

abbrev newline_at : List ℕ → ℕ
newline_at s = position_or_len (λ b. eqb b 10) s

first-long : (s : List ℕ) → newline_at s < length s → length (first_line s) ≡ newline_at s + 1
unfolding first_line
first-long [] h = absurd (omega arith)
first-long (b ∷ s) h = by (eqb b 10) h (first-long s)
  where
    by : (t : Bool) → cond (not t) (1 + newline_at s) 0 < suc (length s) → (newline_at s < length s → length (first_line s) ≡ newline_at s + 1)
        → length (cond t (b ∷ []) (b ∷ first_line s)) ≡ cond (not t) (1 + newline_at s) 0 + 1
    by true h ih = refl
    by false h ih = omega (arith, ih (omega arith))

first-whole : (s : List ℕ) → length s ≡ newline_at s → length (first_line s) ≡ length s
unfolding first_line
first-whole [] h = refl
first-whole (b ∷ s) h = by (eqb b 10) h (first-whole s)
  where
    by : (t : Bool) → suc (length s) ≡ cond (not t) (1 + newline_at s) 0 → (length s ≡ newline_at s → length (first_line s) ≡ length s)
        → length (cond t (b ∷ []) (b ∷ first_line s)) ≡ suc (length s)
    by true h ih = absurd (omega arith)
    by false h ih = omega (arith, ih (omega arith))

before : (s : List ℕ) → take (newline_at s) s ≡ up_to_newline s
unfolding up_to_newline
before [] = refl
before (b ∷ s) = by (eqb b 10) (before s)
  where
    by : (t : Bool) → take (newline_at s) s ≡ up_to_newline s → take (cond (not t) (1 + newline_at s) 0) (b ∷ s) ≡ cond t [] (b ∷ up_to_newline s)
    by true ih = refl
    by false ih = ap (λ k. take k (b ∷ s)) (one-add (newline_at s)) ∙ ap (λ r. b ∷ r) ih

module _ (s : List ℕ) where
  pub at_newline : (i : ℕ) → Some i ≡ newline_in s → (length (first_line s) ≡ i + 1) × (take i s ≡ up_to_newline s) × (i < length s)
  at_newline i e = by (ltb (newline_at s) (length s)) refl e
    where
      by : (t : Bool) → ltb (newline_at s) (length s) ≡ t → Some i ≡ cond t (Some (newline_at s)) None
          → (length (first_line s) ≡ i + 1) × (take i s ≡ up_to_newline s) × (i < length s)
      by true t e =
          let n = ltb-true (newline_at s) (length s) t in
          let same : i ≡ newline_at s = cc in
          (first-long s n ∙ ap (λ k. k + 1) (sym same), ap (λ k. take k s) same ∙ before s, omega (arith, n, same))
      by false t e = cc

  pub no-newline : None ≡ newline_in s → (length (first_line s) ≡ length s) × (s ≡ up_to_newline s)
  no-newline e = by (ltb (newline_at s) (length s)) refl e
    where
      by : (t : Bool) → ltb (newline_at s) (length s) ≡ t → None ≡ cond t (Some (newline_at s)) None
          → (length (first_line s) ≡ length s) × (s ≡ up_to_newline s)
      by true t e = cc
      by false t e =
          let all : length s ≡ newline_at s = omega (arith, ltb-false (newline_at s) (length s) t, prefix_len-le-length (λ b. not (eqb b 10)) s) in
          (first-whole s all, sym (take_all (newline_at s) s (omega (arith, all))) ∙ before s)

module _ (text : List ℕ) (at : ℕ) (h : at ≤ length text) where
  pub past_newline : (i : ℕ) → Some i ≡ newline_in (drop at text) → at + i + 1 ≡ past_line text at
  unfolding past_line
  past_newline i e = let n = (at_newline (drop at text) i e).0 in omega (arith, n)

  pub past_text : None ≡ newline_in (drop at text) → length text ≡ past_line text at
  unfolding past_line
  past_text e = let n = (no-newline (drop at text) e).0 in omega (arith, n, length-drop at text)
