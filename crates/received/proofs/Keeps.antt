-- The points of data lines one after another, and the rooms that they fill from their starts.
use mathlib.Core.Path.{◌≡◌, refl, sym, ◌∙◌, ap, subst}
use mathlib.Core.Bool.{true, false}
use Rattle.std.specs.Prelude.{Option, Some, None, MatchOption, IsSome}
use Rattle.integers.specs.Tests.{clash}
use Rattle.received.specs.declared.data.Datum.{Datum}
use mathlib.Core.List.{List, [], ◌∷◌, ◌++◌, map, flatten, append-nil, append_assoc}
use Prim.Native.Nat.{ℕ, suc, ◌+◌, ◌*◌, ◌≤◌, ◌<◌}
use native.Mathlib.Nat.{add-zero}
use native.Mathlib.Numerals.{add-one}
use native.Mathlib.Omega.{arith}
use lib.IntN.{ℤ}
use lib.ListN.{length, take, drop, set, length-set, take-append-drop}
use lib.Seq.{paste, take-paste, drop-paste, length-paste, take_all, drop-drop, take-suc-set, drop-set-lt}
use Rattle.received.specs.Lines.{lines_in, past_line}
use Rattle.received.specs.Data.{datum_in, point_in, value_in, AllGood, IsDatum}
use Rattle.received.specs.Answer.{seconds_of, values_of}
use Rattle.received.proofs.Cuts.{between, past_end, past-within, at-line}
use Rattle.received.proofs.Points.{length-ones}

pub six : (line : List ℕ) → length (datum_in line).values ≡ 6
unfolding datum_in
six line = length-ones (value_in line) 6

-- so many points are kept, and what is left to read gives the rest
pub record Keeping (text : List ℕ) (from : ℕ) (epochs₀ : List ℕ) (values₀ : List ℤ) (epochs : List ℕ) (values : List ℤ) (at i : ℕ) : Type 0 where
  pub within : at ≤ length text
  pub lines : length (lines_in (drop from text)) ≡ i + length (lines_in (drop at text))
  pub long : length epochs ≡ length epochs₀
  pub wide : length values ≡ length values₀
  pub kept : seconds_of (map point_in (lines_in (drop from text))) ≡ take i epochs ++ seconds_of (map point_in (lines_in (drop at text)))
  pub behind : drop i epochs ≡ drop i epochs₀
  pub held : values_of (map point_in (lines_in (drop from text))) ≡ take (6 * i) values ++ values_of (map point_in (lines_in (drop at text)))
  pub beyond : drop (6 * i) values ≡ drop (6 * i) values₀

pub begun : (text : List ℕ) (from : ℕ) (epochs : List ℕ) (values : List ℤ) → from ≤ length text → Keeping text from epochs values epochs values from 0
begun text from epochs values h =
    record { within = h; lines = omega arith; long = refl; wide = refl; kept = refl; behind = refl; held = refl; beyond = refl }

module _ (text : List ℕ) (from : ℕ) {epochs₀ : List ℕ} {values₀ : List ℤ} {epochs : List ℕ} {values : List ℤ} {at i : ℕ} (k : Keeping text from epochs₀ values₀ epochs values at i) where
  abbrev whole : List (List ℕ)
  whole = lines_in (drop from text)

  -- every line is kept
  module _ (h : length text ≤ at) where
    count : i ≡ length whole
    count = sym (k.lines ∙ ap (λ ls. i + length ls) (past_end text at h) ∙ add-zero i)

    pub epochs-done : epochs ≡ seconds_of (map point_in whole) ++ drop (length whole) epochs₀
    epochs-done =
        sym (take-append-drop i epochs)
        ∙ ap (λ xs. xs ++ drop i epochs)
        (sym (k.kept ∙ ap (λ ls. take i epochs ++ seconds_of (map point_in ls)) (past_end text at h) ∙ append-nil (take i epochs)))
        ∙ ap (λ xs. seconds_of (map point_in whole) ++ xs) (k.behind ∙ ap (λ n. drop n epochs₀) count)

    pub values-done : values ≡ values_of (map point_in whole) ++ drop (6 * length whole) values₀
    unfolding flatten
    values-done =
        sym (take-append-drop (6 * i) values)
        ∙ ap (λ xs. xs ++ drop (6 * i) values)
        (sym (k.held ∙ ap (λ ls. take (6 * i) values ++ values_of (map point_in ls)) (past_end text at h) ∙ append-nil (take (6 * i) values)))
        ∙ ap (λ xs. values_of (map point_in whole) ++ xs) (k.beyond ∙ ap (λ n. drop (6 * n) values₀) count)

  -- one line more
  module _ (h : at < length text) where
    abbrev line : List ℕ
    line = between text at (past_line text at)

    abbrev others : List (List ℕ)
    others = lines_in (drop (past_line text at) text)

    pub some_left : suc i ≤ length whole
    some_left = omega (arith, k.lines, ap length (at-line text at h))

    module _ (e : length whole ≤ length epochs₀) (w : 6 * length whole ≤ length values₀) where
      pub one_more : {end : ℕ} → end ≡ past_line text at → {s : ℕ} → s ≡ (datum_in line).seconds → {vs : List ℤ} → vs ≡ (datum_in line).values → {after : List ℤ} → after ≡ paste values (6 * i) vs 6
          → Keeping text from epochs₀ values₀ (set epochs i s) after end (i + 1)
      unfolding flatten
      one_more q {s} d {vs} v {after} p =
          let n : length vs ≡ 6 = ap length v ∙ six line in
          let m : 6 * (i + 1) ≡ 6 * i + 6 = omega arith in
          let r : 6 * i + 6 ≤ length values = omega (arith, some_left, k.wide) in
          let front : take (6 * i + 6) after ≡ take (6 * i) values ++ vs =
          ap (take (6 * i + 6)) p
          ∙ take-paste values (6 * i) vs 6 (omega (arith, r)) (omega (arith, n))
          ∙ ap (λ xs. take (6 * i) values ++ xs) (take_all 6 vs (omega (arith, n))) in
          subst (λ x. Keeping text from epochs₀ values₀ (set epochs i s) after x (i + 1)) (sym q) (record {
            within = past-within text at k.within;
            lines = omega (arith, k.lines, ap length (at-line text at h));
            long = length-set epochs i s ∙ k.long;
            wide = ap length p ∙ length-paste values (6 * i) vs 6 r (omega (arith, n)) ∙ k.wide;
            kept =
                k.kept
                ∙ ap (λ ls. take i epochs ++ seconds_of (map point_in ls)) (at-line text at h)
                ∙ ap (λ x. take i epochs ++ (x ∷ seconds_of (map point_in others))) (sym d)
                ∙ sym (append_assoc (take i epochs) (s ∷ []) (seconds_of (map point_in others)))
                ∙ ap (λ xs. xs ++ seconds_of (map point_in others))
                (sym (ap (λ j. take j (set epochs i s)) (add-one i) ∙ take-suc-set epochs i s (omega (arith, some_left, k.long))));
            behind =
                ap (λ j. drop j (set epochs i s)) (add-one i)
                ∙ drop-set-lt (suc i) epochs i s (omega arith)
                ∙ ap (λ j. drop j epochs) (sym (add-one i))
                ∙ sym (drop-drop 1 i epochs)
                ∙ ap (drop 1) k.behind
                ∙ drop-drop 1 i epochs₀;
            held =
                k.held
                ∙ ap (λ ls. take (6 * i) values ++ values_of (map point_in ls)) (at-line text at h)
                ∙ ap (λ xs. take (6 * i) values ++ (xs ++ values_of (map point_in others))) (sym v)
                ∙ sym (append_assoc (take (6 * i) values) vs (values_of (map point_in others)))
                ∙ ap (λ xs. xs ++ values_of (map point_in others)) (sym (ap (λ j. take j after) m ∙ front));
            beyond =
                ap (λ j. drop j after) m
                ∙ ap (drop (6 * i + 6)) p
                ∙ drop-paste values (6 * i) vs 6 (omega (arith, r)) (omega (arith, n))
                ∙ sym (drop-drop 6 (6 * i) values)
                ∙ ap (drop 6) k.beyond
                ∙ drop-drop 6 (6 * i) values₀
                ∙ ap (λ j. drop j values₀) (sym m);
          })

-- ---- lines that can be read

pub good-line : (text : List ℕ) (at : ℕ) → at < length text → AllGood (lines_in (drop at text))
    → ((datum_in (between text at (past_line text at))).good ≡ true) × AllGood (lines_in (drop (past_line text at) text))
good-line text at h a = subst AllGood (at-line text at h) a

module _ (line : List ℕ) where
  pub read_some : (o : Option Datum) → MatchOption o ((datum_in line).good ≡ false) (IsDatum line) → (datum_in line).good ≡ true → IsSome o
  read_some None n g = clash g n
  read_some (Some d) h g = refl

  pub read_told : (o : Option Datum) → MatchOption o ((datum_in line).good ≡ false) (IsDatum line) → {d : Datum} → o ≡ Some d → IsDatum line d
  read_told o m e = subst (λ x. MatchOption x ((datum_in line).good ≡ false) (IsDatum line)) e m
