-- What is printed by a number: the kind of a change, and the number of a refusal.
use mathlib.Core.Path.{◌≡◌, refl, ◌∙◌}
use mathlib.Core.Bool.{cond}
use mathlib.Core.List.{List, ◌++◌, flatten}
use Prim.Native.Nat.{ℕ}
use lib.Dec.{eqb}
use lib.IntN.{ℤ}
use lib.ListN.{take}
use borrow.Author.Tests.{eq-eqb, ne_eqb}
use Rattle.text.specs.Numbers.{ascii}
use Rattle.received.specs.declared.Received.{Received}
use Rattle.reports.specs.Reports.{what_text, names_in, points_text, points_of, changes_text, changes_of, stopped_line, refused_line, report_of, list_of}

module _ (n m : ℕ) (a b : List ℕ) where
  same : n ≡ m → cond (eqb n m) a b ≡ a
  same e = rw (eq-eqb n m e) refl

  other : (n ≡ m → ⊥) → cond (eqb n m) a b ≡ b
  other e = rw (ne_eqb n m e) refl

module _ (what : ℕ) where
  pub what-dropped : what ≡ 1 → what_text what ≡ ascii " dropped\n"
  unfolding what_text
  what-dropped e = same what 1 _ _ e

  pub what-start : (what ≡ 1 → ⊥) → what ≡ 2 → what_text what ≡ ascii " START_TIME\n"
  unfolding what_text
  what-start d e = other what 1 _ _ d ∙ same what 2 _ _ e

  pub what-stop : (what ≡ 1 → ⊥) → (what ≡ 2 → ⊥) → what_text what ≡ ascii " STOP_TIME\n"
  unfolding what_text
  what-stop d e = other what 1 _ _ d ∙ other what 2 _ _ e

module _ (text : List ℕ) (r : Received) (epochs : List ℕ) (values : List ℤ) where
  pub report-read : r.number ≡ 0 → report_of text r epochs values ≡ flatten (names_in text r) ++ points_text (take r.count (points_of epochs values))
  unfolding report_of
  report-read e = same r.number 0 _ _ e

  pub report-stopped : (r.number ≡ 0 → ⊥) → r.number ≡ 15 → report_of text r epochs values ≡ flatten (stopped_line r.line)
  unfolding report_of
  report-stopped d e = other r.number 0 _ _ d ∙ same r.number 15 _ _ e

  pub report-refused : (r.number ≡ 0 → ⊥) → (r.number ≡ 15 → ⊥) → report_of text r epochs values ≡ flatten (refused_line r.number)
  unfolding report_of
  report-refused d e = other r.number 0 _ _ d ∙ other r.number 15 _ _ e

module _ (number : ℕ) (words : List ℕ) (count : ℕ) where
  pub list-mended : number ≡ 0 → list_of number words count ≡ changes_text (take count (changes_of words))
  unfolding list_of
  list-mended e = same number 0 _ _ e

  pub list-refused : (number ≡ 0 → ⊥) → list_of number words count ≡ flatten (refused_line number)
  unfolding list_of
  list-refused d = other number 0 _ _ d
