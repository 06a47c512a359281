-- The version that a text names, and when it is another than an edition's.
use mathlib.Core.Path.{◌≡◌, sym, ◌∙◌, ap}
use mathlib.Core.Bool.{Bool, true, false, not}
use mathlib.Core.List.{List}
use Prim.Native.Nat.{ℕ}
use lib.ListN.{length, take, drop}
use Rattle.std.specs.Prelude.{nat_eq}
use Rattle.std.specs.Cmp.Lexicographic.{pointwise, other_text, same_text as text_told}
use Rattle.integers.specs.Tests.{fails, and_no, and_yes}
use Rattle.text.specs.Numbers.{ascii}
use Rattle.calendar.specs.Text.{same_text}
use Rattle.calendar.proofs.Back.{same_true}
use Rattle.message.specs.declared.Edition.{Edition}
use Rattle.message.specs.Editions.{version_of}
use Rattle.received.specs.Versions.{version_front, up_to_newline, has_version, named_in, is_other}
use Rattle.received.specs.Reading.{front_at}
use Rattle.received.proofs.Fronts.{same-eq}

module _ (e : Edition) (text : List ℕ) {front : List ℕ} (f : front ≡ front_at 0) where
  pub no-version : pointwise nat_eq (take (length front) text) front ≡ false → false ≡ is_other e text
  unfolding is_other has_version ascii
  no-version n =
      and_no _
      (fails (same_text (take (length version_front) text) version_front)
      (λ s. other_text (take (length front) text) front (sym n)
      (ap (λ x. take (length x) text) f ∙ same_true (take (length version_front) text) version_front s ∙ sym f)))

  pub names : pointwise nat_eq (take (length front) text) front ≡ true → {named : List ℕ} → named ≡ drop (length front) text
      → {r : Bool} → r ≡ same_text (up_to_newline named) (version_of e) → not r ≡ is_other e text
  unfolding is_other has_version named_in ascii
  names s {named} d r =
      and_yes (same-eq (ap (λ x. take (length x) text) (sym f) ∙ text_told (take (length front) text) front (sym s) ∙ f))
      (ap not (r ∙ ap (λ x. same_text (up_to_newline x) (version_of e)) (d ∙ ap (λ x. drop (length x) text) f)))
