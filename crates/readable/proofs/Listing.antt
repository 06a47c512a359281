-- What is listed: a time that is not yet the one that it has to be, and that the numbers rise.
use mathlib.Core.Path.{◌≡◌, refl, sym, ◌∙◌, ap, subst}
use mathlib.Core.Logic.{inl, inr}
use mathlib.Core.Bool.{Bool, true, false, cond}
use mathlib.Core.List.{List, [], ◌∷◌, ◌++◌, flatten}
use Prim.Native.Nat.{ℕ, suc, ◌≤◌, ◌<◌}
use Prim.Native.String.{String}
use native.Mathlib.Omega.{arith}
use lib.ListN.{length, take, drop, length-append}
use Rattle.integers.specs.Tests.{clash, fails}
use Rattle.calendar.specs.Text.{same_text}
use Rattle.calendar.proofs.Back.{same_true, same_refl}
use Rattle.message.specs.Message.{says, time_after}
use Rattle.text.specs.Numbers.{ascii}
use Rattle.message.specs.declared.Edition.{Edition}
use Rattle.received.specs.Slots.{rest_in}
use Rattle.received.specs.Reading.{start_slot, stop_slot, data_slot, rest_at, number_at}
use Rattle.received.specs.Mending.{Change, change, time_change}
use Rattle.readable.specs.Changes.{Rise, Lists}
use Rattle.readable.proofs.Lines.{flat_append}
use Rattle.readable.proofs.Runs.{rise-from, numbers_of}
use Rattle.readable.proofs.Heads.{Parts, head_from, rest-says}

-- lines with one keyword are the same only where the values are
pub same-value : (keyword : String) (value other : List ℕ) → says keyword value ≡ says keyword other → value ≡ other
same-value keyword value other e =
    sym (rest-says keyword value) ∙ ap (λ l. rest_in (ascii keyword ++ ascii " = ") l) e ∙ rest-says keyword other

module _ {e : Edition} (p : Parts e) (slot : ℕ) (keyword : String) (value : List ℕ) (found : rest_at (head_from p) slot ≡ value) (seconds what : ℕ) where
  pub lists-settle : (changes : List Change) → Lists (says keyword value) (says keyword (time_after seconds)) (change (number_at (head_from p) slot) what) changes
      → time_change (head_from p) slot what seconds ≡ changes
  unfolding time_change
  lists-settle changes (inl (e, c)) =
      ap (λ s. cond (same_text s (time_after seconds)) [] (change (number_at (head_from p) slot) what ∷ [])) (found ∙ same-value keyword value (time_after seconds) e)
      ∙ ap (λ t. cond t [] (change (number_at (head_from p) slot) what ∷ [])) (same_refl (time_after seconds))
      ∙ sym c
  lists-settle changes (inr (h, c)) =
      ap (λ t. cond t [] (change (number_at (head_from p) slot) what ∷ []))
      (fails (same_text (rest_at (head_from p) slot) (time_after seconds)) (λ t. h (ap (says keyword) (sym found ∙ same_true _ _ t))))
      ∙ sym c

  pub lists : Lists (says keyword value) (says keyword (time_after seconds)) (change (number_at (head_from p) slot) what) (time_change (head_from p) slot what seconds)
  unfolding time_change
  lists = by (same_text (rest_at (head_from p) slot) (time_after seconds)) refl
    where
      by : (t : Bool) → same_text (rest_at (head_from p) slot) (time_after seconds) ≡ t
          → Lists (says keyword value) (says keyword (time_after seconds)) (change (number_at (head_from p) slot) what)
          (cond t [] (change (number_at (head_from p) slot) what ∷ []))
      by true e = inl (ap (says keyword) (sym found ∙ same_true _ _ e), refl)
      by false e =
          inr (
            (λ h.
                clash (ap (λ s. same_text s (time_after seconds)) (found ∙ same-value keyword value (time_after seconds) h) ∙ same_refl (time_after seconds)) e),
            refl,
          )

-- the lines of the two times and the first data line, one behind the other
pub numbers-rise : {e : Edition} (p : Parts e) → (number_at (head_from p) start_slot < number_at (head_from p) stop_slot) × (number_at (head_from p) stop_slot < number_at (head_from p) data_slot)
unfolding number_at flatten
numbers-rise p =
    let head = head_from p in
    let start = flat_append (take 13 head) ((says "START_TIME" p.start.0 ∷ []) ∷ []) in
    let stop = flat_append (take 14 head) (drop 14 head) in (
      omega (arith, ap length start, length-append (flatten (take 13 head)) (flatten ((says "START_TIME" p.start.0 ∷ []) ∷ []))),
      omega (arith, ap length stop, length-append (flatten (take 14 head)) (flatten (drop 14 head))),
    )

-- a change that may be listed, before others
pub one-listed : (least next : ℕ) (stood out : List ℕ) (entry : Change) (changes others : List Change) → Lists stood out entry changes
    → least ≤ entry.line → entry.line < next → Rise next (numbers_of others) → Rise least (numbers_of (changes ++ others))
one-listed least next stood out entry changes others (inl (_, e)) l m r =
    subst (λ x. Rise least (numbers_of (x ++ others))) (sym e) (rise-from least next (numbers_of others) (omega arith) r)
one-listed least next stood out entry changes others (inr (_, e)) l m r =
    subst (λ x. Rise least (numbers_of (x ++ others))) (sym e) (l, rise-from (suc entry.line) next (numbers_of others) (omega arith) r)
