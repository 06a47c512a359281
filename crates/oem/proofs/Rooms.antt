-- What mending left in its rooms is what is written: the mended message, and the list of its changes or the number that refuses.
use mathlib.Core.Path.{◌≡◌, refl}
use mathlib.Core.Bool.{Bool, true, false, cond}
use mathlib.Core.List.{List, [], ◌∷◌, ◌++◌, flatten}
use Prim.Native.Nat.{ℕ, ◌*◌, ◌≤◌}
use native.Mathlib.Omega.{arith}
use lib.ListN.{length, drop, length-append}
use lib.Seq.{take_at}
use borrow.Author.Tests.{leb-true}
use Rattle.integers.specs.Tests.{joined}
use Rattle.message.specs.declared.Edition.{Edition}
use Rattle.received.specs.Versions.{is_other}
use Rattle.received.specs.Mending.{Change, Mend, Mends, Cannot, mend_of, words}
use Rattle.received.specs.MendAnswer.{unmended, has_rooms, mended_by, out_by, changes_by, mended_to, out_after, changes_after}
use Rattle.reports.specs.Reports.{changes_text, refused_line, list_of, list_by as all_listed}
use Rattle.reports.specs.Listed.{as-listed}
use Rattle.oem.specs.Answers.{Says}
use Rattle.oem.specs.Mended.{text_by, list_by, mended_text, list_text}

words_long : (changes : List Change) → length (words changes) ≡ 2 * length changes
unfolding flatten
words_long [] = refl
words_long (c ∷ changes) = omega (arith, words_long changes)

nothing_said : (out : List ℕ) → Says out 0 []
nothing_said out = record { within = omega arith; holds = refl }

-- what was written, and what stands behind it
said-first : (text rest : List ℕ) → Says (text ++ rest) (length text) text
said-first text rest = record { within = omega (arith, length-append text rest); holds = take_at text rest (length text) refl }

module _ (out changes : List ℕ) where
  -- two words for each change that is listed
  count_by : (lines : List (List ℕ)) (list : List Change) (t : Bool) → has_rooms lines list (length out) (length changes) ≡ t
      → 2 * (cond t (record { number = 0; length = length (flatten lines); changes = length list }) (unmended 12)).changes ≤ length changes
  unfolding has_rooms
  count_by lines list true e =
      let (a, b) = simp joined at e in
      omega (arith, leb-true (length (words list)) (length changes) b, words_long list)
  count_by lines list false e = omega arith

  count-within : (m : Mend) → 2 * (mended_by m out changes).changes ≤ length changes
  count-within Cannot = omega arith
  count-within (Mends lines list) = count_by lines list (has_rooms lines list (length out) (length changes)) refl

  text-said : (m : Mend) → Says (out_by m out changes) (mended_by m out changes).length (text_by m (length out) (length changes))
  text-said Cannot = nothing_said out
  text-said (Mends lines list) = by (has_rooms lines list (length out) (length changes))
    where
      by : (t : Bool)
          → Says (cond t (flatten lines ++ drop (length (flatten lines)) out) out)
          (cond t (record { number = 0; length = length (flatten lines); changes = length list }) (unmended 12)).length (cond t (flatten lines) [])
      by true = said-first (flatten lines) (drop (length (flatten lines)) out)
      by false = nothing_said out

  list-said : (m : Mend) → list_of (mended_by m out changes).number (changes_by m out changes) (mended_by m out changes).changes ≡ list_by m (length out) (length changes)
  unfolding list_of all_listed
  list-said Cannot = refl
  list-said (Mends lines list) = by (has_rooms lines list (length out) (length changes))
    where
      by : (t : Bool)
          → list_of (cond t (record { number = 0; length = length (flatten lines); changes = length list }) (unmended 12)).number
          (cond t (words list ++ drop (length (words list)) changes) changes)
          (cond t (record { number = 0; length = length (flatten lines); changes = length list }) (unmended 12)).changes
          ≡ cond t (changes_text list) (flatten (refused_line 12))
      by true = as-listed lines list (drop (length (words list)) changes)
      by false = refl

  -- the same of a text, by an edition
  module _ (e : Edition) (text : List ℕ) where
    pub count_fits : 2 * (mended_to e text out changes).changes ≤ length changes
    unfolding mended_to
    count_fits = by (is_other e text)
      where
        by : (t : Bool) → 2 * (cond t (unmended 17) (mended_by (mend_of e text) out changes)).changes ≤ length changes
        by true = omega arith
        by false = count-within (mend_of e text)

    pub mended-said : Says (out_after e text out changes) (mended_to e text out changes).length (mended_text e text (length out) (length changes))
    unfolding mended_to out_after mended_text
    mended-said = by (is_other e text)
      where
        by : (t : Bool)
            → Says (cond t out (out_by (mend_of e text) out changes)) (cond t (unmended 17) (mended_by (mend_of e text) out changes)).length
            (cond t [] (text_by (mend_of e text) (length out) (length changes)))
        by true = nothing_said out
        by false = text-said (mend_of e text)

    pub listed : list_of (mended_to e text out changes).number (changes_after e text out changes) (mended_to e text out changes).changes
        ≡ list_text e text (length out) (length changes)
    unfolding mended_to changes_after list_text list_of
    listed = by (is_other e text)
      where
        by : (t : Bool)
            → list_of (cond t (unmended 17) (mended_by (mend_of e text) out changes)).number (cond t changes (changes_by (mend_of e text) out changes))
            (cond t (unmended 17) (mended_by (mend_of e text) out changes)).changes
            ≡ cond t (flatten (refused_line 17)) (list_by (mend_of e text) (length out) (length changes))
        by true = refl
        by false = list-said (mend_of e text)
