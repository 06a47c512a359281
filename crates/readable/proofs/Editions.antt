-- A text is readable in one edition at most, which its version line chooses; and mending keeps it.
use mathlib.Core.Path.{◌≡◌, refl, sym, ◌∙◌, ap}
use mathlib.Core.Logic.{◌↔◌}
use mathlib.Core.Bool.{Bool, true, false, cond}
use mathlib.Core.List.{List, [], ◌∷◌, ◌++◌, flatten, map, append_assoc}
use Prim.Native.Nat.{ℕ}
use native.Mathlib.Omega.{arith}
use lib.IntN.{ℤ}
use lib.ListN.{drop, get_or}
use Rattle.integers.specs.Tests.{clash, fails}
use Rattle.text.specs.Numbers.{ascii}
use Rattle.message.specs.declared.Edition.{Edition}
use Rattle.message.specs.declared.Edition.TheVariants.{Two, Three}
use Rattle.message.specs.Editions.{version_of}
use Rattle.received.specs.Lines.{newline}
use Rattle.received.specs.Versions.{version_front, is_other, edition_in}
use Rattle.received.specs.Data.{line_of}
use Rattle.received.specs.Messages.{Readable}
use Rattle.received.specs.Answer.{refused_by, answer_to, epochs_after, values_after}
use Rattle.received.specs.Mending.{Change, Mends, mend_of}
use Rattle.readable.specs.Naming.{Names, NamesOther}
use Rattle.readable.specs.Answering.{head_in}
use Rattle.readable.proofs.Heads.{says-line}
use Rattle.readable.proofs.Ended.{version-plain}
use Rattle.readable.proofs.Naming.{names-found, other-exactly}
use Rattle.readable.proofs.Changing.{mended-readable}

-- a readable text names its edition's version
own-version : (text : List ℕ) (e : Edition) → Readable e text → Names text (version_of e)
unfolding flatten
own-version text e (m, s) =
    let behind : List ℕ = flatten (flatten (drop 1 (head_in e m)) ++ map line_of m.points) in
    record {
      rest = newline ∷ behind;
      text-is =
          s.text-is
          ∙ ap (λ l. l ++ behind) (sym (says-line "CCSDS_OEM_VERS" (version_of e)))
          ∙ append_assoc version_front (version_of e ++ (newline ∷ [])) behind
          ∙ ap (λ x. version_front ++ x) (append_assoc (version_of e) (newline ∷ []) behind);
      plain = version-plain e;
      ends = refl;
    }

pub own : (text : List ℕ) (e : Edition) → Readable e text → ¬ NamesOther e text
own text e r (value, (n, d)) = d (sym (names-found text value n).1 ∙ (names-found text (version_of e) (own-version text e r)).1)

same_version : (d e : Edition) → version_of d ≡ version_of e → d ≡ e
unfolding ascii
same_version Two Two q = refl
same_version Two Three q = absurd (omega (arith, ap (λ s. get_or s 0 0) q))
same_version Three Two q = absurd (omega (arith, ap (λ s. get_or s 0 0) q))
same_version Three Three q = refl

pub one-edition : (text : List ℕ) (d e : Edition) → Readable d text → Readable e text → d ≡ e
one-edition text d e r s =
    same_version d e (sym (names-found text (version_of d) (own-version text d r)).1 ∙ (names-found text (version_of e) (own-version text e s)).1)

not-two : version_of Three ≡ version_of Two → ⊥
unfolding ascii
not-two q = omega (arith, ap (λ s. get_or s 0 0) q)

pub chosen : (text : List ℕ) (e : Edition) → Readable e text → edition_in text ≡ e
unfolding edition_in
chosen text Two r = ap (λ t. cond t Three Two) (fails (is_other Two text) (λ o. own text Two r ((other-exactly Two text).0 o)))
chosen text Three r = ap (λ t. cond t Three Two) ((other-exactly Two text).1 (version_of Three, (own-version text Three r, not-two)))

pub neither : (text : List ℕ) → NamesOther (edition_in text) text ↔ ((e : Edition) → NamesOther e text)
unfolding edition_in
neither text = (λ n. by (is_other Two text) refl n, λ f. f (edition_in text))
  where
    by : (t : Bool) → is_other Two text ≡ t → NamesOther (cond t Three Two) text → (e : Edition) → NamesOther e text
    by true o n Two = (other-exactly Two text).0 o
    by true o n Three = n
    by false o n e = clash ((other-exactly Two text).1 n) o

pub stays : (text : List ℕ) (e : Edition) (out : List (List ℕ)) (changes : List Change) → mend_of e text ≡ Mends out changes → edition_in (flatten out) ≡ e
stays text e out changes q = chosen (flatten out) e (mended-readable e text out changes q)

-- ---- the other edition's reader

module _ (text epochs : List ℕ) (values : List ℤ) (d e : Edition) (differ : ¬ (d ≡ e)) (r : Readable e text) where
  is-other : is_other d text ≡ true
  is-other = (other-exactly d text).1 (version_of e, (own-version text e r, λ q. differ (sym (same_version e d q))))

  pub refused :
      (answer_to d text epochs values ≡ refused_by 17 0) × ((epochs_after d text epochs values ≡ epochs) × (values_after d text epochs values ≡ values))
  unfolding answer_to epochs_after values_after
  refused = (rw is-other refl, (rw is-other refl, rw is-other refl))
