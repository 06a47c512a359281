-- Which texts name another version than an edition's, and that a readable text names its own.
use mathlib.Core.Path.{◌≡◌, refl, sym, ◌∙◌, ap}
use mathlib.Core.Logic.{◌↔◌}
use mathlib.Core.Bool.{Bool, true, false, not, cond}
use mathlib.Core.List.{List, [], ◌∷◌, ◌++◌}
use Prim.Native.Nat.{ℕ}
use lib.Dec.{eqb}
use lib.ListN.{length, take, drop, take-append-drop}
use lib.Seq.{take-append_seam, drop-append_seam}
use borrow.Author.Tests.{eqb-true, eqb-false, eq-eqb, ne_eqb}
use Rattle.integers.specs.Tests.{joined, clash, fails}
use Rattle.calendar.specs.Text.{same_text}
use Rattle.calendar.proofs.Back.{same_true, same_refl}
use Rattle.message.specs.declared.Edition.{Edition}
use Rattle.message.specs.Editions.{version_of}
use Rattle.received.specs.Versions.{version_front, up_to_newline, has_version, named_in, is_other}
use Rattle.readable.specs.Lines.{Plain}
use Rattle.readable.specs.Naming.{Ends, Names, NamesOther}

-- ---- up to a newline

-- what stands behind it
unfoldable behind_it : List ℕ → List ℕ
behind_it [] = []
behind_it (b ∷ s) = cond (eqb b 10) (b ∷ s) (behind_it s)

up-parts : (s : List ℕ) → s ≡ up_to_newline s ++ behind_it s
unfolding up_to_newline behind_it
up-parts [] = refl
up-parts (b ∷ s) = by (eqb b 10) (up-parts s)
  where
    by : (t : Bool) → s ≡ up_to_newline s ++ behind_it s → b ∷ s ≡ cond t [] (b ∷ up_to_newline s) ++ cond t (b ∷ s) (behind_it s)
    by true ih = refl
    by false ih = ap (λ x. b ∷ x) ih

up-plain : (s : List ℕ) → Plain (up_to_newline s)
unfolding up_to_newline
up-plain [] = tt
up-plain (b ∷ s) = by (eqb b 10) refl (up-plain s)
  where
    by : (t : Bool) → eqb b 10 ≡ t → Plain (up_to_newline s) → Plain (cond t [] (b ∷ up_to_newline s))
    by true e ih = tt
    by false e ih = (eqb-false b 10 e, ih)

up_ends : (s : List ℕ) → Ends (behind_it s)
unfolding behind_it
up_ends [] = tt
up_ends (b ∷ s) = by (eqb b 10) refl (up_ends s)
  where
    by : (t : Bool) → eqb b 10 ≡ t → Ends (behind_it s) → Ends (cond t (b ∷ s) (behind_it s))
    by true e ih = eqb-true b 10 e
    by false e ih = ih

up_of : (value rest : List ℕ) → Plain value → Ends rest → up_to_newline (value ++ rest) ≡ value
unfolding up_to_newline
up_of [] [] p e = refl
up_of [] (b ∷ rest) p e = ap (λ t. cond t [] (b ∷ up_to_newline rest)) (eq-eqb b 10 e)
up_of (b ∷ value) rest p e = ap (λ t. cond t [] (b ∷ up_to_newline (value ++ rest))) (ne_eqb b 10 p.0) ∙ ap (λ x. b ∷ x) (up_of value rest p.1 e)

-- ---- what a text names

pub names-found : (text value : List ℕ) → Names text value → (has_version text ≡ true) × (named_in text ≡ value)
unfolding has_version named_in
names-found text value n = (
  ap (λ s. same_text (take (length version_front) s) version_front) n.text-is
      ∙ ap (λ s. same_text s version_front) (take-append_seam version_front (value ++ n.rest))
      ∙ same_refl version_front,
  ap (λ s. up_to_newline (drop (length version_front) s)) n.text-is
      ∙ ap up_to_newline (drop-append_seam version_front (value ++ n.rest))
      ∙ up_of value n.rest n.plain n.ends,
)

pub found-names : (text : List ℕ) → has_version text ≡ true → Names text (named_in text)
unfolding has_version named_in
found-names text h =
    let behind = drop (length version_front) text in
    record {
      rest = behind_it behind;
      text-is =
          sym (take-append-drop (length version_front) text)
          ∙ ap (λ s. s ++ behind) (same_true (take (length version_front) text) version_front h)
          ∙ ap (λ s. version_front ++ s) (up-parts behind);
      plain = up-plain behind;
      ends = up_ends behind;
    }

not-not : (t : Bool) → not t ≡ true → t ≡ false
not-not true e = clash refl (sym e)
not-not false e = refl

-- 17 exactly where another version is named
pub other-exactly : (e : Edition) (text : List ℕ) → (is_other e text ≡ true) ↔ NamesOther e text
unfolding is_other
other-exactly e text = (told, λ (value, (n, d)). so value n d)
  where
    told : is_other e text ≡ true → NamesOther e text
    told o =
        let (h, d) = simp joined at o in
        (named_in text, (found-names text h, λ q. clash (ap (λ s. same_text s (version_of e)) q ∙ same_refl (version_of e)) d))

    so : (value : List ℕ) → Names text value → ¬ (value ≡ version_of e) → is_other e text ≡ true
    so value n d =
        let (h, v) = names-found text value n in
        simp joined (h, fails (same_text (named_in text) (version_of e)) (λ s. d (sym v ∙ same_true (named_in text) (version_of e) s)))
