-- A text cut into its lines and put together again, and lines put together and found again.
use mathlib.Core.Path.{◌≡◌, refl, sym, ◌∙◌, ap, ap₂}
use mathlib.Core.Bool.{Bool, true, false, cond}
use mathlib.Core.List.{List, [], ◌∷◌, ◌++◌, flatten, append_assoc}
use Prim.Native.Nat.{ℕ}
use lib.Dec.{eqb}
use borrow.Author.Tests.{ne_eqb}
use Rattle.received.specs.Lines.{newline, in_front, lines_in}
use Rattle.received.specs.Messages.{Every}
use Rattle.readable.specs.Lines.{Plain, IsLine}

pub flat_append : {A : Type 0} (xs ys : List (List A)) → flatten (xs ++ ys) ≡ flatten xs ++ flatten ys
unfolding flatten
flat_append [] ys = refl
flat_append (x ∷ xs) ys = ap (λ t. x ++ t) (flat_append xs ys) ∙ sym (append_assoc x (flatten xs) (flatten ys))

in-front : (b : ℕ) (lines : List (List ℕ)) → flatten (in_front b lines) ≡ b ∷ flatten lines
unfolding flatten in_front
in-front b [] = refl
in-front b (line ∷ lines) = refl

pub together : (text : List ℕ) → flatten (lines_in text) ≡ text
unfolding flatten lines_in
together [] = refl
together (b ∷ text) = by (eqb b newline) (together text)
  where
    by : (t : Bool) → flatten (lines_in text) ≡ text → flatten (cond t ((b ∷ []) ∷ lines_in text) (in_front b (lines_in text))) ≡ b ∷ text
    by true h = ap (λ s. b ∷ s) h
    by false h = in-front b (lines_in text) ∙ ap (λ s. b ∷ s) h

-- the first line of a text, and the text behind it
first_found : (body text : List ℕ) → Plain body → lines_in (body ++ (newline ∷ text)) ≡ (body ++ (newline ∷ [])) ∷ lines_in text
unfolding lines_in in_front
first_found [] text p = refl
first_found (b ∷ body) text p = rw (ne_eqb b newline p.0, first_found body text p.1) refl

pub found-again : (lines : List (List ℕ)) → Every IsLine lines → lines_in (flatten lines) ≡ lines
unfolding flatten lines_in
found-again [] h = refl
found-again (line ∷ lines) h =
    let l = h.0 in
    let text : line ++ flatten lines ≡ l.body ++ (newline ∷ flatten lines) =
    ap (λ s. s ++ flatten lines) l.line-is ∙ append_assoc l.body (newline ∷ []) (flatten lines) in
    ap lines_in text ∙ first_found l.body (flatten lines) l.plain ∙ ap₂ (λ x y. x ∷ y) (sym l.line-is) (found-again lines h.1)
