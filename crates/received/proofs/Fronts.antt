-- A line by its front: when it has one, and what the tests of the code say of it.
use mathlib.Core.Path.{◌≡◌, sym, ◌∙◌, ap}
use mathlib.Core.Bool.{Bool, true, false}
use mathlib.Core.List.{List, [], ◌∷◌, ◌++◌}
use Prim.Native.Nat.{ℕ, ◌+◌, ◌-◌}
use native.Mathlib.Omega.{arith}
use lib.Dec.{eqb}
use lib.ListN.{length, take, drop, length-append, take-append-drop}
use lib.Seq.{take-append_seam, drop-append_seam}
use Rattle.std.specs.Prelude.{Option, Some, None, MatchOption, nat_eq}
use Rattle.std.specs.Cmp.Lexicographic.{pointwise, other_text, same_text as text_told}
use Rattle.integers.specs.Tests.{◌and◌, joined, fails}
use Rattle.calendar.specs.Text.{same_text}
use Rattle.calendar.proofs.Back.{same_true, same_refl}
use Rattle.received.specs.Slots.{Form, line_with, rest_in, has_front, is_of}

pub same-eq : {s t : List ℕ} → s ≡ t → same_text s t ≡ true
same-eq {s} {t} e = ap (same_text s) (sym e) ∙ same_refl s

length-with : (front rest : List ℕ) → length (line_with front rest) ≡ length front + length rest + 1
length-with front rest = omega (arith, length-append front (rest ++ (10 ∷ [])), length-append rest (10 ∷ []))

module _ (front line : List ℕ) where
  pub front-is : has_front front line ≡ true → line ≡ line_with front (rest_in front line)
  unfolding has_front
  front-is e = same_true line (line_with front (rest_in front line)) e

  pub front_long : has_front front line ≡ true → length line ≡ length front + length (rest_in front line) + 1
  front_long e = ap length (front-is e) ∙ length-with front (rest_in front line)

-- ---- a form by a test of the front, and of the rest

module _ (f : Form) (line : List ℕ) where
  pub of-front : is_of f line ≡ true → has_front f.front line ≡ true
  unfolding is_of
  of-front e = let (p, q) = simp joined at e in p

  pub of-rest : is_of f line ≡ true → f.test (rest_in f.front line) ≡ true
  unfolding is_of
  of-rest e = let (p, q) = simp joined at e in q

-- ---- the line of a front and a rest

module _ (front rest : List ℕ) where
  pub rest_back : rest_in front (line_with front rest) ≡ rest
  unfolding rest_in
  rest_back =
      let m : length (line_with front rest) - (length front + 1) ≡ length rest = omega (arith, length-with front rest) in
      ap (take (length (line_with front rest) - (length front + 1))) (drop-append_seam front (rest ++ (10 ∷ [])))
      ∙ ap (λ k. take k (rest ++ (10 ∷ []))) m
      ∙ take-append_seam rest (10 ∷ [])

  pub front-back : has_front front (line_with front rest) ≡ true
  unfolding has_front
  front-back = same-eq (ap (line_with front) (sym rest_back))

pub of-back : (f : Form) (rest : List ℕ) → f.test rest ≡ true → is_of f (line_with f.front rest) ≡ true
unfolding is_of
of-back f rest t = simp joined (front-back f.front rest, ap f.test (rest_back f.front rest) ∙ t)

-- ---- a line by its front and its last character, as the code cuts it

-- what is between the two, or nothing
abbrev pub Cut : {B : Type 0} → (B → List ℕ) → List ℕ → List ℕ → Option B → Type 0
Cut now front line o = MatchOption o (has_front front line ≡ false) (λ rest. (has_front front line ≡ true) × (now rest ≡ rest_in front line))

module _ (front line : List ℕ) where
  pub no_front : pointwise nat_eq (take (length front) line) front ≡ false → has_front front line ≡ false
  no_front n =
      fails (has_front front line)
      (λ e. other_text (take (length front) line) front (sym n) (ap (take (length front)) (front-is front line e) ∙ take-append_seam front (rest_in front line ++ (10 ∷ []))))

  module _ (behind : List ℕ) (b : behind ≡ drop (length front) line) where
    not-ended : pointwise nat_eq (drop (length behind - 1) behind) (10 ∷ []) ≡ false → has_front front line ≡ false
    not-ended n =
        fails (has_front front line)
        (λ e.
        let rest = rest_in front line in
        let all : behind ≡ rest ++ (10 ∷ []) = b ∙ ap (drop (length front)) (front-is front line e) ∙ drop-append_seam front (rest ++ (10 ∷ [])) in
        let m : length behind - 1 ≡ length rest = omega (arith, ap length all, length-append rest (10 ∷ [])) in
        other_text (drop (length behind - 1) behind) (10 ∷ []) (sym n) ((λ i. drop (m i) (all i)) ∙ drop-append_seam rest (10 ∷ [])))

    ended : pointwise nat_eq (take (length front) line) front ≡ true → pointwise nat_eq (drop (length behind - 1) behind) (10 ∷ []) ≡ true
        → (rest : List ℕ) → rest ≡ take (length behind - 1) behind → (has_front front line ≡ true) × (rest ≡ rest_in front line)
    ended f e rest r =
        let first = text_told (take (length front) line) front (sym f) in
        let last = text_told (drop (length behind - 1) behind) (10 ∷ []) (sym e) in
        let all : line ≡ line_with front rest =
        sym (take-append-drop (length front) line)
        ∙ (λ i. first i ++ sym b i)
        ∙ ap (λ s. front ++ s) (sym (take-append-drop (length behind - 1) behind) ∙ (λ i. sym r i ++ last i)) in
        (ap (has_front front) all ∙ front-back front rest, sym (rest_back front rest) ∙ ap (rest_in front) (sym all))

    pub cut : pointwise nat_eq (take (length front) line) front ≡ true → {B : Type 0} (now : B → List ℕ) (o : Option B)
        → MatchOption o (pointwise nat_eq (drop (length behind - 1) behind) (10 ∷ []) ≡ false)
        (λ x. (pointwise nat_eq (drop (length behind - 1) behind) (10 ∷ []) ≡ true) × (now x ≡ take (length behind - 1) behind) × (length (now x) + 1 ≡ length behind))
        → Cut now front line o
    cut f now None n = not-ended n
    cut f now (Some x) (e, r, long) = ended f e (now x) r

-- a form by its front, and the test of what is behind it
module _ (f : Form) {front : List ℕ} (e : front ≡ f.front) (line : List ℕ) where
  pub of-rest_of : {B : Type 0} (now : B → List ℕ) (o : Option B) {r : Bool} → Cut now front line o → MatchOption o (r ≡ false) (λ x. r ≡ f.test (now x)) → r ≡ is_of f line
  unfolding is_of
  of-rest_of now None n t = t ∙ sym (ap (λ h. h and f.test (rest_in f.front line)) (ap (λ x. has_front x line) (sym e) ∙ n))
  of-rest_of now (Some x) (h, b) t =
      t
      ∙ ap f.test (b ∙ ap (λ y. rest_in y line) e)
      ∙ sym (ap (λ h. h and f.test (rest_in f.front line)) (ap (λ y. has_front y line) (sym e) ∙ h))
