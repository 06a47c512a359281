-- Words that stand at a place of bytes, and what is read there.
use mathlib.Core.Path.{◌≡◌, refl, sym, ap, subst, ◌∙◌}
use mathlib.Core.List.{List, [], ◌∷◌, ◌++◌, append_assoc, append-nil}
use Prim.Native.Nat.{ℕ, ◌+◌, ◌*◌, ◌^◌, ◌<◌, ◌%◌}
use native.Mathlib.Omega.{arith}
use lib.Dec.{lit<}
use lib.IntN.{ℤ}
use lib.ListN.{length, take, drop, get_or}
use lib.Seq.{take_at, drop_at, drop-drop}
use mir.Syntax.{w64}
use mir.Val.{SFits, to_z}
use mir.Facts.{to_z-of_z, Fits-of_z}
use Rattle.exact.specs.declared.Exact.{Exact}
use Rattle.axis.specs.declared.Motion.{Motion}
use Rattle.axis.specs.Kinds.{of_position, of_velocity}
use Rattle.image.specs.Bytes.{from_bytes, in_bytes, word_at}
use Rattle.image.proofs.WordLaws.{length-in_bytes, in_bytes-append, word_at-in_bytes}
use Rattle.image.specs.Layout.{signed_word, exact_words, motion_words}
use Rattle.image.specs.Reading.{signed_at, exact_at, motion_at}
use Rattle.image.specs.Shapes.{ExactFits, MotionFits}

-- words stand at a place, and more may follow
pub record Say (bytes : List ℕ) (at : ℕ) (words : List ℕ) : Type 0 where
  pub rest : List ℕ
  pub holds : drop at bytes ≡ in_bytes words ++ rest

pub all_said : (words : List ℕ) → Say (in_bytes words) 0 words
all_said words = record { rest = []; holds = sym (append-nil (in_bytes words)) }

module _ {bytes : List ℕ} {at : ℕ} where
  -- the first of them, and those behind it
  module _ (xs ys : List ℕ) (h : Say bytes at (xs ++ ys)) where
    both-said : drop at bytes ≡ in_bytes xs ++ (in_bytes ys ++ h.rest)
    both-said = h.holds ∙ ap (λ t. t ++ h.rest) (in_bytes-append xs ys) ∙ append_assoc (in_bytes xs) (in_bytes ys) h.rest

    pub first_said : Say bytes at xs
    first_said = record { rest = in_bytes ys ++ h.rest; holds = both-said }

    pub later-said : (n : ℕ) → length xs ≡ n → Say bytes (at + 8 * n) ys
    later-said n l =
        record {
          rest = h.rest;
          holds = sym (drop-drop (8 * n) at bytes) ∙ ap (drop (8 * n)) both-said ∙ drop_at (in_bytes xs) _ (8 * n) (length-in_bytes xs ∙ ap (λ k. 8 * k) l);
        }

  -- the bytes of all of them
  pub taken-said : (words : List ℕ) (n : ℕ) → length words ≡ n → Say bytes at words → take (8 * n) (drop at bytes) ≡ in_bytes words
  taken-said words n l h = ap (take (8 * n)) h.holds ∙ take_at (in_bytes words) h.rest (8 * n) (length-in_bytes words ∙ ap (λ k. 8 * k) l)

  -- the same place under another name of it
  pub said_at : {words : List ℕ} (place : ℕ) → at ≡ place → Say bytes at words → Say bytes place words
  said_at {words} place e h = subst (λ n. Say bytes n words) e h

  -- ---- what is read

  pub nth-said : (words : List ℕ) → Say bytes at words → (i : ℕ) → i < length words → get_or words i 0 < 2 ^ 64 → word_at (at + 8 * i) bytes ≡ get_or words i 0
  unfolding word_at
  nth-said words h i l f =
      ap (λ t. from_bytes (take 8 t)) (sym (drop-drop (8 * i) at bytes) ∙ ap (drop (8 * i)) h.holds) ∙ word_at-in_bytes words h.rest i l f

  pub word-said : {w : ℕ} {words : List ℕ} → Say bytes at (w ∷ words) → w < 2 ^ 64 → word_at at bytes ≡ w
  unfolding word_at
  word-said {w} {words} h f = ap (λ t. from_bytes (take 8 t)) h.holds ∙ word_at-in_bytes (w ∷ words) h.rest 0 (omega arith) f

  pub signed-said : {z : ℤ} {words : List ℕ} → Say bytes at (signed_word z ∷ words) → SFits w64 z → signed_at at bytes ≡ z
  signed-said h f = ap (to_z w64) (word-said h (Fits-of_z f).fits) ∙ to_z-of_z f

pub exact-said : {bytes : List ℕ} {at : ℕ} (e : Exact) → Say bytes at (exact_words e) → ExactFits e → exact_at at bytes ≡ e
unfolding exact_at exact_words
exact-said e h f =
    let p : e.part % 2 ^ 32 ≡ e.part = omega (arith, f.part) in
    let w = nth-said (exact_words e) h 1 (lit< tt) (omega (arith, f.part)) in
    λ i. record { whole = signed-said h f.whole i; part = (ap (λ n. n % 2 ^ 32) w ∙ p) i }

pub motion-said : {bytes : List ℕ} {at : ℕ} (m : Motion) → Say bytes at (motion_words m) → MotionFits m → motion_at at bytes ≡ m
unfolding motion_at motion_words exact_words
motion-said m h f =
    λ i. record {
      position = exact-said m.position (first_said (exact_words m.position) (exact_words m.velocity) h) (f of_position) i;
      velocity = exact-said m.velocity (later-said (exact_words m.position) (exact_words m.velocity) h 2 refl) (f of_velocity) i;
    }
