-- A text that is written piece by piece: what was written, and what is left to write.
use mathlib.Core.Path.{◌≡◌, refl, sym, ◌∙◌, ap}
use mathlib.Core.List.{List, [], ◌∷◌, ◌++◌, append-nil, append_assoc}
use Prim.Native.Nat.{ℕ, ◌+◌, ◌≤◌}
use native.Mathlib.Omega.{arith}
use lib.ListN.{length, set, length-append, length-set}
use Rattle.text.specs.Places.{Wrote}
use Rattle.text.proofs.Pieces.{nothing, byte, then, retold}

-- `whole` is to be written into a room at `start`; `left` is what is not yet written
pub record Putting (whole room : List ℕ) (start : ℕ) (left now : List ℕ) (end : ℕ) : Type 0 where
  pub done : List ℕ
  pub wrote : Wrote room start done now end
  pub parts : whole ≡ done ++ left

pub put-none : (whole room : List ℕ) (start : ℕ) → Putting whole room start whole room start
put-none whole room start = record { done = []; wrote = nothing room start; parts = refl }

module _ {whole room left now : List ℕ} {start end : ℕ} (p : Putting whole room start left now end) where
  pub put_next : (s : List ℕ) {rest after : List ℕ} {next : ℕ} → left ≡ s ++ rest → Wrote now end s after next → Putting whole room start rest after next
  put_next s {rest} e w =
      record {
        done = p.done ++ s;
        wrote = then p.wrote w;
        parts = p.parts ∙ ap (λ t. p.done ++ t) e ∙ sym (append_assoc p.done s rest);
      }

  pub put-still : {rest : List ℕ} → left ≡ rest → Putting whole room start rest now end
  put-still e = record { done = p.done; wrote = p.wrote; parts = p.parts ∙ ap (λ t. p.done ++ t) e }

  pub put_all : left ≡ [] → Wrote room start whole now end
  put_all e = retold (sym (p.parts ∙ ap (λ t. p.done ++ t) e ∙ append-nil p.done)) p.wrote

  pub put-room : start + length whole ≤ length room → (s rest : List ℕ) → left ≡ s ++ rest → end + length s ≤ length now
  put-room h s rest e =
      omega (arith, h, p.wrote.ends, p.wrote.long, ap length p.parts, length-append p.done left, ap length e, length-append s rest)

-- two numbers, one after the other
pub two : (room : List ℕ) (at x y : ℕ) → at + 2 ≤ length room → Wrote room at (x ∷ y ∷ []) (set (set room at x) (at + 1) y) (at + 2)
two room at x y h =
    let w = then (byte room at x (omega arith)) (byte (set room at x) (at + 1) y (omega (arith, length-set room at x))) in
    record { ends = refl; holds = w.holds; long = w.long }
