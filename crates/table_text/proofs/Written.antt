-- A text written over zeros, from their start.
use mathlib.Core.Path.{◌≡◌, ◌∙◌, ap}
use mathlib.Core.List.{List}
use Prim.Native.Nat.{ℕ, zero, suc, ◌-◌, ◌≤◌}
use native.Mathlib.Nat.{zero-add}
use native.Mathlib.Omega.{arith}
use lib.ListN.{length, drop, replicate, length-append}
use Rattle.text.specs.Places.{Wrote, written}
use Rattle.table_text.specs.declared.Text.{Text}
use Rattle.table_text.specs.Text.{room, text_of}

drop-zeros : (n k : ℕ) → drop {A = ℕ} k (replicate n 0) ≡ replicate (n - k) 0
drop-zeros n zero = let e : n ≡ n - 0 = omega arith in ap (λ m. replicate m 0) e
drop-zeros zero (suc k) = let e : 0 ≡ 0 - suc k = omega arith in ap (λ m. replicate m 0) e
drop-zeros (suc n) (suc k) = let e : n - k ≡ suc n - suc k = omega arith in drop-zeros n k ∙ ap (λ m. replicate m 0) e

pub text-written : {t b : List ℕ} {k : ℕ} → Wrote (replicate room 0) 0 t b k → record { bytes = b; length = k } ≡ text_of t
unfolding text_of written
text-written {t} w =
    let zeros = drop-zeros room (length t) in
    simp (w.holds, w.ends, zero-add, zeros)

-- a text lies within the bytes that hold it
pub text-within : (r : Text) (t : List ℕ) → r ≡ text_of t → r.length ≤ length r.bytes
unfolding text_of
text-within r t e = rw e (omega (arith, length-append t (replicate (room - length t) 0)))
