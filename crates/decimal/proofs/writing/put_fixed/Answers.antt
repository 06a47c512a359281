-- `decimal::writing::put_fixed` meets its contract: a sign where the number is below 0, and its size.
use mathlib.Core.Path.{◌≡◌, sym, ◌∙◌, ap}
use mathlib.Core.Bool.{true, false}
use mathlib.Core.List.{◌∷◌}
use Prim.Native.Nat.{ℕ}
use native.Mathlib.Omega.{arith}
use lib.IntN.{ℤ, pos, nat_abs}
use lib.ListN.{length}
use lib.Signed.{lt_z}
use mir.Syntax.{w64}
use mir.Val.{SFits, to_z, of_z}
use mir.Facts.{to_z-of_z}
use Rattle.text.proofs.Written.{then}
use Rattle.decimal.specs.Text.{fixed, fixed_text}
use Rattle.decimal.proofs.Texts.{negative-text, positive-text}
use Rattle.decimal.proofs.writing.put_fixed.Goals as goal
use Rattle.decimal.proofs.writing.put_fixed.Goals.{then-n-lt0, else-n-lt0}

-- what the test and the size say of the text
module _ (places : ℕ) (z : ℤ) (f : SFits w64 z) where
  with-sign : lt_z (to_z w64 (of_z w64 z)) (pos 0) ≡ true → {n : ℕ} → n ≡ nat_abs (to_z w64 (of_z w64 z)) → fixed_text places z ≡ 45 ∷ fixed places n
  with-sign t e = negative-text places z (rw (to_z-of_z {w = w64} f) at t) ∙ ap (λ m. 45 ∷ fixed places m) (sym (e ∙ ap nat_abs (to_z-of_z {w = w64} f)))

  without_sign : lt_z (to_z w64 (of_z w64 z)) (pos 0) ≡ false → {n : ℕ} → n ≡ nat_abs (to_z w64 (of_z w64 z)) → fixed_text places z ≡ fixed places n
  without_sign t e = positive-text places z (rw (to_z-of_z {w = w64} f) at t) ∙ ap (fixed places) (sym (e ∙ ap nat_abs (to_z-of_z {w = w64} f)))

pub put-requires : goal.put-requires
put-requires c =
    omega (arith, c.requires.n_in_bounds, ap length (negative-text c.args.places c.args.n (rw (to_z-of_z {w = w64} c.ranges.n) at c.if-n-lt0.true)))

pub put_size-requires : goal.put_size-requires
put_size-requires c =
    let size = c.unsigned_abs.ensures.value in
    record {
      places_bound = c.requires.places_bound;
      n_in_bounds =
          elim c.if-n-lt0.branch [
            | then-n-lt0 v ↦
                let e = ap length (with-sign c.args.places c.args.n c.ranges.n v.if-n-lt0.true size) in
                rw v.w-is (omega (arith, c.requires.n_in_bounds, v.put.ensures.wrote.ends, v.put.ensures.wrote.long, e))
            | else-n-lt0 v ↦
                let e = ap length (without_sign c.args.places c.args.n c.ranges.n v.if-n-lt0.false size) in
                rw v.w-is (omega (arith, c.requires.n_in_bounds, e))
          ];
    }

pub returns : goal.returns
returns c =
    let size = c.unsigned_abs.ensures.value in
    elim c.if-n-lt0.branch [
      | then-n-lt0 v ↦
          rw (with-sign c.args.places c.args.n c.ranges.n v.if-n-lt0.true size) (then v.put.ensures (rw v.w-is at c.put_size.ensures))
      | else-n-lt0 v ↦
          rw (without_sign c.args.places c.args.n c.ranges.n v.if-n-lt0.false size) (rw v.w-is at c.put_size.ensures)
    ]
