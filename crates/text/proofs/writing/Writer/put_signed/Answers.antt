-- `text::writing::Writer::put_signed` meets its contract: a sign where the number is below 0, and its size in decimal.
use Rattle.std.proofs.Common.{arith, ◌≡◌, sym, ◌∙◌, ap, true, false, ◌∷◌, ℕ, ℤ, pos, length, w64, to_z, of_z}
use lib.IntN.{nat_abs}
use lib.Signed.{lt_z}
use mir.Val.{SFits}
use mir.Facts.{to_z-of_z}
use Rattle.text.specs.Numbers.{signed, decimal}
use Rattle.text.proofs.Signs.{negative-text, positive-text}
use Rattle.text.proofs.Written.{then}
use Rattle.text.proofs.writing.Writer.put_signed.Goals as goal
use Rattle.text.proofs.writing.Writer.put_signed.Goals.{then-z-lt0, else-z-lt0}

-- what the test and the size say of the text
with-sign : (z : ℤ) → SFits w64 z → lt_z (to_z w64 (of_z w64 z)) (pos 0) ≡ true → {n : ℕ} → n ≡ nat_abs (to_z w64 (of_z w64 z)) → signed z ≡ 45 ∷ decimal n
with-sign z f t e = negative-text z (rw (to_z-of_z f) at t) ∙ ap (λ m. 45 ∷ decimal m) (sym (e ∙ ap nat_abs (to_z-of_z f)))

without_sign : (z : ℤ) → SFits w64 z → lt_z (to_z w64 (of_z w64 z)) (pos 0) ≡ false → {n : ℕ} → n ≡ nat_abs (to_z w64 (of_z w64 z)) → signed z ≡ decimal n
without_sign z f t e = positive-text z (rw (to_z-of_z f) at t) ∙ ap decimal (sym (e ∙ ap nat_abs (to_z-of_z f)))

pub put-requires : goal.put-requires
put-requires c = omega (arith, c.requires, ap length (negative-text c.args.z (rw (to_z-of_z c.ranges.z) at c.if-z-lt0.true)))

pub put_decimal-requires : goal.put_decimal-requires
put_decimal-requires c =
    elim c.if-z-lt0.branch [
      | then-z-lt0 w ↦
          rw w.self-is (omega (arith, c.requires, w.put.ensures.wrote.ends, w.put.ensures.wrote.long, ap length (with-sign c.args.z c.ranges.z w.if-z-lt0.true c.unsigned_abs.ensures.value)))
      | else-z-lt0 w ↦
          rw w.self-is (omega (arith, c.requires, ap length (without_sign c.args.z c.ranges.z w.if-z-lt0.false c.unsigned_abs.ensures.value)))
    ]

pub returns : goal.returns
returns c =
    elim c.if-z-lt0.branch [
      | then-z-lt0 w ↦
          rw (with-sign c.args.z c.ranges.z w.if-z-lt0.true c.unsigned_abs.ensures.value) (then w.put.ensures (rw w.self-is at c.put_decimal.ensures))
      | else-z-lt0 w ↦
          rw (without_sign c.args.z c.ranges.z w.if-z-lt0.false c.unsigned_abs.ensures.value) (rw w.self-is at c.put_decimal.ensures)
    ]
