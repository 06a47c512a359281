-- `table_text::put_weights` meets its contract: the first p weights of the row are the formula's.
use mathlib.Core.Path.{◌≡◌, ◌∙◌, ap}
use mathlib.Core.List.{List}
use Prim.Native.Nat.{ℕ, ◌≤◌}
use lib.IntN.{ℤ}
use lib.ListN.{take}
use Rattle.coefficients.specs.Formulas.{row, weights_of}
use Rattle.coefficients.specs.declared.Formula.{Formula}
use Rattle.coefficients.proofs.Rows.{length-weights, take_row}
use Rattle.text.specs.Numbers.{numbers}
use Rattle.table_text.specs.Text.{weights_text}
use Rattle.table_text.proofs.put_weights.Goals as goal

text : (f : Formula) (p : ℕ) → p ≤ 9 → {ws : List ℤ} → ws ≡ row (weights_of f) p → numbers (take p ws) ≡ weights_text f p
unfolding weights_text
text f p h e = ap (λ ws. numbers (take p ws)) e ∙ ap numbers (take_row (weights_of f) p (length-weights f p h))

pub put_numbers-requires : goal.put_numbers-requires
put_numbers-requires c = rw (text c.args.which c.args.p c.requires.le_p.1 c.weights-row.ensures) c.requires.p_in_bounds

pub returns : goal.returns
returns c =
    rw (text c.args.which c.args.p c.requires.le_p.1 c.weights-row.ensures) at c.put_numbers.ensures
