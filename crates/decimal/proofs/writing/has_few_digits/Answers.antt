-- `decimal::writing::has_few_digits` meets its contract.
use mathlib.Core.Path.{◌≡◌, sym, ◌∙◌, ap}
use Prim.Native.Nat.{ℕ, ◌^◌, ◌≤◌}
use native.Mathlib.Omega.{arith}
use lib.Dec.{ltb}
use lib.IntN.{nat_abs}
use mir.Facts.{to_z-of_z}
use Rattle.text.proofs.Signs.{size_fits}
use Rattle.decimal.specs.Text.{few_digits}
use Rattle.decimal.proofs.Digits.{few-digits}
use mir.Syntax.{w64}
use Rattle.decimal.proofs.writing.has_few_digits.Goals as goal

pub returns : goal.returns
returns c =
    let n = c.args.n in
    let few : (places : ℕ) → places ≤ 15 → ltb c.size.result (10 ^ 16) ≡ few_digits places n =
    λ places h. ap (λ m. ltb m (10 ^ 16)) (c.size.ensures ∙ ap nat_abs (to_z-of_z {w = w64} c.ranges.n)) ∙ sym (few-digits places n h (size_fits n c.ranges.n)) in
    (few 6 (omega arith), few 9 (omega arith))
