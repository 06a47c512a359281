-- A line that has a longest length: the room that it needs, and where it ends.
use Rattle.std.proofs.Common.{ℕ, ◌+◌, ◌≤◌, ◌≡◌, List, length, arith}
use Rattle.std.specs.Borrow.{MutBor}
use mathlib.Core.List.{flatten}
use Rattle.text.specs.Places.{total}
use Rattle.text.specs.Writes.{Begins, HasRoom, Writes}
use Rattle.text.specs.declared.writing.Writer.{Writer}
use Rattle.text.proofs.Pieces.{length-flatten}

module _ (pieces : List (List ℕ)) {most : ℕ} (h : total pieces ≤ most) where
  pub room : {b : MutBor (List ℕ)} {i : ℕ} {w : Writer} → Begins b i w → i + most ≤ length b.now → HasRoom w pieces
  room f r = record { fits = omega (arith, h, r, f.long, f.starts) }

  pub ends-within : {b : MutBor (List ℕ)} {i : ℕ} {u w : Writer} {end : ℕ} → Begins b i u → Writes u (flatten pieces) w → end ≡ w.at → end ≤ i + most
  ends-within f g e = omega (arith, h, f.starts, g.wrote.ends, e, length-flatten pieces)
