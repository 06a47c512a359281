-- `text::writing::Writer::put_numbers` meets its contract.
use mathlib.Core.List.{List, flatten, map}
use Rattle.std.proofs.Common.{arith, rules, ℕ, ℤ, pos, length, take, get_or, ◌+◌, ◌≤◌, ◌<◌, ◌∙◌, ◌≡◌, w64}
use mir.Val.{SFits}
use mir.Facts.{to_z-of_z}
use Rattle.std.proofs.Math.Seq.{take_all}
use Rattle.text.specs.Numbers.{numbers}
use Rattle.text.specs.Places.{Wrote}
use Rattle.text.specs.Rows.{spaced, numbers-row}
use Rattle.text.proofs.Pieces.{one_more, next-room}
use Rattle.text.proofs.Written.{nothing, then}
use Rattle.text.proofs.writing.Writer.put_numbers.Goals as goal

-- room for the next number after a space
next : (row : List ℤ) (k at end : ℕ) {old now : List ℕ} → at + length (numbers row) ≤ length old
    → Wrote old at (flatten (map spaced (take k row))) now end → k < length row → end + length (spaced (get_or row k (pos 0))) ≤ length now
next row k at end room w l = next-room spaced row (pos 0) k w (length row) l (omega arith) (rw (take_all (length row) row (omega arith)) (rw (numbers-row row) at room))

pub loop-z-init : goal.loop-z-init
unfolding flatten
loop-z-init c = nothing c.args.self.now

pub put-requires : goal.put-requires
put-requires c =
    omega (arith, next c.args.row.now c.loop-z.z-index c.args.self.now.at c.loop-z.self.at c.requires c.loop-z.invariant.wrote c.loop-z-test.true)

pub put_signed-requires : goal.put_signed-requires
put_signed-requires c =
    let fits : SFits w64 (get_or c.args.row.now c.loop-z.z-index (pos 0)) = search rules in
    let room = next c.args.row.now c.loop-z.z-index c.args.self.now.at c.loop-z.self.at c.requires c.loop-z.invariant.wrote c.loop-z-test.true in
    rw (to_z-of_z fits) (omega (arith, c.put.ensures.wrote.ends, c.put.ensures.wrote.long, room))

pub loop-z-preserved : goal.loop-z-preserved
loop-z-preserved c =
    let row : List ℤ = c.args.row.now in
    let fits : SFits w64 (get_or row c.loop-z.z-index (pos 0)) = search rules in
    let number = then c.put.ensures (rw (to_z-of_z fits) at c.put_signed.ensures) in
    record {
      same = number.same ∙ c.loop-z.invariant.same;
      wrote = one_more spaced row (pos 0) c.loop-z.z-index c.loop-z.invariant.wrote c.loop-z-test.true number.wrote;
    }

pub returns : goal.returns
returns c =
    let row : List ℤ = c.args.row.now in
    rw (numbers-row row) (rw (take_all c.loop-z.z-index row c.loop-z-test.false) at c.loop-z.invariant)
