-- `script::round_lines::put_nine` meets its contract. The loop's invariant: the first i points were written.
use mathlib.Core.Path.{◌≡◌}
use mathlib.Core.List.{flatten, map}
use Prim.Native.Nat.{◌≤◌, ◌+◌}
use native.Mathlib.Omega.{arith}
use borrow.Author.Rules.{rules}
use lib.ListN.{length, take}
use Rattle.text.proofs.Written.{nothing, one_more}
use Rattle.text.proofs.Pieces.{next-room, has_room, length-flatten}
use Rattle.script.specs.Lines.{point_text, nine_points}
use Rattle.script.proofs.round_lines.put_nine.Goals as goal

pub loop-i-init : goal.loop-i-init
unfolding flatten
loop-i-init c = nothing c.args.w.now

pub put_point-requires : goal.put_point-requires
unfolding nine_points point_text
put_point-requires c =
    let nine : length c.args.points ≡ 9 = search rules in
    let room : c.args.w.now.at + length (flatten (map point_text (take 9 c.args.points))) ≤ length c.args.w.now.out.now =
    omega (arith, c.requires.fits, length-flatten (map point_text (take 9 c.args.points))) in
    has_room (next-room point_text c.args.points _ c.loop-i.i c.loop-i.invariant.wrote 9 c.loop-i-test.true (omega arith) room)

pub loop-i-preserved : goal.loop-i-preserved
unfolding point_text
loop-i-preserved c =
    let nine : length c.args.points ≡ 9 = search rules in
    one_more point_text c.args.points _ c.loop-i.i c.loop-i.invariant (omega (arith, c.loop-i-test.true)) c.put_point.ensures

pub returns : goal.returns
unfolding nine_points
returns c =
    let all : c.loop-i.i ≡ 9 = search rules in
    rw all at c.loop-i.invariant
