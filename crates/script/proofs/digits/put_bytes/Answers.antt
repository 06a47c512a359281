-- `script::digits::put_bytes` meets its contract.
use mathlib.Core.Path.{ap}
use mathlib.Core.List.{flatten, map}
use Prim.Native.Nat.{◌≤◌, ◌+◌}
use native.Mathlib.Omega.{arith}
use lib.ListN.{length, take}
use lib.Seq.{take_all}
use Rattle.text.proofs.Written.{nothing, retold, one_more}
use Rattle.text.proofs.Pieces.{next-room}
use Rattle.script.specs.Bytes.{byte_digits, digits_of}
use Rattle.script.proofs.digits.put_bytes.Goals as goal

pub loop-b-init : goal.loop-b-init
unfolding flatten
loop-b-init c = nothing c.args.w.now

pub put_byte-requires : goal.put_byte-requires
unfolding digits_of
put_byte-requires c =
    let bytes = c.args.bytes.now in
    let room : c.args.w.now.at + length (flatten (map byte_digits (take (length bytes) bytes))) ≤ length c.args.w.now.out.now =
    omega (arith, c.requires, ap (λ bs. length (flatten (map byte_digits bs))) (take_all (length bytes) bytes (omega arith))) in
    next-room byte_digits bytes 0 c.loop-b.b-index c.loop-b.invariant.wrote (length bytes) c.loop-b-test.true (omega arith) room

pub loop-b-preserved : goal.loop-b-preserved
loop-b-preserved c = one_more byte_digits c.args.bytes.now 0 c.loop-b.b-index c.loop-b.invariant c.loop-b-test.true c.put_byte.ensures

pub returns : goal.returns
unfolding digits_of
returns c =
    retold (ap (λ bs. flatten (map byte_digits bs)) (take_all c.loop-b.b-index c.args.bytes.now c.loop-b-test.false)) c.loop-b.invariant
