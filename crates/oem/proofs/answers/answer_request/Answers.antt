-- `oem::answers::answer_request` meets its contract: the message has the room that was asked for.
use mathlib.Core.Path.{sym, ◌∙◌, ap, subst}
use Prim.Native.Nat.{◌≤◌}
use native.Mathlib.Omega.{arith}
use mathlib.Core.List.{◌++◌}
use lib.ListN.{length, take, drop}
use lib.Seq.{length-take-le}
use Rattle.text.specs.Numbers.{ascii}
use Rattle.oem.specs.Answers.{Says, request_of, message_or}
use Rattle.oem.proofs.Said.{room_within, wrote, refused}
use Rattle.oem.proofs.answers.answer_request.Goals as goal

pub slice_bounds-put_message-end : goal.slice_bounds-put_message-end
slice_bounds-put_message-end c =
    let a = c.args in
    omega (arith, c.room_for-room.ensures, room_within a.asked.settings (length a.out.now))

pub slice_bounds-put_message-end-2 : goal.slice_bounds-put_message-end-2
slice_bounds-put_message-end-2 c =
    let a = c.args in
    sym (length-take-le c.room_for-room.result a.out.now (omega (arith, c.room_for-room.ensures, room_within a.asked.settings (length a.out.now))))

pub returns-then-written-eq0 : goal.returns-then-written-eq0
returns-then-written-eq0 c =
    let a = c.args in
    let request = request_of a.text.now a.asked.names a.asked.settings a.points.now in
    let out = a.out.now in
    let room = c.room_for-room.result in
    let fits : room ≤ length out = omega (arith, c.room_for-room.ensures, room_within a.asked.settings (length out)) in
    subst (λ n. Says (c.put_message-written.new.out ++ drop room out) c.put_message-written.result.length (message_or a.edition request n))
    (length-take-le room out fits ∙ c.room_for-room.ensures)
    (wrote a.edition request (take room out) (drop room out) c.put_message-written.ensures.0 c.put_message-written.ensures.1 c.if-written-eq0.true)

pub returns : goal.returns
unfolding ascii
returns c =
    let a = c.args in
    let request = request_of a.text.now a.asked.names a.asked.settings a.points.now in
    let out = a.out.now in
    let room = c.room_for-room.result in
    let fits : room ≤ length out = omega (arith, c.room_for-room.ensures, room_within a.asked.settings (length out)) in
    subst (Says c.put_line.new.out c.put_line.result)
    (refused a.edition request (take room out) c.put_message-written.ensures.0 c.if-written-eq0.false
    ∙ ap (message_or a.edition request) (length-take-le room out fits ∙ c.room_for-room.ensures))
    c.put_line.ensures
