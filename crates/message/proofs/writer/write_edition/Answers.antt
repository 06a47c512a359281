-- `message::writer::write_edition` meets its contract: a refusal, or the message of the edition.
use mathlib.Core.Path.{sym, ◌∙◌}
use native.Mathlib.Omega.{arith}
use borrow.Author.Rules.{rules}
use lib.ListN.{length}
use Rattle.text.proofs.Written.{from_start}
use Rattle.message.specs.Request.{request_of}
use Rattle.message.proofs.Answers.{unrefused, room_as_lem, refused, done}
use Rattle.message.proofs.writer.write_edition.Goals as goal

pub returns-then-number-ne0 : goal.returns-then-number-ne0
returns-then-number-ne0 c = refused c.args.edition (request_of c.args.r.now) c.args.out.now c.refusal_of-number.ensures c.if-number-ne0.true

pub put_message-requires : goal.put_message-requires
put_message-requires c =
    let r = request_of c.args.r.now in
    let u = unrefused r (length c.args.out.now) (sym c.refusal_of-number.ensures ∙ c.if-number-ne0.false) in
    let w = c.new-w.ensures in
    record { points_value = u.formed; points_value_2 = u.points; points_in_bounds = omega (arith, room_as_lem c.args.edition r _ u, w.long, w.starts) }

pub returns : goal.returns
returns c =
    let d = done c.args.edition (request_of c.args.r.now) c.args.out.now c.refusal_of-number.ensures c.if-number-ne0.false (from_start c.new-w.ensures c.put_message.ensures) in
    (rw c.place-length.ensures d.0, search (rules, d.1))
