-- `message::refusals::refusal_of` meets its contract: the rules in order.
use native.Mathlib.Omega.{arith}
use borrow.Author.Tests.{lt-ltb, le-ltb, eqb-false}
use lib.ListN.{length}
use Rattle.integers.specs.Tests.{failed, passed}
use Rattle.rules.proofs.Tests.{hit, past, hit-not, past-not, none-given}
use Rattle.message.specs.Request.{request_of}
use Rattle.message.specs.Message.{message}
use Rattle.message.proofs.Wholes.{well, short, points-few, message-long, points-odd, data-none, data-long}
use Rattle.message.proofs.Answers.{gives}
use Rattle.std.proofs.lemmas.Bool.{not_from_false, not_from_true}
use Rattle.message.proofs.refusals.refusal_of.Goals as goal

pub returns-then-not-well_formed : goal.returns-then-not-well_formed
returns-then-not-well_formed c = gives (request_of c.args.r.now) c.args.room (hit-not (failed c.well_formed-2.ensures (not_from_false _ c.if-not-well_formed.true)))

pub returns-then-r-ne0 : goal.returns-then-r-ne0
returns-then-r-ne0 c =
    let a = c.args in
    gives (request_of c.args.r.now) a.room
    (past-not (passed c.well_formed-2.ensures (not_from_true _ c.if-not-well_formed.false)) (hit-not (points-odd a.r.now.tick a.r.now.step a.r.now.points.now c.if-r-ne0.true)))

pub lines_length-data-requires : goal.lines_length-data-requires
lines_length-data-requires c =
    let r = request_of c.args.r.now in
    let w = well r (passed c.well_formed-2.ensures (not_from_true _ c.if-not-well_formed.false)) in
    record { points_len_bound = points-few r w; step_value = w.settings }

pub returns-then-data-eq0 : goal.returns-then-data-eq0
returns-then-data-eq0 c =
    let a = c.args in
    let r = request_of c.args.r.now in
    let t = passed c.well_formed-2.ensures (not_from_true _ c.if-not-well_formed.false) in
    let w = well r t in
    gives r a.room
    (past-not t
    (hit-not
    (data-none a.r.now.tick a.r.now.step a.r.now.points.now c.lines_length-data.ensures.0 c.if-r-ne0.false (eqb-false (length a.r.now.points.now) 0 w.some) c.if-data-eq0.true)))

pub whole_length-requires : goal.whole_length-requires
whole_length-requires c =
    let r = request_of c.args.r.now in
    let s = short r (well r (passed c.well_formed-2.ensures (not_from_true _ c.if-not-well_formed.false))) in
    (s.originator, s.object, s.id, s.center, s.frame, c.lines_length-data.ensures.1)

pub returns-then-room-whole_length : goal.returns-then-room-whole_length
returns-then-room-whole_length c =
    let a = c.args in
    let r = request_of c.args.r.now in
    let t = passed c.well_formed-2.ensures (not_from_true _ c.if-not-well_formed.false) in
    let (p, l) = data-long a.r.now.tick a.r.now.step a.r.now.points.now c.lines_length-data.ensures.0 c.if-r-ne0.false c.if-data-eq0.false in
    gives r a.room (past-not t (past-not p (hit (lt-ltb a.room (length (message r)) (omega (arith, c.if-room-whole_length.true, c.whole_length.ensures, l, message-long r (well r t)))))))

pub returns : goal.returns
returns c =
    let a = c.args in
    let r = request_of c.args.r.now in
    let t = passed c.well_formed-2.ensures (not_from_true _ c.if-not-well_formed.false) in
    let (p, l) = data-long a.r.now.tick a.r.now.step a.r.now.points.now c.lines_length-data.ensures.0 c.if-r-ne0.false c.if-data-eq0.false in
    gives r a.room
    (past-not t (past-not p (past (le-ltb a.room (length (message r)) (omega (arith, c.if-room-whole_length.false, c.whole_length.ensures, l, message-long r (well r t)))) none-given)))
