-- `message_request::points::read_wholes` meets its contract. The loop's invariant: the numbers so far were read.
use Rattle.std.proofs.Common.{rules, arith, ◌∙◌, sym}
use Rattle.message_request.proofs.Numbers.{no_more, one_more, all_read}
use Rattle.message_request.proofs.points.read_wholes.Goals as goal

pub returns-in_err-whole : goal.returns-in_err-whole
returns-in_err-whole c =
    c.from_residual.ensures ∙ no_more c.args.text.now c.args.at c.loop-value.invariant (omega arith) (sym (c.in_err-whole.ensures))

pub loop-value-preserved : goal.loop-value-preserved
loop-value-preserved c =
    let k = one_more c.args.text.now c.args.at c.loop-value.invariant (omega arith) c.in_ok-whole.whole c.in_ok-whole.next (sym (c.in_ok-whole.ensures)) in
    search rules

pub returns : goal.returns
returns c = all_read c.args.text.now c.args.at c.loop-value.invariant (omega arith)
