-- `oem::answers::answer_from` meets its contract: by what was read.
use Rattle.std.proofs.Common.{sym, subst, length}
use Rattle.std.proofs.lemmas.List.{length-take-le}
use Rattle.oem.specs.Answers.{Says}
use Rattle.oem.proofs.Texts.{parts, count-within, by-read, by-request}
use Rattle.oem.proofs.answers.answer_from.Goals as goal

pub slice_bounds-answer_request-end : goal.slice_bounds-answer_request-end
slice_bounds-answer_request-end c =
    let a = c.args in
    let (e, n) = c.in-Ok.ensures in
    count-within a.text.now a.from a.numbers.now n c.in-Ok.asked e

pub slice_bounds-answer_request-end-in-Ok : goal.slice_bounds-answer_request-end-in-Ok
slice_bounds-answer_request-end-in-Ok c =
    let a = c.args in
    let (e, n) = c.in-Ok.ensures in
    sym (length-take-le _ _ (count-within a.text.now a.from a.numbers.now n c.in-Ok.asked e))

pub answer_request-requires-clause-all_within : goal.answer_request-requires-clause-all_within
answer_request-requires-clause-all_within c =
    let a = c.args in
    let (e, n) = c.in-Ok.ensures in
    parts a.text.now a.from a.numbers.now n c.in-Ok.asked e

pub returns-in-Ok : goal.returns-in-Ok
returns-in-Ok c =
    let a = c.args in
    let (e, n) = c.in-Ok.ensures in
    subst (Says c.answer_request.new.out c.answer_request.result)
    (by-request a.text.now a.from a.numbers.now n a.edition (length a.out.now) c.in-Ok.asked e)
    c.answer_request.ensures

pub returns-in-Err : goal.returns-in-Err
returns-in-Err c =
    let a = c.args in
    let (e, n) = c.in-Err.ensures in
    subst (Says c.put_refusal.new.out c.put_refusal.result)
    (by-read a.text.now a.from a.numbers.now n a.edition (length a.out.now) e)
    c.put_refusal.ensures
