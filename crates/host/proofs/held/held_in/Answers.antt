-- `host::held::held_in` meets its contract: by the answer's length, and by the number that reading the image gave.
use Rattle.std.proofs.Common.{ap, ap₂, eq-eqb, ne_eqb}
use Rattle.integers.specs.Tests.{◌and◌}
use Rattle.image.specs.Reading.{is_image}
use Rattle.host.specs.Calls.{is_answer}
use Rattle.host.proofs.Made.{read_none, read_taken, and-false}
use Rattle.host.proofs.held.held_in.Goals as goal

pub returns-then-answer-ne200 : goal.returns-then-answer-ne200
returns-then-answer-ne200 c = ap (λ t. t and is_image c.args.image.now) (ne_eqb _ _ c.if-answer-ne200.true)

pub returns-then-held-eq0 : goal.returns-then-held-eq0
returns-then-held-eq0 c =
    let r = c.read-held in
    let t = read_taken c.args.image.now r.result r.ensures c.if-held-eq0.true in
    (ap₂ (λ t u. t and u) (eq-eqb _ _ c.if-answer-ne200.false) t.image, t.session)

pub returns-else-held-eq0 : goal.returns-else-held-eq0
returns-else-held-eq0 c =
    let r = c.read-held in
    and-false (is_answer c.args.answer.now) (read_none c.args.image.now r.result r.ensures c.if-held-eq0.false)
