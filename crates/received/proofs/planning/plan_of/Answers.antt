-- `received::planning::plan_of` meets its contract: no head, no line that is kept, or a plan.
use Rattle.received.proofs.Headed.{headed, no-head}
use Rattle.received.proofs.Plans.{none_kept, planned}
use Rattle.received.proofs.planning.plan_of.Goals as goal

pub returns-then-data-eq0 : goal.returns-then-data-eq0
returns-then-data-eq0 c =
    let e = c.args.edition in
    let text = c.args.text.now in
    let h = headed e text c.in-Ok.head c.in-Ok.ensures.ends in
    none_kept e text h c.survey-data.ensures.0 c.if-data-eq0.true

pub returns : goal.returns
returns c =
    let s = c.survey-data.ensures in
    let start = c.begin_of-start.ensures in
    let e = c.args.edition in
    let text = c.args.text.now in
    let h = headed e text c.in-Ok.head c.in-Ok.ensures.ends in
    planned e text h s.0 c.if-data-eq0.false start.begins c.begin_of-stop.ensures.begins c.says_time-starts.ensures c.says_time-stops.ensures s.1 s.2 s.3 c.in-Ok.ensures.inside start.inside

pub returns-in_default : goal.returns-in_default
returns-in_default c = no-head c.args.edition c.args.text.now c.in_default.field-0 c.in_default.ensures.ends
