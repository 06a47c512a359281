-- `received::judging::judge` meets its contract. Each way out knows which part stopped.
use mathlib.Core.Path.{◌≡◌, sym, ◌∙◌}
use borrow.Author.Rules.{rules}
use Rattle.std.specs.Prelude.{Err}
use Rattle.integers.specs.Tests.{failed, passed}
use Rattle.received.proofs.Headed.{headed, head-stops}
use Rattle.received.proofs.Judges.{data-stops, data-read, start-stops, stop-stops, all_read_lem}
use Rattle.std.proofs.lemmas.Bool.{not_from_false, not_from_true}
use Rattle.received.proofs.judging.judge.Goals as goal

pub returns-in_err-head : goal.returns-in_err-head
returns-in_err-head c =
    let n = c.in_err-head.field-0.0 in
    let e : c.from_residual.result ≡ Err n = search rules in
    e ∙ head-stops c.args.edition c.args.text.now n (sym c.in_err-head.was ∙ c.reach.ensures.ends)

pub returns-in-Err : goal.returns-in-Err
returns-in-Err c =
    let e = c.args.edition in
    let text = c.args.text.now in
    let h = headed e text c.in_ok-head.head (sym c.in_ok-head.was ∙ c.reach.ensures.ends) in
    data-stops e text h c.in-Err.count c.in-Err.ensures.value

pub returns-then-not-says_time : goal.returns-then-not-says_time
returns-then-not-says_time c =
    let e = c.args.edition in
    let text = c.args.text.now in
    let h = headed e text c.in_ok-head.head (sym c.in_ok-head.was ∙ c.reach.ensures.ends) in
    let d = data-read e text h c.in-Ok.data c.in-Ok.ensures.value in
    start-stops e text h d (failed c.says_time.ensures (not_from_false _ c.if-not-says_time.true)) c.begin_of.ensures.begins

pub returns-then-not-says_time-2 : goal.returns-then-not-says_time-2
returns-then-not-says_time-2 c =
    let e = c.args.edition in
    let text = c.args.text.now in
    let h = headed e text c.in_ok-head.head (sym c.in_ok-head.was ∙ c.reach.ensures.ends) in
    let d = data-read e text h c.in-Ok.data c.in-Ok.ensures.value in
    stop-stops e text h d (passed c.says_time.ensures (not_from_true _ c.if-not-says_time.false)) (failed c.says_time-2.ensures (not_from_false _ c.if-not-says_time-2.true)) c.begin_of-then-not-says_time-2.ensures.begins

pub returns : goal.returns
returns c =
    let e = c.args.edition in
    let text = c.args.text.now in
    let h = headed e text c.in_ok-head.head (sym c.in_ok-head.was ∙ c.reach.ensures.ends) in
    let d = data-read e text h c.in-Ok.data c.in-Ok.ensures.value in
    all_read_lem e text h d (passed c.says_time.ensures (not_from_true _ c.if-not-says_time.false)) (passed c.says_time-2.ensures (not_from_true _ c.if-not-says_time-2.false))
