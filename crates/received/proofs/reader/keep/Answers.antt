-- `received::reader::keep` meets its contract. The loop's invariant: the points of the lines so far are kept.
use mathlib.Core.Path.{sym, ◌∙◌, ap, subst}
use lib.ListN.{drop}
use native.Mathlib.Omega.{arith}
use Rattle.received.specs.Lines.{lines_in}
use Rattle.received.specs.Data.{datum_in, AllGood}
use Rattle.received.proofs.Cuts.{between}
use Rattle.received.proofs.Keeps.{good-line, read_some, read_told, some_left, one_more, epochs-done, values-done}
use Rattle.received.proofs.reader.keep.Goals as goal

pub bounds-epochs-i : goal.bounds-epochs-i
bounds-epochs-i c =
    let more = some_left c.args.text.now c.args.from c.loop-at.invariant.keeping c.loop-at-test.true in
    omega (arith, more, c.loop-at.invariant.keeping.long, c.requires.text_in_bounds.0)

pub put_six-requires : goal.put_six-requires
put_six-requires c =
    let more = some_left c.args.text.now c.args.from c.loop-at.invariant.keeping c.loop-at-test.true in
    omega (arith, more, c.loop-at.invariant.keeping.wide, c.requires.text_in_bounds.1)

pub unwrap-d-requires : goal.unwrap-d-requires
unwrap-d-requires c =
    let text = c.args.text.now in
    let past = c.past_line-end.ensures.value in
    read_some (between text c.loop-at.at c.past_line-end.result) c.read_datum.result c.read_datum.ensures
    (ap (λ end. (datum_in (between text c.loop-at.at end)).good) past ∙ (good-line text c.loop-at.at c.loop-at-test.true c.loop-at.invariant.good).0)

pub loop-at-preserved : goal.loop-at-preserved
loop-at-preserved c =
    let a = c.args in
    let text = a.text.now in
    let past = c.past_line-end.ensures.value in
    let e = ap (λ end. datum_in (between text c.loop-at.at end)) past in
    let d = read_told (between text c.loop-at.at c.past_line-end.result) c.read_datum.result c.read_datum.ensures c.unwrap-d.ensures in
    record {
      keeping =
          one_more text a.from c.loop-at.invariant.keeping c.loop-at-test.true c.requires.text_in_bounds.0 c.requires.text_in_bounds.1 past
          (d.seconds-are ∙ ap (λ x. x.seconds) e)
          (d.values-are ∙ ap (λ x. x.values) e)
          c.put_six.ensures;
      good = subst (λ x. AllGood (lines_in (drop x text))) (sym past) (good-line text c.loop-at.at c.loop-at-test.true c.loop-at.invariant.good).1;
    }

pub returns : goal.returns
returns c =
    let a = c.args in
    record { epochs_after = epochs-done a.text.now a.from c.loop-at.invariant.keeping c.loop-at-test.false; values_after = values-done a.text.now a.from c.loop-at.invariant.keeping c.loop-at-test.false }
