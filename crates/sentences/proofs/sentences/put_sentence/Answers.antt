-- `sentences::sentences::put_sentence` meets its contract: nothing, or the line.
use mathlib.Core.Path.{sym, ◌∙◌, ap}
use mathlib.Core.List.{flatten}
use Rattle.text.proofs.Written.{nothing, retold}
use Rattle.sentences.proofs.Texts.{nothing_said, all_said}
use Rattle.sentences.proofs.sentences.put_sentence.Goals as goal

pub returns-then-is_accepted : goal.returns-then-is_accepted
unfolding flatten
returns-then-is_accepted c =
    let a = c.args in
    retold (ap flatten (sym (nothing_said a.line a.s a.e (sym c.is_accepted.ensures ∙ c.if-is_accepted.true)))) (nothing a.w.now)

pub put_told-requires : goal.put_told-requires
put_told-requires c =
    let a = c.args in
    record { part_bound = c.requires.part_bound; room = rw (all_said a.line a.s a.e (sym c.is_accepted.ensures ∙ c.if-is_accepted.false)) at c.requires.room }

pub returns : goal.returns
returns c =
    let a = c.args in
    let said = all_said a.line a.s a.e (sym c.is_accepted.ensures ∙ c.if-is_accepted.false) in
    retold (ap flatten (sym said)) c.put_told.ensures
