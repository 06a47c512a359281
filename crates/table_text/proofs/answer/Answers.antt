-- `table_text::answer` meets its contract: the answer is written over zeros.
use mathlib.Core.Path.{ap, ◌∙◌}
use borrow.Author.Rules.{rules}
use Rattle.table_text.specs.Text.{answer_for, answer_to, text_of}
use Rattle.table_text.proofs.Input.{nine-at-most}
use Rattle.text.proofs.Written.{from_start}
use Rattle.table_text.proofs.Written.{text-written}
use Rattle.table_text.proofs.answer.Goals as goal

pub put_answer-requires-clause-points_bound : goal.put_answer-requires-clause-points_bound
put_answer-requires-clause-points_bound c = rw c.points.ensures (nine-at-most c.args.input.now)

pub returns : goal.returns
unfolding answer_to
returns c =
    let written = text-written (from_start c.new-w.ensures c.put_answer.ensures) ∙ ap (λ p. text_of (answer_for p)) c.points.ensures in
    rw c.place-length.ensures (search (rules, written))
