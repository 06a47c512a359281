-- `table_text::put_answer` meets its contract: a refusal where no points are asked for, and else the table.
use native.Mathlib.Omega.{arith}
use Rattle.text.specs.Numbers.{ascii}
use Rattle.table_text.specs.Text.{answer_for}
use Rattle.table_text.proofs.Lines.{table-short}
use Rattle.table_text.proofs.put_answer.Goals as goal

pub put_table-requires : goal.put_table-requires
put_table-requires c =
    let h = rw c.in-Some.is at c.requires.points_bound in
    record { le_p = h; room = record { fits = omega (arith, table-short c.in-Some.p h) } }

pub returns-in-Some : goal.returns-in-Some
unfolding answer_for
returns-in-Some c = rw c.in-Some.is c.put_table.ensures

pub returns-in-None : goal.returns-in-None
unfolding answer_for ascii
returns-in-None c = rw c.in-None.is c.put_word.ensures
