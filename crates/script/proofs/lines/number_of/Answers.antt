-- `script::lines::number_of` meets its contract: the four variants.
use mathlib.Core.Path.{sym, ap}
use borrow.Author.Rules.{rules}
use Rattle.script.specs.Lines.{number_of}
use Rattle.script.proofs.lines.number_of.Goals as goal

pub enum_told-1 : goal.enum_told-1
unfolding number_of
enum_told-1 c = search rules

pub enum_told-in-Settled : goal.enum_told-in-Settled
unfolding number_of
enum_told-in-Settled c = search rules

pub enum_told-in-Awaiting : goal.enum_told-in-Awaiting
unfolding number_of
enum_told-in-Awaiting c = search rules

pub enum_told-in-Starting : goal.enum_told-in-Starting
unfolding number_of
enum_told-in-Starting c = search rules

pub returns-in-Closed : goal.returns-in-Closed
unfolding number_of
returns-in-Closed c = sym (ap number_of c.in-Closed.is)

pub returns-in-Settled : goal.returns-in-Settled
unfolding number_of
returns-in-Settled c = sym (ap number_of c.in-Settled.is)

pub returns-in-Awaiting : goal.returns-in-Awaiting
unfolding number_of
returns-in-Awaiting c = sym (ap number_of c.in-Awaiting.is)

pub returns-in-Starting : goal.returns-in-Starting
unfolding number_of
returns-in-Starting c = sym (ap number_of c.in-Starting.is)
