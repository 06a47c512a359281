-- `coefficients::weights` meets its contract: the arm for k takes the row at k - 1 of the formula's square, and p is k.
use borrow.Author.Rules.{rules}
use Rattle.coefficients.proofs.Rows.{numbered, ninth}
use Rattle.coefficients.proofs.weights.Goals as goal

pub returns-in-1 : goal.returns-in-1
returns-in-1 c = numbered c.args.which 1 c.square-square.ensures c.requires c.in-1.is

pub returns-in-2 : goal.returns-in-2
returns-in-2 c = numbered c.args.which 2 c.square-square.ensures c.requires c.in-2.is

pub returns-in-3 : goal.returns-in-3
returns-in-3 c = numbered c.args.which 3 c.square-square.ensures c.requires c.in-3.is

pub returns-in-4 : goal.returns-in-4
returns-in-4 c = numbered c.args.which 4 c.square-square.ensures c.requires c.in-4.is

pub returns-in-5 : goal.returns-in-5
returns-in-5 c = numbered c.args.which 5 c.square-square.ensures c.requires c.in-5.is

pub returns-in-6 : goal.returns-in-6
returns-in-6 c = numbered c.args.which 6 c.square-square.ensures c.requires c.in-6.is

pub returns-in-7 : goal.returns-in-7
returns-in-7 c = numbered c.args.which 7 c.square-square.ensures c.requires c.in-7.is

pub returns-in-8 : goal.returns-in-8
returns-in-8 c = numbered c.args.which 8 c.square-square.ensures c.requires c.in-8.is

pub returns-in_default : goal.returns-in_default
returns-in_default c = numbered c.args.which 9 c.square-square.ensures c.requires (ninth c.requires (search rules))
