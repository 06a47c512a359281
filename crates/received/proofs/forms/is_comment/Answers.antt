-- `received::forms::is_comment` meets its contract: the front of a comment, and its test of the rest.
use mathlib.Core.Path.{refl}
use borrow.Author.Rules.{rules}
use Rattle.text.specs.Numbers.{ascii}
use Rattle.received.specs.Profile.{comment_form}
use Rattle.received.proofs.Fronts.{of-rest_of}
use Rattle.received.proofs.forms.is_comment.Goals as goal

pub returns : goal.returns
unfolding ascii
returns c = of-rest_of comment_form refl c.args.line.now (λ b. b.now) c.rest_of.result c.rest_of.ensures (search rules)
