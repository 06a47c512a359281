-- `message::forms::seconds_in` meets its contract.
use Rattle.std.specs.Prelude.{unwrap_or}
use mathlib.Core.Path.{◌≡◌, ◌∙◌, ap}
use Rattle.message.specs.Request.{seconds_in}
use Rattle.message.proofs.Formed.{seconds-most}
use Rattle.message.proofs.forms.seconds_in.Goals as goal

pub returns : goal.returns
unfolding seconds_in
returns c =
    let e : c.unwrap_or.result ≡ seconds_in c.args.s.now = c.unwrap_or.ensures ∙ ap (λ t. unwrap_or t 0) c.read_time.ensures in
    (e, rw e (seconds-most c.args.s.now))
