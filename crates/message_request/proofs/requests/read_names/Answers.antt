-- `message_request::requests::read_names` meets its contract: seven lines.
use Rattle.std.proofs.Common.{ℕ, List, ◌∙◌, ap}
use Rattle.text.specs.Numbers.{ascii}
use Rattle.message_request.specs.declared.Rest.{Rest}
use Rattle.message_request.specs.Lines.{rest_in}
use Rattle.message_request.specs.Requests.{names_in}
use Rattle.message_request.proofs.requests.read_names.Goals as goal

pub returns : goal.returns
unfolding names_in ascii
returns c =
    let text : List ℕ = c.args.text.now in
    let next : List ℕ → Rest → Rest = λ word r. rest_in text r.next word in
    let created = c.read_rest-created.ensures in
    let originator = c.read_rest-originator.ensures ∙ ap (next (ascii "originator ")) created in
    let object = c.read_rest-object.ensures ∙ ap (next (ascii "object ")) originator in
    let id = c.read_rest-id.ensures ∙ ap (next (ascii "id ")) object in
    let center = c.read_rest-center.ensures ∙ ap (next (ascii "center ")) id in
    let frame = c.read_rest-frame.ensures ∙ ap (next (ascii "frame ")) center in
    let start = c.read_rest-start.ensures ∙ ap (next (ascii "start ")) frame in
    λ i. record {
      created = created i;
      originator = originator i;
      object = object i;
      id = id i;
      center = center i;
      frame = frame i;
      start = start i;
    }
