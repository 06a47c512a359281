-- `oem::answers::put_message` meets its contract: the parts are those of the request.
use mathlib.Core.Path.{◌≡◌, ◌∙◌, ap}
use Rattle.message.specs.Answer.{answer_as, room_as}
use Rattle.oem.specs.Answers.{request_of}
use Rattle.oem.proofs.answers.put_message.Goals as goal

pub returns : goal.returns
unfolding request_of
returns c =
    let a = c.args in
    let out = a.out.now in
    let request : _ ≡ request_of a.text.now a.names a.settings a.points.now =
    λ i. record {
      originator = c.part.ensures i;
      object = c.part-2.ensures i;
      id = c.part-3.ensures i;
      center = c.part-4.ensures i;
      frame = c.part-5.ensures i;
      created = c.part-6.ensures i;
      start = c.part-7.ensures i;
      tick = a.settings.tick;
      step = a.settings.step;
      points = a.points.now;
    } in (
      c.write_edition.ensures.0 ∙ ap (λ r. answer_as a.edition r out) request,
      c.write_edition.ensures.1 ∙ ap (λ r. room_as a.edition r out) request,
    )
