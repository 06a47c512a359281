-- `host::durungkilat_open` meets its contract: 14 by the two lengths, and then the opening.
use mathlib.Core.Path.{◌≡◌, ap, ◌∙◌}
use mir.Facts.{to_z-of_z}
use Rattle.axis.specs.declared.Tolerances.{Tolerances}
use Rattle.session.specs.declared.WholePoint.{WholePoint}
use Rattle.session.specs.Requests.{Request, request}
use Rattle.steps.specs.Answers.{opening_answer}
use Rattle.steps.specs.Steps.{open_of}
use Rattle.steps.proofs.Answers.{open-answers}
use Rattle.host.specs.Samples.{floats_of}
use Rattle.host.specs.Calls.{host_request}
use Rattle.host.proofs.States.{opened-standing}
use Rattle.host.proofs.Made.{open-no-image, open-no-answer, opened}
use mir.Syntax.{w64}
use Rattle.host.proofs.durungkilat_open.Goals as goal
use Rattle.host.proofs.durungkilat_open.Goals.{then-image-ne656-via-then-image-ne656, then-image-ne656-via-else-image-ne656+then-answer-ne200}

pub returns-then-image-ne656 : goal.returns-then-image-ne656
returns-then-image-ne656 c =
    let a = c.args in
    let p : WholePoint = record { x = a.x; y = a.y; z = a.z; vx = a.vx; vy = a.vy; vz = a.vz } in
    let q : Request = host_request a.points a.position_tolerance a.velocity_tolerance a.limit p a.samples.now in
    elim c.then-image-ne656.branch [
      | then-image-ne656-via-then-image-ne656 w ↦ open-no-image c.args.image.now c.args.answer.now q w.if-image-ne656.true
      | then-image-ne656-via-else-image-ne656+then-answer-ne200 w ↦ open-no-answer c.args.image.now c.args.answer.now q w.if-answer-ne200.true
    ]

pub returns : goal.returns
returns c =
    let a = c.args in
    let p : WholePoint = record { x = a.x; y = a.y; z = a.z; vx = a.vx; vy = a.vy; vz = a.vz } in
    let q : Request = host_request a.points a.position_tolerance a.velocity_tolerance a.limit p a.samples.now in
    let f = c.ranges in
    let tolerances : Tolerances = record { position = a.position_tolerance; velocity = a.velocity_tolerance } in
    let same : _ ≡ p =
    λ i. record { x = to_z-of_z {w = w64} f.x i; y = to_z-of_z {w = w64} f.y i; z = to_z-of_z {w = w64} f.z i; vx = to_z-of_z {w = w64} f.vx i; vy = to_z-of_z {w = w64} f.vy i; vz = to_z-of_z {w = w64} f.vz i } in
    let made = c.open_from-after.ensures ∙ ap (λ r. open_of (request a.points tolerances a.limit r (floats_of a.points a.samples.now))) same in
    opened a.image.now a.answer.now q c.if-image-ne656.false c.if-answer-ne200.false (opened-standing q)
    (ap (λ x. x.session) made)
    (c.opening_answer.ensures ∙ ap (λ x. opening_answer x.answer) made ∙ open-answers q)
    c.leave.ensures
