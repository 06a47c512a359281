-- `image::standing::stands` meets its contract: each test in turn.
use Rattle.std.proofs.Common.{◌≡◌, true, false, sym, ◌∙◌}
use Rattle.std.proofs.lemmas.Bool.{false≢true}
use Rattle.session.specs.Holding.{settled, awaiting}
use Rattle.image.specs.Standing.{stands}
use Rattle.image.proofs.standing.stands.Goals as goal
use Rattle.image.proofs.standing.stands.Goals.{then-is_settled, else-is_settled}

pub returns-then-is_awaiting : goal.returns-then-is_awaiting
unfolding stands
returns-then-is_awaiting c =
    let s = c.args.s in
    elim c.if-is_settled.branch [
      | then-is_settled w ↦
          let e : settled s ≡ true = sym c.is_settled.ensures ∙ w.if-is_settled.true in
          rw e c.if-is_awaiting.true
      | else-is_settled w ↦
          let e : settled s ≡ false = sym c.is_settled.ensures ∙ w.if-is_settled.false in
          let f : awaiting s ≡ true = sym w.is_awaiting.ensures ∙ sym w.value-is ∙ c.if-is_awaiting.true in
          rw (e, f) c.if-is_awaiting.true
    ]

pub returns-else-is_awaiting : goal.returns-else-is_awaiting
unfolding stands
returns-else-is_awaiting c =
    let s = c.args.s in
    elim c.if-is_settled.branch [
      | then-is_settled w ↦ absurd (false≢true (sym c.if-is_awaiting.false ∙ w.value-is ∙ w.if-is_settled.true))
      | else-is_settled w ↦
          let e : settled s ≡ false = sym c.is_settled.ensures ∙ w.if-is_settled.false in
          let f : awaiting s ≡ false = sym w.is_awaiting.ensures ∙ sym w.value-is ∙ c.if-is_awaiting.false in
          rw (e, f) c.is_starting.ensures
    ]
