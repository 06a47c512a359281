-- `received::heads::reach` meets its contract. The loop's invariant: j slots were passed, and what is left of the walk gives the rest.
use borrow.Author.Rules.{rules}
use Rattle.std.specs.Prelude.{Err}
use mathlib.Core.Path.{◌≡◌, sym, ◌∙◌, ap}
use Prim.Native.Nat.{◌+◌}
use native.Mathlib.Omega.{arith}
use lib.ListN.{take, drop}
use Rattle.received.specs.Lines.{lines_in}
use Rattle.received.specs.Slots.{walk}
use Rattle.received.specs.Profile.{slots}
use Rattle.received.specs.Reading.{slot_at}
use Rattle.received.specs.Finding.{spot_from}
use Rattle.received.proofs.Walks.{passed, stopped}
use Rattle.received.proofs.Reached.{slot_next, none_left}
use Rattle.received.proofs.heads.reach.Goals as goal

pub returns-in_err-spot-clause-ends : goal.returns-in_err-spot-clause-ends
returns-in_err-spot-clause-ends c =
    let a = c.args in
    let l = c.loop-j in
    let s = l.spot in
    let e : c.from_residual.result ≡ Err c.in_err-spot.field-0.0 = search rules in
    e
    ∙ stopped a.text.now s.at s.line (slot_at a.edition l.j) (drop (l.j + 1) (take a.k (slots a.edition))) _ (sym c.in_err-spot.was ∙ c.pass_slot.ensures.ends)
    ∙ ap (λ ss. spot_from s.at s.line (walk ss (lines_in (drop s.at a.text.now)))) (sym (slot_next a.edition a.k l.j (omega arith) c.requires))
    ∙ l.invariant.1

pub loop-j-preserved : goal.loop-j-preserved
loop-j-preserved c =
    let a = c.args in
    let l = c.loop-j in
    let s = l.spot in (
      c.in_ok-spot.ensures.inside,
      sym (passed a.text.now s.at s.line (slot_at a.edition l.j) (drop (l.j + 1) (take a.k (slots a.edition))) c.in_ok-spot.spot (sym c.in_ok-spot.was ∙ c.pass_slot.ensures.ends))
          ∙ ap (λ ss. spot_from s.at s.line (walk ss (lines_in (drop s.at a.text.now)))) (sym (slot_next a.edition a.k l.j (omega arith) c.requires))
          ∙ l.invariant.1,
    )

pub returns-clause-ends : goal.returns-clause-ends
returns-clause-ends c =
    let a = c.args in
    let l = c.loop-j in
    none_left a.edition a.text.now l.spot.at l.spot.line a.k l.j (omega arith) c.requires ∙ l.invariant.1
