-- `message::forms::names_hold` meets its contract: the names one after the other.
use mathlib.Core.Path.{◌≡◌, refl, sym, ◌∙◌}
use mathlib.Core.Bool.{Bool, true, false}
use mathlib.Core.List.{List}
use Prim.Native.Nat.{ℕ}
use Rattle.integers.specs.Tests.{◌and◌, and_no, and_yes}
use Rattle.text.specs.Numbers.{ascii}
use Rattle.message.specs.Form.{name_holds}
use Rattle.message.specs.Refusals.{names_hold}
use Rattle.message.proofs.forms.names_hold.Goals as goal
use Rattle.message.proofs.forms.names_hold.Goals.{Joined-name_holds-3, then-name_holds, else-name_holds, then-name_holds-2, else-name_holds-2, then-name_holds-3, else-name_holds-3}

regroup : (a b c d e : Bool) → ((((a and b) and c) and d) and e) ≡ (a and (b and (c and (d and e))))
regroup true true true d e = refl
regroup true true false d e = refl
regroup true false c d e = refl
regroup false b c d e = refl

-- the first four
four : (c : Joined-name_holds-3) → let r = c.args.r.now in
    c.if-name_holds-3.value ≡ (((name_holds 10 r.originator.now and name_holds 11 r.object.now) and name_holds 9 r.id.now) and name_holds 11 r.center.now)
four c =
    let r = c.args.r.now in
    let two : c.if-name_holds.value ≡ (name_holds 10 r.originator.now and name_holds 11 r.object.now) =
    elim c.if-name_holds.branch [
      | then-name_holds w ↦ w.value-is ∙ and_yes (sym w.if-name_holds.ensures) w.name_holds-then-name_holds.ensures
      | else-name_holds w ↦ w.value-is ∙ w.if-name_holds.false ∙ and_no _ (sym w.if-name_holds.ensures)
    ] in
    let three : c.if-name_holds-2.value ≡ ((name_holds 10 r.originator.now and name_holds 11 r.object.now) and name_holds 9 r.id.now) =
    elim c.if-name_holds-2.branch [
      | then-name_holds-2 w ↦ w.value-is ∙ and_yes (sym two ∙ w.if-name_holds-2.true) w.name_holds-then-name_holds-2.ensures
      | else-name_holds-2 w ↦ w.value-is ∙ w.if-name_holds-2.false ∙ and_no _ (sym two ∙ w.if-name_holds-2.false)
    ] in
    elim c.if-name_holds-3.branch [
      | then-name_holds-3 w ↦ w.value-is ∙ and_yes (sym three ∙ w.if-name_holds-3.true) w.name_holds-then-name_holds-3.ensures
      | else-name_holds-3 w ↦ w.value-is ∙ w.if-name_holds-3.false ∙ and_no _ (sym three ∙ w.if-name_holds-3.false)
    ]

-- and the last, as the definition has them
five : (o b i c f : List ℕ)
    → ((((name_holds 10 o and name_holds 11 b) and name_holds 9 i) and name_holds 11 c) and name_holds 9 f) ≡ names_hold o b i c f
unfolding names_hold ascii
five o b i c f = regroup (name_holds 10 o) (name_holds 11 b) (name_holds 9 i) (name_holds 11 c) (name_holds 9 f)

pub returns-then-name_holds-4 : goal.returns-then-name_holds-4
returns-then-name_holds-4 c =
    let r = c.args.r.now in
    let f = four (goal.at.returns-then-name_holds-4 c).Joined-name_holds-3 in
    and_yes (sym f ∙ c.if-name_holds-4.true) c.name_holds-then-name_holds-4.ensures ∙ five r.originator.now r.object.now r.id.now r.center.now r.frame.now

pub returns-else-name_holds-4 : goal.returns-else-name_holds-4
returns-else-name_holds-4 c =
    let r = c.args.r.now in
    let f = four (goal.at.returns-else-name_holds-4 c).Joined-name_holds-3 in
    c.if-name_holds-4.false
    ∙ and_no (name_holds 9 r.frame.now) (sym f ∙ c.if-name_holds-4.false)
    ∙ five r.originator.now r.object.now r.id.now r.center.now r.frame.now
