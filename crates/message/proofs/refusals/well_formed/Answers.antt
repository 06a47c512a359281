-- `message::refusals::well_formed` meets its contract: the tests one after the other.
use mathlib.Core.Path.{◌≡◌, refl, sym, ap, ap₂, ◌∙◌}
use mathlib.Core.Bool.{Bool, true, false, not}
use Prim.Native.Nat.{◌+◌, ◌*◌}
use lib.Dec.{leb, eqb}
use lib.ListN.{length}
use Rattle.integers.specs.Tests.{◌and◌, and_no, and_yes, joined}
use Rattle.calendar.specs.Calendar.{most_seconds}
use Rattle.message.specs.declared.Request as Handed
use Rattle.message.specs.Request.{request_of, count_of, seconds_at}
use Rattle.message.specs.Refusals.{is_time, names_hold, settings_hold, well_formed, ends_in_time}
use Rattle.message.proofs.Formed.{settings}
use Rattle.message.proofs.refusals.well_formed.Goals as goal
use Rattle.message.proofs.refusals.well_formed.Goals.{Joined-settings_hold, then-names_hold, else-names_hold, then-is_time, else-is_time, then-is_time-2, else-is_time-2, then-settings_hold, else-settings_hold}

regroup : (a b c d e f : Bool) → (((((a and b) and c) and d) and e) and f) ≡ (a and (b and (c and (d and (e and f)))))
regroup true true true true e f = refl
regroup true true true false e f = refl
regroup true true false d e f = refl
regroup true false c d e f = refl
regroup false b c d e f = refl

-- the tests before the last
abbrev names : Handed.Request → Bool
names r = names_hold r.originator.now r.object.now r.id.now r.center.now r.frame.now

abbrev five : Handed.Request → Bool
five r = (((names r and is_time r.created.now) and is_time r.start.now) and settings_hold r.tick r.step) and not (eqb (length r.points.now) 0)

before_last : (c : Joined-settings_hold) → c.if-settings_hold.value ≡ five c.args.r.now
before_last c =
    let r = c.args.r.now in
    let two : c.if-names_hold.value ≡ (names r and is_time r.created.now) =
    elim c.if-names_hold.branch [
      | then-names_hold w ↦ w.value-is ∙ and_yes (sym w.if-names_hold.ensures) w.is_time.ensures
      | else-names_hold w ↦ w.value-is ∙ w.if-names_hold.false ∙ and_no _ (sym w.if-names_hold.ensures)
    ] in
    let three : c.if-is_time.value ≡ ((names r and is_time r.created.now) and is_time r.start.now) =
    elim c.if-is_time.branch [
      | then-is_time w ↦ w.value-is ∙ and_yes (sym two ∙ w.if-is_time.true) w.is_time-then-is_time.ensures
      | else-is_time w ↦ w.value-is ∙ w.if-is_time.false ∙ and_no _ (sym two ∙ w.if-is_time.false)
    ] in
    let four : c.if-is_time-2.value ≡ (((names r and is_time r.created.now) and is_time r.start.now) and settings_hold r.tick r.step) =
    elim c.if-is_time-2.branch [
      | then-is_time-2 w ↦ w.value-is ∙ and_yes (sym three ∙ w.if-is_time-2.true) w.settings_hold.ensures
      | else-is_time-2 w ↦ w.value-is ∙ w.if-is_time-2.false ∙ and_no _ (sym three ∙ w.if-is_time-2.false)
    ] in
    elim c.if-settings_hold.branch [
      | then-settings_hold w ↦ w.value-is ∙ and_yes (sym four ∙ w.if-settings_hold.true) (ap not w.is_empty.ensures)
      | else-settings_hold w ↦ w.value-is ∙ w.if-settings_hold.false ∙ and_no _ (sym four ∙ w.if-settings_hold.false)
    ]

-- and the last, as the definition has them
all : (r : Handed.Request) → (five r and ends_in_time (request_of r)) ≡ well_formed (request_of r)
unfolding well_formed
all r = regroup (names r) (is_time r.created.now) (is_time r.start.now) (settings_hold r.tick r.step) (not (eqb (length r.points.now) 0)) (ends_in_time (request_of r))

pub ends_in_time-requires : goal.ends_in_time-requires
ends_in_time-requires c =
    let (p, e) = simp joined at (sym (before_last (goal.at.ends_in_time-requires c).Joined-settings_hold) ∙ c.if-not-is_empty.true) in
    (c.seconds_in.ensures.1, (settings p.1).1)

pub returns-then-not-is_empty : goal.returns-then-not-is_empty
unfolding ends_in_time seconds_at count_of
returns-then-not-is_empty c =
    let r = c.args.r.now in
    and_yes (sym (before_last (goal.at.returns-then-not-is_empty c).Joined-settings_hold) ∙ c.if-not-is_empty.true)
    (c.ends_in_time.ensures ∙ ap₂ (λ f l. leb (f + l * r.step) most_seconds) c.seconds_in.ensures.0 c.last_point.ensures)
    ∙ all r

pub returns-else-not-is_empty : goal.returns-else-not-is_empty
returns-else-not-is_empty c =
    let r = c.args.r.now in
    c.if-not-is_empty.false
    ∙ and_no (ends_in_time (request_of r)) (sym (before_last (goal.at.returns-else-not-is_empty c).Joined-settings_hold) ∙ c.if-not-is_empty.false)
    ∙ all r
