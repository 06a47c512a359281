-- `received::mending::mend_as` meets its contract: another version, a refusal, or the text and the list of the plan.
use mathlib.Core.Path.{sym, ◌∙◌}
use Rattle.integers.specs.Tests.{failed, passed}
use Rattle.received.proofs.Mends.{other, own, cannot, no_room, rooms, mends}
use native.Mathlib.Omega.{arith}
use borrow.Author.Rules.{rules}
use Rattle.text.proofs.Written.{from_start as written}
use Rattle.std.proofs.lemmas.Bool.{not_from_false, not_from_true}
use Rattle.received.proofs.mending.mend_as.Goals as goal

pub returns-then-is_other : goal.returns-then-is_other
returns-then-is_other c =
    let a = c.args in
    let (r, out, l) = other a.edition a.text.now a.out.now a.changes.now (sym c.is_other.ensures ∙ c.if-is_other.true) in
    record { value = c.refused.ensures ∙ r; out_after = out; changes_after = l }

pub returns-in_default : goal.returns-in_default
returns-in_default c =
    let a = c.args in
    let o = sym c.is_other.ensures ∙ c.if-is_other.false in
    let (r, out, l) = own a.edition a.text.now a.out.now a.changes.now o
    (cannot a.edition a.text.now a.out.now a.changes.now c.in_default.ensures) in
    record { value = c.refused-in_default.ensures ∙ r; out_after = out; changes_after = l }

pub has_rooms-requires : goal.has_rooms-requires
has_rooms-requires c = c.in-Some.ensures.planned

pub returns-then-not-has_rooms : goal.returns-then-not-has_rooms
returns-then-not-has_rooms c =
    let a = c.args in
    let o = sym c.is_other.ensures ∙ c.if-is_other.false in
    let h = c.in-Some.ensures in
    let (r, out, l) = own a.edition a.text.now a.out.now a.changes.now o
    (no_room a.edition a.text.now a.out.now a.changes.now c.in-Some.p h (failed c.has_rooms.ensures (not_from_false _ c.if-not-has_rooms.true))) in
    record { value = c.refused-then-not-has_rooms.ensures ∙ r; out_after = out; changes_after = l }

pub put_text-requires : goal.put_text-requires
put_text-requires c =
    let a = c.args in
    let h = c.in-Some.ensures in
    let w = c.new-w.ensures in
    record { planned = h.planned; p_in_bounds = omega (arith, w.long, w.starts, (rooms a.edition a.text.now a.out.now a.changes.now c.in-Some.p h (passed c.has_rooms.ensures (not_from_true _ c.if-not-has_rooms.false))).0) }

pub put_list-words-requires : goal.put_list-words-requires
put_list-words-requires c =
    let a = c.args in
    let h = c.in-Some.ensures in
    record { planned = h.planned; p_in_bounds = (rooms a.edition a.text.now a.out.now a.changes.now c.in-Some.p h (passed c.has_rooms.ensures (not_from_true _ c.if-not-has_rooms.false))).1 }

pub returns : goal.returns
returns c =
    let a = c.args in
    let o = sym c.is_other.ensures ∙ c.if-is_other.false in
    let h = c.in-Some.ensures in
    let (r, out, l) = own a.edition a.text.now a.out.now a.changes.now o
    (mends a.edition a.text.now a.out.now a.changes.now c.in-Some.p h (passed c.has_rooms.ensures (not_from_true _ c.if-not-has_rooms.false)) (written c.new-w.ensures c.put_text.ensures) c.put_list-words.ensures) in
    record { value = rw c.place-length.ensures r; out_after = search (rules, out); changes_after = l }
