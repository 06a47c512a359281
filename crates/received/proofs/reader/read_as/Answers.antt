-- `received::reader::read_as` meets its contract. The version is another, or reading stops, or there is no room, or the points are kept.
use mathlib.Core.Path.{sym, ◌∙◌}
use Rattle.integers.specs.Tests.{failed, passed}
use Rattle.received.proofs.Answers.{other, own, stops, within, through, no_room, has_room_lem, keeps, all_good}
use Rattle.std.proofs.lemmas.Bool.{not_from_false, not_from_true}
use Rattle.received.proofs.reader.read_as.Goals as goal

pub returns-then-is_other : goal.returns-then-is_other
returns-then-is_other c =
    let a = c.args in
    let s = other a.edition a.text.now a.epochs.now a.values.now (sym c.is_other.ensures ∙ c.if-is_other.true) in
    record { value = c.refused.ensures ∙ s.0; epochs_after = s.1; values_after = s.2 }

pub returns-in-Err : goal.returns-in-Err
returns-in-Err c =
    let a = c.args in
    let s = own a.edition a.text.now a.epochs.now a.values.now (sym c.is_other.ensures ∙ c.if-is_other.false)
    (stops a.edition a.text.now a.epochs.now a.values.now c.in-Err.line c.in-Err.ensures) in
    record { value = c.refused-in-Err.ensures ∙ s.0; epochs_after = s.1; values_after = s.2 }

pub returns-then-not-has_room : goal.returns-then-not-has_room
returns-then-not-has_room c =
    let a = c.args in
    let s =
    own a.edition a.text.now a.epochs.now a.values.now (sym c.is_other.ensures ∙ c.if-is_other.false)
    (no_room a.edition a.text.now a.epochs.now a.values.now c.in-Ok.ensures (failed c.has_room.ensures (not_from_false _ c.if-not-has_room.true))) in
    record { value = c.refused-then-not-has_room.ensures ∙ s.0; epochs_after = s.1; values_after = s.2 }

pub keep-requires : goal.keep-requires
keep-requires c =
    let a = c.args in
    record {
      from_in_bounds = within a.edition a.text.now a.epochs.now a.values.now c.in-Ok.ensures;
      all_good = all_good a.edition a.text.now a.epochs.now a.values.now c.in-Ok.ensures;
      text_in_bounds = has_room_lem a.edition a.text.now a.epochs.now a.values.now c.in-Ok.ensures (passed c.has_room.ensures (not_from_true _ c.if-not-has_room.false));
    }

pub found-requires : goal.found-requires
found-requires c =
    let a = c.args in
    through a.edition a.text.now a.epochs.now a.values.now c.in-Ok.ensures

pub returns : goal.returns
returns c =
    let a = c.args in
    let h = passed c.has_room.ensures (not_from_true _ c.if-not-has_room.false) in
    let s = own a.edition a.text.now a.epochs.now a.values.now (sym c.is_other.ensures ∙ c.if-is_other.false)
    (keeps a.edition a.text.now a.epochs.now a.values.now c.in-Ok.ensures h c.found.ensures c.keep.ensures.epochs_after c.keep.ensures.values_after) in
    record { value = s.0; epochs_after = s.1; values_after = s.2 }
