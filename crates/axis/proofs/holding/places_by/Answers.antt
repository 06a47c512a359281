-- `axis::holding::places_by` meets its contract: the places passed hold, and the others decide.
use mathlib.Core.Path.{◌≡◌, refl, sym, ap, ◌∙◌}
use Prim.Native.Nat.{suc, ◌-◌}
use native.Mathlib.Numerals.{add-one}
use native.Mathlib.Omega.{arith}
use borrow.Author.Rules.{rules}
use lib.Dec.{ltb}
use lib.IntN.{pos}
use lib.ListN.{length, get_or, drop, drop_of_length-le}
use mir.Syntax.{w64}
use mir.Val.{SFits}
use mir.Facts.{to_z-of_z}
use Rattle.integers.specs.Tests.{◌and◌, failed, passed, and_no, and_yes}
use Rattle.integers.specs.Differences.{at}
use Rattle.axis.specs.Holding.{place_holds, places_hold}
use Rattle.axis.proofs.Places.{hold-next}
use Rattle.std.proofs.lemmas.Bool.{not_from_false, not_from_true}
use Rattle.axis.proofs.holding.places_by.Goals as goal

pub returns-then-not-place_holds : goal.returns-then-not-place_holds
returns-then-not-place_holds c =
    let p = c.args.p in
    let xs = c.args.samples in
    let i = c.loop-i.i in
    let e : length xs ≡ 9 = search rules in
    let f : SFits w64 (get_or xs i (pos 0)) = search rules in
    let n : places_hold p xs ≡ (place_holds (ltb i p) (at xs i) and places_hold (p - suc i) (drop (suc i) xs)) = c.loop-i.invariant ∙ hold-next p i xs (omega arith) in
    and_no _ (failed (c.place_holds.ensures ∙ ap (place_holds (ltb i p)) (to_z-of_z {w = w64} f)) (not_from_false _ c.if-not-place_holds.true)) ∙ sym n

pub loop-i-preserved : goal.loop-i-preserved
loop-i-preserved c =
    let p = c.args.p in
    let xs = c.args.samples in
    let i = c.loop-i.i in
    let e : length xs ≡ 9 = search rules in
    let f : SFits w64 (get_or xs i (pos 0)) = search rules in
    let n : places_hold p xs ≡ (place_holds (ltb i p) (at xs i) and places_hold (p - suc i) (drop (suc i) xs)) = c.loop-i.invariant ∙ hold-next p i xs (omega arith) in
    rw add-one (n ∙ sym (and_yes (passed (c.place_holds.ensures ∙ ap (place_holds (ltb i p)) (to_z-of_z {w = w64} f)) (not_from_true _ c.if-not-place_holds.false)) refl))

pub returns : goal.returns
unfolding places_hold
returns c =
    let xs = c.args.samples in
    let e : length xs ≡ 9 = search rules in
    sym (c.loop-i.invariant ∙ ap (places_hold (c.args.p - c.loop-i.i)) (drop_of_length-le xs {i = c.loop-i.i} (omega arith)))
