-- `reports::changes::put_changes` meets its contract.
use mathlib.Core.Path.{◌≡◌, sym, ap}
use mathlib.Core.List.{flatten}
use native.Mathlib.Omega.{arith}
use lib.ListN.{length}
use borrow.Author.Rules.{rules}
use Rattle.text.proofs.Written.{nothing, retold, one_more}
use Rattle.text.proofs.Pieces.{next-room, has_room}
use Rattle.received.specs.Mending.{change}
use Rattle.reports.specs.Reports.{change_text, changes_text, changes_of}
use Rattle.reports.specs.Rooms.{length-changes}
use Rattle.reports.proofs.Lines.{change-line}
use Rattle.reports.proofs.changes.put_changes.Goals as goal

pub loop-k-init : goal.loop-k-init
unfolding flatten
loop-k-init c = nothing c.args.w.now

pub put_change-requires : goal.put_change-requires
unfolding changes_text
put_change-requires c =
    let words = c.args.words.now in
    let k = c.loop-k.k in
    let taken = c.loop-k-test.true in
    let d = change 0 0 in
    let room = next-room change_text (changes_of words) d k c.loop-k.invariant.wrote c.args.count taken (length-changes c.args.count words c.requires.count_in_bounds) c.requires.words_in_bounds in
    has_room (omega (arith, room, ap length (change-line words k d (omega (arith, taken, c.requires.count_in_bounds)))))

pub loop-k-preserved : goal.loop-k-preserved
loop-k-preserved c =
    let words = c.args.words.now in
    let k = c.loop-k.k in
    let taken = c.loop-k-test.true in
    let d = change 0 0 in
    let line = retold (sym (change-line words k d (omega (arith, taken, c.requires.count_in_bounds)))) c.put_change.ensures in
    one_more change_text (changes_of words) d k c.loop-k.invariant (omega (arith, taken, length-changes c.args.count words c.requires.count_in_bounds)) line

pub returns : goal.returns
unfolding changes_text
returns c =
    let all : c.loop-k.k ≡ c.args.count = search rules in
    rw all at c.loop-k.invariant
