-- `received::mending::put_kept` meets its contract. The loop's invariant: the lines kept up to a place were written.
use mathlib.Core.Path.{ap, refl, ◌∙◌}
use mathlib.Core.List.{flatten}
use Prim.Native.Nat.{◌+◌}
use native.Mathlib.Omega.{arith}
use lib.ListN.{drop}
use Rattle.received.specs.Lines.{lines_in}
use Rattle.received.specs.Data.{kept_of}
use Rattle.received.proofs.Cuts.{between}
use Rattle.received.proofs.Surveys.{none_kept, bytes-here, kept-gone}
use Rattle.received.proofs.Turns.{put-none, put_next, put-still, put_all, put-room}
use Rattle.received.proofs.mending.put_kept.Goals as goal

pub loop-i-init : goal.loop-i-init
loop-i-init c =
    let a = c.args in
    record { within = c.requires.from_in_bounds; kept = put-none (flatten (kept_of 0 (lines_in (drop a.from a.text.now)))) a.w.now.out.now a.w.now.at; same = refl }

pub look-l-requires : goal.look-l-requires
look-l-requires c = c.loop-i-test.true

pub slice_bounds-put_word-count : goal.slice_bounds-put_word-count
slice_bounds-put_word-count c = omega (arith, c.look-l.ensures.more)

pub slice_bounds-put_word-start : goal.slice_bounds-put_word-start
slice_bounds-put_word-start c = let k = c.look-l.ensures in omega (arith, k.more, k.within)

pub slice_bounds-put_word-end : goal.slice_bounds-put_word-end
slice_bounds-put_word-end c = let k = c.look-l.ensures in omega (arith, k.more, k.within)

pub put_word-requires : goal.put_word-requires
put_word-requires c =
    let k = c.look-l in
    let l = c.loop-i in
    let text = c.args.text.now in
    put-room l.invariant.kept c.requires.text_in_bounds (between text l.i k.result.end) (flatten (kept_of (k.result.seconds + 1) (lines_in (drop k.result.end text))))
    (bytes-here text k.ensures c.if-l.true)

pub overflow_add-earliest : goal.overflow_add-earliest
overflow_add-earliest c = omega (arith, c.look-l.ensures.early)

pub loop-i-smaller-then-l : goal.loop-i-smaller-then-l
loop-i-smaller-then-l c = let k = c.look-l.ensures in omega (arith, k.more, k.within)

pub loop-i-preserved-then-l : goal.loop-i-preserved-then-l
loop-i-preserved-then-l c =
    let k = c.look-l in
    let l = c.loop-i in
    let text = c.args.text.now in
    record {
      within = k.ensures.within;
      same = c.put_word.ensures.same ∙ l.invariant.same;
      kept = put_next l.invariant.kept (between text l.i k.result.end) (bytes-here text k.ensures c.if-l.true) c.put_word.ensures.wrote;
    }

pub loop-i-smaller : goal.loop-i-smaller
loop-i-smaller c = let k = c.look-l.ensures in omega (arith, k.more, k.within)

pub loop-i-preserved : goal.loop-i-preserved
loop-i-preserved c =
    let k = c.look-l.ensures in
    let text = c.args.text.now in
    record {
      within = k.within;
      same = c.loop-i.invariant.same;
      kept = put-still c.loop-i.invariant.kept (ap flatten (kept-gone text k c.if-l.false));
    }

pub returns : goal.returns
unfolding flatten
returns c =
    let l = c.loop-i in
    let text = c.args.text.now in
    record { same = l.invariant.same; wrote = put_all l.invariant.kept (ap flatten (none_kept text l.i l.earliest c.loop-i-test.false)) }
