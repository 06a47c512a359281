-- `script::series::read_series` meets its contract: one piece more, and the end.
use mathlib.Core.Path.{sym, ◌∙◌, ap}
use mathlib.Core.List.{[], ◌∷◌}
use Prim.Native.Nat.{◌+◌, ◌-◌}
use native.Mathlib.Omega.{arith}
use lib.ListN.{length, length-append}
use Rattle.script.specs.Series.{series}
use Rattle.script.proofs.ToTheEnd.{after, at_end, full, one_more}
use Rattle.script.proofs.series.read_series.Goals as goal

pub loop-preserved : goal.loop-preserved
loop-preserved g c =
    let x = c.read.result in
    let read = g.T.Piece.reader in
    let so_far =
    one_more read g.row.N c.loop.counter c.args.words.now c.loop.words c.loop.series c.loop.invariant.so_far
    c.loop-test.true (sym c.is_over.ensures ∙ c.if-is_over.false) x c.read.new.words c.read.ensures in
    record {
      count = ap length c.push.ensures ∙ omega (arith, length-append c.loop.series (x ∷ []), c.loop.invariant.count);
      so_far = so_far ∙ ap (λ xs. after xs (series read (g.row.N - (c.loop.counter + 1)) c.read.new.words)) (sym c.push.ensures);
    }

pub returns-after-loop : goal.returns-after-loop
returns-after-loop g c =
    full g.T.Piece.reader g.row.N c.loop.counter c.args.words.now c.loop.words c.loop.series c.loop.invariant.so_far c.loop-test.false

pub returns-then-is_over : goal.returns-then-is_over
returns-then-is_over g c =
    at_end g.T.Piece.reader g.row.N c.loop.counter c.args.words.now c.loop.words c.loop.series c.loop.invariant.so_far
    (sym c.is_over.ensures ∙ c.if-is_over.true)
