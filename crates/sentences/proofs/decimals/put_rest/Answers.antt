-- `sentences::decimals::put_rest` meets its contract: a point and the decimals, where there is a rest.
use mathlib.Core.Path.{sym, ◌∙◌, ap}
use mathlib.Core.List.{◌∷◌}
use native.Mathlib.Omega.{arith}
use lib.ListN.{length}
use Rattle.text.proofs.Written.{nothing, then, retold}
use Rattle.sentences.specs.Decimals.{shortened}
use Rattle.sentences.proofs.Texts.{no-decimals, decimals}
use Rattle.sentences.proofs.decimals.put_rest.Goals as goal

pub returns-then-rest-eq0 : goal.returns-then-rest-eq0
returns-then-rest-eq0 c =
    retold (sym (no-decimals c.args.rest c.if-rest-eq0.true)) (nothing c.args.w.now)

pub put-requires : goal.put-requires
put-requires c =
    omega (arith, c.requires.rest_in_bounds, ap length (decimals c.args.rest c.if-rest-eq0.false))

pub put_shortened-requires : goal.put_shortened-requires
put_shortened-requires c =
    let w = c.put.ensures.wrote in
    let long = ap length (decimals c.args.rest c.if-rest-eq0.false) in
    omega (arith, c.requires.rest_in_bounds, w.ends, w.long, long, ap (λ n. length (shortened 10 n)) c.ten_decimals.ensures)

pub returns : goal.returns
returns c =
    let text = decimals c.args.rest c.if-rest-eq0.false in
    let ten = ap (λ n. 46 ∷ shortened 10 n) c.ten_decimals.ensures in
    retold (ten ∙ sym text) (then c.put.ensures c.put_shortened.ensures)
