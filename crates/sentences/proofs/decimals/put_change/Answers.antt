-- `sentences::decimals::put_change` meets its contract: the sign, the whole part and the decimals of the size.
use mathlib.Core.Path.{sym, ap, subst}
use Prim.Native.Nat.{◌<◌}
use native.Mathlib.Omega.{arith}
use borrow.Author.Rules.{rules}
use lib.ListN.{length}
use mir.Syntax.{w64}
use mir.Val.{SFits}
use mir.Facts.{to_z-of_z}
use Rattle.exact.specs.Numerator.{D}
use Rattle.text.specs.Numbers.{decimal}
use Rattle.text.proofs.Written.{piece, last, retold}
use Rattle.sentences.specs.Decimals.{rest_text, change_text}
use Rattle.sentences.proofs.Sizes.{rest_below}
use Rattle.sentences.proofs.decimals.put_change.Goals as goal

pub put_sign-requires : goal.put_sign-requires
unfolding change_text
put_sign-requires c =
    let fits : SFits w64 c.args.e.whole = search rules in
    rw (to_z-of_z {w = w64} fits) (omega (arith, c.requires.room.fits))

pub put_decimal-requires : goal.put_decimal-requires
unfolding change_text
put_decimal-requires c =
    let fits : SFits w64 c.args.e.whole = search rules in
    let w = rw (to_z-of_z {w = w64} fits) at c.put_sign.ensures in
    let d = ap (λ z. length (decimal z.whole)) c.size_of-size.ensures in
    omega (arith, c.requires.room.fits, w.wrote.ends, w.wrote.long, d)

pub put_rest-requires : goal.put_rest-requires
unfolding change_text
put_rest-requires c =
    let fits : SFits w64 c.args.e.whole = search rules in
    let size = c.size_of-size.ensures in
    let v = rw (to_z-of_z {w = w64} fits) at c.put_sign.ensures in
    let w = c.put_decimal.ensures.wrote in
    let d = ap (λ z. length (decimal z.whole)) size in
    let r = ap (λ z. length (rest_text z.rest)) size in
    record { rest_bound = subst (λ z. z.rest < D) (sym size) (rest_below c.args.e); rest_in_bounds = omega (arith, c.requires.room.fits, v.wrote.ends, v.wrote.long, w.ends, w.long, d, r) }

pub returns : goal.returns
unfolding change_text
returns c =
    let fits : SFits w64 c.args.e.whole = search rules in
    let size = c.size_of-size.ensures in
    let v = rw (to_z-of_z {w = w64} fits) at c.put_sign.ensures in
    let w = retold (ap (λ z. decimal z.whole) size) c.put_decimal.ensures in
    piece _ v (piece _ w (last (retold (ap (λ z. rest_text z.rest) size) c.put_rest.ensures)))
