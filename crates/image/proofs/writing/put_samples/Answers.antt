-- `image::writing::put_samples` meets its contract: place by place.
use mathlib.Core.Path.{◌≡◌, ap}
use native.Mathlib.Numerals.{add-one}
use native.Mathlib.Omega.{arith}
use Rattle.image.specs.Layout.{places_words}
use Rattle.image.proofs.Lengths.{length-places_words}
use Rattle.image.proofs.Puts.{put-none, renamed, put_then}
use Rattle.image.proofs.writing.put_samples.Goals as goal

pub loop-i-init : goal.loop-i-init
unfolding places_words
loop-i-init c = put-none c.args.out.now c.args.at

pub put_place-requires : goal.put_place-requires
put_place-requires c = (omega arith, omega (arith, c.loop-i.invariant.long))

pub loop-i-preserved : goal.loop-i-preserved
unfolding places_words
loop-i-preserved c =
    let l = c.loop-i in
    rw (add-one l.i) (put_then l.invariant (omega (arith, length-places_words l.i c.args.s)) c.put_place.ensures)

pub shape_of-out : goal.shape_of-out
shape_of-out c = c.loop-i.invariant.long

pub returns : goal.returns
returns c =
    let l = c.loop-i in
    let e : l.i ≡ 9 = omega arith in
    renamed (ap (λ n. places_words n c.args.s) e) l.invariant
