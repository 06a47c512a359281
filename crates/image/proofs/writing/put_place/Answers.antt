-- `image::writing::put_place` meets its contract: three words.
use mathlib.Core.Path.{ap}
use mathlib.Core.List.{[], ◌∷◌}
use native.Mathlib.Omega.{arith}
use borrow.Author.Rules.{rules}
use mir.Syntax.{w64}
use mir.Val.{SFits}
use Rattle.integers.specs.Differences.{at}
use Rattle.image.specs.Layout.{place_words}
use Rattle.image.proofs.Puts.{renamed, put_then}
use Rattle.image.proofs.Signs.{word_of}
use Rattle.image.proofs.writing.put_place.Goals as goal

pub returns : goal.returns
unfolding place_words
returns c =
    let a = c.args in
    let fx : SFits w64 (at a.s.x.samples a.i) = search rules in
    let fy : SFits w64 (at a.s.y.samples a.i) = search rules in
    let fz : SFits w64 (at a.s.z.samples a.i) = search rules in
    let x = renamed (ap (λ w. w ∷ []) (word_of fx c.cast_unsigned.ensures)) c.put_u64.ensures in
    let y = renamed (ap (λ w. w ∷ []) (word_of fy c.cast_unsigned-2.ensures)) c.put_u64-2.ensures in
    let z = renamed (ap (λ w. w ∷ []) (word_of fz c.cast_unsigned-3.ensures)) c.put_u64-3.ensures in
    put_then x (omega arith) (put_then y (omega arith) z)
