-- `image::writing::put_exact` meets its contract: the whole and the part.
use mathlib.Core.Path.{ap}
use mathlib.Core.List.{[], ◌∷◌}
use native.Mathlib.Omega.{arith}
use borrow.Author.Rules.{rules}
use mir.Syntax.{w64}
use mir.Val.{SFits}
use Rattle.image.specs.Layout.{exact_words}
use Rattle.image.proofs.Puts.{renamed, put_then}
use Rattle.image.proofs.Signs.{word_of}
use Rattle.image.proofs.writing.put_exact.Goals as goal

pub returns : goal.returns
unfolding exact_words
returns c =
    let f : SFits w64 c.args.e.whole = search rules in
    let whole = renamed (ap (λ w. w ∷ []) (word_of f c.cast_unsigned.ensures)) c.put_u64.ensures in
    put_then whole (omega arith) c.put_u64-2.ensures
