-- `image::writing::put_settings` meets its contract: seven words.
use mathlib.Core.Path.{ap}
use mathlib.Core.List.{[], ◌∷◌}
use native.Mathlib.Omega.{arith}
use Rattle.image.specs.Layout.{settings_words}
use Rattle.image.proofs.Puts.{renamed, put_then}
use Rattle.image.proofs.writing.put_settings.Goals as goal

pub returns : goal.returns
unfolding settings_words
returns c =
    put_then (renamed (ap (λ w. w ∷ []) c.state_word.ensures) c.put_u64.ensures) (omega arith)
    (put_then c.put_u64-2.ensures (omega arith)
    (put_then c.put_u64-3.ensures (omega arith)
    (put_then c.put_u64-4.ensures (omega arith)
    (put_then c.put_u64-5.ensures (omega arith)
    (put_then c.put_u64-6.ensures (omega arith)
    c.put_u64-7.ensures)))))
