-- `ticks::rounding::round_to_tick` meets its contract: the fields that the shifts and masks take are read back as x.
use mathlib.Core.Path.{◌≡◌, refl, sym, ap, ◌∙◌, subst}
use mathlib.Core.Bool.{true, false≢true}
use lib.Dec.{T}
use lib.Ieee.{Float, nan, inf, fin, is_nan}
use Rattle.std.specs.Prelude.{Err}
use Rattle.ticks.specs.declared.Fault.TheVariants.{NotANumber}
use Rattle.ticks.specs.Round.{rounded_of}
use Rattle.ticks.proofs.Fields.{read_back}
use Rattle.ticks.proofs.rounding.round_to_tick.Goals as goal

not-a-number : (x : Float) → is_nan x ≡ true → Err NotANumber ≡ rounded_of x
unfolding rounded_of is_nan
not-a-number nan h = refl
not-a-number (inf s) h = absurd (false≢true h)
not-a-number (fin s m e) h = absurd (false≢true h)

pub returns-then-is_nan : goal.returns-then-is_nan
returns-then-is_nan c = not-a-number c.args.x (sym c.is_nan.ensures.value ∙ c.if-is_nan.true)

pub returns : goal.returns
returns c = c.round_fields.ensures ∙ ap rounded_of (read_back c.args.x (subst T (sym c.well_formed.0.1) tt))
