-- `decimal::units::ticks_in_a_metre` meets its contract.
use Rattle.decimal.proofs.Sizes.{shifted}
use Rattle.decimal.proofs.units.ticks_in_a_metre.Goals as goal

pub returns : goal.returns
returns c = shifted c.args.k c.requires
