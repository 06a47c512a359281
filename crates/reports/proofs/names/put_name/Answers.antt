-- `reports::names::put_name` meets its contract: the line of a part of the text.
use mathlib.Core.Path.{ap}
use mathlib.Core.List.{flatten}
use native.Mathlib.Omega.{arith}
use lib.ListN.{length}
use Rattle.text.specs.Numbers.{ascii}
use Rattle.text.proofs.Written.{retold}
use Rattle.reports.specs.Reports.{name_line}
use Rattle.reports.proofs.names.put_name.Goals as goal

pub put_line-requires : goal.put_line-requires
unfolding name_line ascii
put_line-requires c = record { fits = omega (arith, c.requires.room.fits, ap length c.part.ensures) }

pub returns : goal.returns
returns c =
    retold (ap (λ value. flatten (name_line c.args.keyword.now value)) c.part.ensures) c.put_line.ensures
