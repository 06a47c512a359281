-- `sentences::decimals::put_shortened` meets its contract.
use mathlib.Core.Path.{ap}
use native.Mathlib.Omega.{arith}
use lib.ListN.{length}
use Rattle.text.proofs.Written.{retold}
use Rattle.decimal.proofs.Digits.{length-last_digits}
use Rattle.sentences.proofs.decimals.put_shortened.Goals as goal

pub put_last_digits-requires : goal.put_last_digits-requires
put_last_digits-requires c =
    let d = c.shorten-digits.result in
    omega (arith, c.requires, length-last_digits d.count d.number, ap length c.shorten-digits.ensures)

pub returns : goal.returns
returns c = retold c.shorten-digits.ensures c.put_last_digits.ensures
