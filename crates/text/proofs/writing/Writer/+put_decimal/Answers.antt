-- `text::writing::Writer::put_decimal` meets its contract.
use Rattle.std.proofs.Common.{arith, ap, length}
use Rattle.text.proofs.Written.{then}
use Rattle.text.proofs.Digits.{decimal-small, decimal-more, length_more}
use Rattle.text.proofs.writing.Writer.+put_decimal.Goals as goal

pub put-requires : goal.put-requires
put-requires t c = omega (arith, c.requires, ap length (decimal-small c.args.n c.if-n-lt10.true))

pub put_decimal-requires : goal.put_decimal-requires
put_decimal-requires t c = (
  omega arith,
  omega (arith, c.requires, length_more c.args.n c.if-n-lt10.false c.ranges.n.fits),
)

pub put-requires-else-n-lt10 : goal.put-requires-else-n-lt10
put-requires-else-n-lt10 t c =
    omega (arith, c.requires, c.put_decimal.ensures.wrote.ends, c.put_decimal.ensures.wrote.long, length_more c.args.n c.if-n-lt10.false c.ranges.n.fits)

pub returns-then-n-lt10 : goal.returns-then-n-lt10
returns-then-n-lt10 t c = rw (decimal-small c.args.n c.if-n-lt10.true) c.put.ensures

pub returns-else-n-lt10 : goal.returns-else-n-lt10
returns-else-n-lt10 t c =
    rw (decimal-more c.args.n c.if-n-lt10.false c.ranges.n.fits) (then c.put_decimal.ensures c.put-else-n-lt10.ensures)
