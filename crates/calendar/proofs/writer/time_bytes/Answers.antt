-- `calendar::writer::time_bytes` meets its contract.
use Rattle.text.specs.Numbers.{ascii}
use Rattle.calendar.specs.Text.{time_text}
use Rattle.calendar.proofs.Back.{two_digits, four-digits}
use Rattle.calendar.proofs.writer.time_bytes.Goals as goal

pub returns : goal.returns
unfolding time_text ascii
returns c =
    simp (
      four-digits,
      two_digits,
      c.digit.ensures,
      c.digit-2.ensures,
      c.digit-3.ensures,
      c.digit-4.ensures,
      c.digit-5.ensures,
      c.digit-6.ensures,
      c.digit-7.ensures,
      c.digit-8.ensures,
      c.digit-9.ensures,
      c.digit-10.ensures,
      c.digit-11.ensures,
      c.digit-12.ensures,
      c.digit-13.ensures,
      c.digit-14.ensures,
    )
