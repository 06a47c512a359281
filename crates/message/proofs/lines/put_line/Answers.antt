-- `message::lines::put_line` meets its contract: its pieces, one after the other.
use native.Mathlib.Omega.{arith}
use Rattle.text.specs.Numbers.{ascii}
use Rattle.text.proofs.Written.{piece, last}
use Rattle.calendar.specs.Calendar.{moment_of}
use Rattle.calendar.proofs.Back.{text-long}
use Rattle.message.specs.Message.{line}
use Rattle.message.proofs.lines.put_line.Goals as goal

pub put_time-requires : goal.put_time-requires
unfolding line ascii
put_time-requires c = omega (arith, c.requires.room.fits, text-long (moment_of c.args.seconds))

pub put_values-requires : goal.put_values-requires
unfolding line ascii
put_values-requires c = record { i_in_bounds = c.requires.seconds_le_most_seconds.1; step_value = c.requires.step_value; i_in_bounds_2 = omega (arith, c.requires.room.fits, text-long (moment_of c.args.seconds), text-long c.moment_of.result, c.put_time.ensures.wrote.ends, c.put_time.ensures.wrote.long) }

pub put_word-requires : goal.put_word-requires
unfolding line ascii
put_word-requires c =
    omega (arith, c.requires.room.fits, text-long (moment_of c.args.seconds), text-long c.moment_of.result, c.put_time.ensures.wrote.ends, c.put_time.ensures.wrote.long, c.put_values.ensures.wrote.ends, c.put_values.ensures.wrote.long)

pub returns : goal.returns
unfolding line ascii
returns c = rw (← c.moment_of.ensures) (piece _ c.put_time.ensures (piece _ c.put_values.ensures (last c.put_word.ensures)))
