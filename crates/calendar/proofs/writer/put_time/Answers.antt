-- `calendar::writer::put_time` meets its contract.
use Rattle.calendar.proofs.writer.put_time.Goals as goal

pub returns : goal.returns
returns c = rw (← c.time_bytes-text.ensures) c.put_word.ensures
