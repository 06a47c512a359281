-- `host::answering::leave` meets its contract: both slices are filled.
use Rattle.image.proofs.Lengths.{length-record_words}
use Rattle.image.proofs.Puts.{put_all}
use Rattle.host.proofs.Lengths.{length-answer}
use native.Mathlib.Omega.{arith}
use Rattle.image.specs.Layout.{record_bytes}
use mathlib.Core.Path.{refl}
use Rattle.host.specs.Answers.{answer_bytes}
use Rattle.host.proofs.answering.leave.Goals as goal

pub returns : goal.returns
unfolding record_bytes answer_bytes
returns c = (
  refl,
  put_all c.put_record.ensures (omega (arith, length-record_words c.args.s, c.requires.0)),
  put_all c.put_answer.ensures (omega (arith, length-answer c.args.a, c.requires.1)),
)
