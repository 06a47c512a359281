-- `host::answering::put_answer` meets its contract: the kind, the point and the changes.
use Rattle.image.proofs.Puts.{put_then}
use native.Mathlib.Omega.{arith}
use Rattle.host.proofs.Lengths.{length-point}
use Rattle.host.specs.Answers.{answer_words}
use Rattle.host.proofs.answering.put_answer.Goals as goal

pub returns : goal.returns
unfolding answer_words
returns c =
    let a = c.args.a in
    put_then c.put_u64.ensures (omega arith)
    (put_then c.put_point.ensures (omega (arith, length-point a.point))
    c.put_motion.ensures)
