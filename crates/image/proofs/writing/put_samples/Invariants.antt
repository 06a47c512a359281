-- The loop's invariant: the first i places have been put.
use Rattle.image.specs.Bytes.{Put}
use Rattle.image.specs.Layout.{places_words}
use Rattle.image.proofs.writing.put_samples.Given as goal

abbrev pub invariant-loop-i : goal.invariant-loop-i
invariant-loop-i l = Put l.initial.out l.at (places_words l.i l.s) l.out
