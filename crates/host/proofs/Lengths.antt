-- How many words an answer takes.
use mathlib.Core.Path.{◌≡◌, refl}
use lib.ListN.{length}
use Rattle.exact.specs.declared.Reported.{Reported}
use Rattle.steps.specs.declared.Answer.{Answer}
use Rattle.steps.specs.declared.ReportedMotion.{ReportedMotion}
use Rattle.steps.specs.declared.ReportedPoint.{ReportedPoint}
use Rattle.image.specs.Layout.{exact_words}
use Rattle.host.specs.Answers.{reported_words, motion_reported, point_reported, answer_words}

pub length-reported : (r : Reported) → length (reported_words r) ≡ 3
unfolding reported_words exact_words
length-reported r = refl

pub length-motion : (m : ReportedMotion) → length (motion_reported m) ≡ 6
unfolding motion_reported reported_words exact_words
length-motion m = refl

pub length-point : (q : ReportedPoint) → length (point_reported q) ≡ 18
unfolding point_reported motion_reported reported_words exact_words
length-point q = refl

pub length-answer : (a : Answer) → length (answer_words a) ≡ 25
unfolding answer_words point_reported motion_reported reported_words exact_words
length-answer a = refl
