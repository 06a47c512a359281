-- `oem::answers::answer` meets its contract: 17, or the answer of the edition.
use Rattle.std.proofs.Common.{subst, length}
use Rattle.text.specs.Numbers.{ascii}
use Rattle.oem.specs.Answers.{Says}
use Rattle.oem.proofs.Texts.{version-part, by-version}
use Rattle.oem.proofs.answers.answer.Goals as goal

pub edition_of-requires : goal.edition_of-requires
edition_of-requires c = version-part c.args.text.now c.read_version-version.ensures

pub returns-in-Some : goal.returns-in-Some
returns-in-Some c =
    let a = c.args in
    subst (Says c.answer_from.new.out c.answer_from.result)
    (by-version a.text.now c.read_version-version.ensures (length a.numbers.now) (length a.out.now) c.in-Some.ensures)
    c.answer_from.ensures

pub returns-in-None : goal.returns-in-None
unfolding ascii
returns-in-None c =
    let a = c.args in
    subst (Says c.put_line.new.out c.put_line.result)
    (by-version a.text.now c.read_version-version.ensures (length a.numbers.now) (length a.out.now) c.in-None.ensures)
    c.put_line.ensures
