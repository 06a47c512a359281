-- `received::versions::is_other` meets its contract: no version line, or what it names.
use mathlib.Core.Path.{◌∙◌, ap}
use Rattle.calendar.specs.Text.{same_text}
use Rattle.message.specs.Editions.{version_of}
use Rattle.received.proofs.Naming.{no-version, names}
use Rattle.received.proofs.versions.is_other.Goals as goal

pub returns-in-None : goal.returns-in-None
returns-in-None c = no-version c.args.edition c.args.text.now c.front_of.ensures c.in-None.ensures.cases

pub returns-in-Some : goal.returns-in-Some
returns-in-Some c =
    let a = c.args in
    let s = c.in-Some.ensures.cases in
    names a.edition a.text.now c.front_of.ensures s.0 s.1 (c.is_version.ensures ∙ ap (λ v. same_text v (version_of a.edition)) c.up_to_newline.ensures)
