-- What is proved, collected.
use mathlib.Core.Path.{◌≡◌, sym, ap, ◌∙◌}
use Rattle.steps.proofs.Answers.{correct-answers}
use Rattle.ticks.specs.declared.Sample.{Sample}
use Rattle.session.specs.declared.Session.{Session}
use Rattle.steps.specs.Answers.{correction_answer}
use Rattle.steps.specs.Steps.{correct_of}
use Rattle.reasons.specs.Explanations.{explain_of}
use Rattle.causes.specs.Causes.{Explaining, Causes, number_in}
use Rattle.causes.specs.Theorems.{Explained}
use Rattle.causes.proofs.Changes.{changes}
use Rattle.causes.proofs.Sizes.{size}
use Rattle.causes.proofs.Ours.{causes, gives, kind-is}
use Rattle.causes.proofs.One.{the_number, same, one, named-exactly, changes-given}
use Rattle.causes.proofs.Examples.{computed}

-- the number and the kind of the call
answers : (E : Explaining) → Causes E → (s : Session) (a : Sample) →
    (number_in E s a ≡ (correction_answer (correct_of s a).answer).number) × ((E s a).kind ≡ (correction_answer (correct_of s a).answer).kind)
answers E c s a =
    let told = correct-answers s a in (
      the_number E c s a ∙ sym (ap (λ r. r.number) told),
      (same E explain_of c causes s a).0 ∙ kind-is s a ∙ sym (ap (λ r. r.kind) told),
    )

pub explained : Explained
explained =
    record {
      causes = causes;
      gives = gives;
      one = λ E F c g d h s a. one E F c d s a g h;
      answers = answers;
      named = named-exactly;
      changes = changes;
      changes_given = λ E c g s a e k. changes-given E c s a g e k;
      size = size;
      computed = computed.table;
    }
