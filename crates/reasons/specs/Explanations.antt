-- Why a correction would be answered as it is: the answer's number and kind, the reason beside that number, and the differences. Definitions only.
use Rattle.std.specs.Prelude.{ℕ, List, ◌++◌}
use Rattle.rules.specs.Rules.{first_of}
use Rattle.ticks.specs.declared.Sample.{Sample}
use Rattle.ticks.specs.declared.WholeSample.{WholeSample}
use Rattle.ticks.specs.Samples.{axes_of, whole_of}
use Rattle.session.specs.declared.Point.{Point}
use Rattle.session.specs.declared.Session.{Session}
use Rattle.session.specs.Moves.{corrected_point}
use Rattle.steps.specs.Refusals.{point_rules, correct_refusal}
use Rattle.steps.specs.Steps.{correct_answer_by}
use Rattle.reasons.specs.declared.Reason.{Reason}
use Rattle.reasons.specs.declared.Differences.{Differences}
use Rattle.reasons.specs.declared.Explanation.{Explanation}
use Rattle.reasons.specs.Reasons.{sample_reasons, point_reasons, beside}
use Rattle.reasons.specs.Differences.{differences_with}

abbrev pub explanation : ℕ → ℕ → Reason → Differences → Explanation
explanation number kind reason differences = record { number = number; kind = kind; reason = reason; differences = differences }

-- with a number and a reason
unfoldable pub explained_by : ℕ → Reason → Session → WholeSample → Explanation
explained_by n r s w = explanation n (correct_answer_by n s (corrected_point s w)).kind r (differences_with n s w)

-- every number that has a reason
abbrev pub reasons_of : Session → Sample → List (ℕ × Reason)
reasons_of s a = sample_reasons (axes_of a) ++ point_reasons s (corrected_point s (whole_of a))

-- with the number that refuses the correction, 0 where nothing does
unfoldable pub explain_of : Session → Sample → Explanation
explain_of s a = explained_by (correct_refusal s a) (beside (correct_refusal s a) (reasons_of s a)) s (whole_of a)

-- ---- the same, as the code goes: from a corrected point on

-- by the number of the point's own rules
abbrev pub judged_point : Session → Point → Differences → Explanation
judged_point s q d =
    let n = first_of (point_rules s q) in
    explanation n (correct_answer_by n s q).kind (beside n (point_reasons s q)) d

abbrev pub explained_with : Session → WholeSample → Explanation
explained_with s w =
    let q = corrected_point s w in
    let n = first_of (point_rules s q) in
    explained_by n (beside n (point_reasons s q)) s w
