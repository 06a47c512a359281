-- Bad versions, each of which explains as ours does but for one thing. Definitions only.
use Rattle.std.specs.Prelude.{ℕ, suc, ◌+◌, ◌-◌, Bool, cond, ◌||◌, List, [], ◌∷◌, ◌++◌, eqb, leb}
use Rattle.axis.specs.Kinds.{of_position, of_velocity}
use Rattle.session.specs.declared.Point.{Point}
use Rattle.session.specs.declared.Session.{Session}
use Rattle.session.specs.Coordinates.{on_x}
use Rattle.session.specs.Values.{value, values_of, six}
use Rattle.reasons.specs.declared.Reason.{Reason}
use Rattle.reasons.specs.Reasons.{no_reason, first, is_over, moved}
use Rattle.reasons.specs.Explanations.{explanation, explain_of}
use Rattle.causes.specs.Causes.{Explaining, corrected}

-- with another reason where changes are compared: for again, accepted and 8
abbrev comparing : (Session → Point → Reason) → Explaining
comparing other s a =
    let e = explain_of s a in
    explanation e.number e.kind (cond (eqb e.number 0 || eqb e.number 8) (other s (corrected s a)) e.reason) e.differences

-- the last of a list for which a test is true: a later one before this one
abbrev last_from : {A : Type 0} → ℕ → (A → Bool) → (ℕ → A → Reason) → List A → Reason
last_from n test said [] = no_reason
last_from n test said (x ∷ rest) =
    let later = last_from (suc n) test said rest in
    cond (eqb later.value 0) (cond (test x) (said n x) no_reason) later

-- names the last value over its tolerance: a true reason, and not the first
abbrev pub naming_the_last : Explaining
naming_the_last = comparing (λ s q. last_from 1 (is_over s q) (moved s q) six)

-- looks at the velocities before the positions; each keeps its number
abbrev pub velocities_first : Explaining
velocities_first = comparing (λ s q. first (is_over s q) (λ n v. moved s q (cond (leb n 3) (n + 3) (n - 3)) v) (values_of of_velocity ++ values_of of_position))

-- names the position of x where no value is over its tolerance
abbrev pub explaining_accepted : Explaining
explaining_accepted s a =
    let e = explain_of s a in
    explanation e.number e.kind (cond (eqb e.kind 1) (moved s (corrected s a) 1 (value of_position on_x)) e.reason) e.differences
