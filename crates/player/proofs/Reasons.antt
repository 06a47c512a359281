-- The change that an explanation names is exact: its part is below D.
use Rattle.std.proofs.Common.{ℕ, suc, ◌<◌, Bool, true, false, cond, eqb, List, [], ◌∷◌, arith}
use Rattle.exact.specs.Numerator.{D}
use Rattle.exact.proofs.Laws.{part-below}
use Rattle.ticks.specs.declared.Sample.{Sample}
use Rattle.ticks.specs.Samples.{axes_of, whole_of}
use Rattle.session.specs.declared.Session.{Session}
use Rattle.session.specs.declared.Point.{Point}
use Rattle.session.specs.Moves.{corrected_point, estimate_of}
use Rattle.session.specs.Values.{Value, six, change_at}
use Rattle.steps.specs.Refusals.{correct_refusal}
use Rattle.reasons.specs.declared.Reason.{Reason}
use Rattle.reasons.specs.Reasons.{placed, named, moved, first_from, is_no_number, is_infinity, is_over_limit, is_out, is_over, beside}
use Rattle.reasons.specs.Explanations.{explained_by, explain_of}

record ChangesExactly (r : Reason) : Type 0 where
  small : r.change.exact.part < D

of_either : (t : Bool) {q r : Reason} → ChangesExactly q → ChangesExactly r → ChangesExactly (cond t q r)
of_either true p q = p
of_either false p q = q

of-place : (n : ℕ) → ChangesExactly (placed n)
unfolding placed
of-place n = record { small = omega arith }

of-move : (s : Session) (q : Point) (n : ℕ) (v : Value) → ChangesExactly (moved s q n v)
unfolding moved
of-move s q n v = record { small = part-below (change_at q (estimate_of s) v) }

of-first : {A : Type 0} (n : ℕ) (test : A → Bool) (said : ℕ → A → Reason) → ((k : ℕ) (x : A) → ChangesExactly (said k x))
    → (xs : List A) → ChangesExactly (first_from n test said xs)
unfolding first_from
of-first n test said h [] = of-place 0
of-first n test said h (x ∷ rest) = of_either (test x) (h n x) (of-first (suc n) test said h rest)

of-explanation : (s : Session) (a : Sample) → ChangesExactly (explain_of s a).reason
unfolding explain_of explained_by beside
of-explanation s a =
    let n = correct_refusal s a in
    let q = corrected_point s (whole_of a) in
    let over = of-first 1 (is_over s q) (moved s q) (of-move s q) six in
    of_either (eqb n 4) (of-first 1 is_no_number named (λ k x. of-place k) (axes_of a))
    (of_either (eqb n 13) (of-first 1 is_infinity named (λ k x. of-place k) (axes_of a))
    (of_either (eqb n 5) (of-first 1 is_over_limit named (λ k x. of-place k) (axes_of a))
    (of_either (eqb n 6) (of-first 1 (is_out q) named (λ k v. of-place k) six)
    (of_either (eqb n 8) over (of_either (eqb n 0) over (of-place 0))))))

pub explained : (s : Session) (a : Sample) → (explain_of s a).reason.change.exact.part < D
explained s a = (of-explanation s a).small
