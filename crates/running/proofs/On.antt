-- How a run goes on: over, with no sample left, or with the next sample.
use mathlib.Core.Path.{◌≡◌, refl, sym, ap, ◌∙◌}
use mathlib.Core.Bool.{true, false}
use mathlib.Core.List.{List, [], ◌∷◌}
use Prim.Native.Nat.{ℕ, suc, ◌+◌, ◌*◌, ◌≤◌, ◌<◌}
use native.Mathlib.Omega.{arith}
use lib.Ieee.{Float}
use lib.ListN.{length, drop, drop_of_length-le}
use Rattle.rules.specs.Rules.{Gives}
use Rattle.ticks.specs.declared.Sample.{Sample}
use Rattle.session.specs.declared.Session.{Session}
use Rattle.running.specs.Samples.{samples_in, sample_at}
use Rattle.running.specs.Runs.{taken, over, on_by, on, run_rules, run_refusal, run_by, run_of, AfterRun}
use Rattle.running.proofs.Read.{drop-samples}

module _ (wanted : ℕ) (run : AfterRun) where
  pub on-over : over wanted run.answer ≡ true → (left : List Sample) → on wanted run left ≡ run
  unfolding on
  on-over e [] = refl
  on-over e (a ∷ left) = ap (λ t. on_by t run (on wanted (taken run a) left)) e

  pub on_none : (samples : List Sample) (i : ℕ) → length samples ≤ i → on wanted run (drop i samples) ≡ run
  unfolding on
  on_none samples i l = ap (on wanted run) (drop_of_length-le samples {i = i} l)

  pub on-next : over wanted run.answer ≡ false → (floats : List Float) (i : ℕ) → 3 * i + 2 < length floats →
      on wanted run (drop i (samples_in floats)) ≡ on wanted (taken run (sample_at floats i)) (drop (i + 1) (samples_in floats))
  unfolding on
  on-next e floats i l =
      let next : suc i ≡ i + 1 = omega arith in
      ap (on wanted run) (drop-samples floats i l)
      ∙ ap (λ t. on_by t run (on wanted (taken run (sample_at floats i)) (drop (suc i) (samples_in floats)))) e
      ∙ ap (λ n. on wanted (taken run (sample_at floats i)) (drop n (samples_in floats))) next

-- by the number that the rules give
pub run-gives : (s : Session) (floats : List Float) (wanted : ℕ) {n : ℕ} → Gives (run_rules s floats) n → run_by n s floats wanted ≡ run_of s floats wanted
unfolding run_of run_refusal
run-gives s floats wanted g = ap (λ n. run_by n s floats wanted) (sym g.first)
