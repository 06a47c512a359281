-- The changes that a later round carries where it asks for more: one is over its tolerance, so they are not all zero, and each has a report.
use mathlib.Core.Path.{◌≡◌, refl, sym, ap, ◌∙◌}
use mathlib.Core.List.{List}
use Prim.Native.Nat.{ℕ, ◌*◌, ◌^◌, ◌≤◌}
use lib.IntN.{pos}
use lib.Ieee.{Float}
use Rattle.integers.specs.Parts.{integers}
use Rattle.exact.specs.Numerator.{D, exact_of, numerator}
use Rattle.exact.proofs.Laws.{numerator-exact_of}
use Rattle.axis.specs.Kinds.{Kind}
use Rattle.session.specs.declared.Session.{Session}
use Rattle.session.proofs.Apart.{Over}
use Rattle.epoch_session.specs.Rounds.{round_of, largest_move}
use Rattle.epoch_session.specs.Records.{held_round}
use Rattle.epoch_session.proofs.Points.{move-over, move-within}
use Rattle.epoch_session.proofs.Rules.{keeps-start}
use Rattle.steps.specs.declared.ReportedMotion.{ReportedMotion}
use Rattle.steps.specs.Answers.{reported_change}
use Rattle.steps.proofs.Changes.{reported_in, size_in}
use Rattle.epoch_steps.specs.declared.Outcome.TheVariants.{More}
use Rattle.epoch_steps.specs.Refusals.{later_round, refine_refusal}
use Rattle.epoch_steps.specs.Steps.{refine_of}
use Rattle.epoch_steps.proofs.Answered.{more-told}
use Rattle.epoch_steps.proofs.Refusals.{refined-starting, refined-points}
use Rattle.epoch_steps.proofs.Left.{later-points}

module _ (s : Session) (floats : List Float) where
  abbrev moved : Kind → ℕ
  moved = largest_move (later_round s floats) (held_round s)

  held-points : (held_round s).points ≡ s.points
  unfolding held_round round_of
  held-points = refl

  -- their size
  pub moved-within : refine_refusal s floats ≡ 0 → (kind : Kind) → moved kind ≤ 2 ^ 53 * D
  moved-within e =
      move-within (later_round s floats) (held_round s) (later-points s floats ∙ sym held-points) (refined-points s floats e)
      (keeps-start s (refined-starting s floats e)).points-range

  module _ (c : ReportedMotion) where
    pub more-over : (refine_of s floats).answer.outcome ≡ More c → (c ≡ reported_change moved) × Over s.tolerances moved
    more-over h = let (e, (f, g)) = more-told s floats c h in (g, move-over (later_round s floats) (held_round s) s.tolerances f)

    pub more-not-zero : (refine_of s floats).answer.outcome ≡ More c → ((kind : Kind) → (reported_in kind c).exact ≡ exact_of (pos 0)) → ⊥
    more-not-zero h z =
        let (f, (kind, l)) = more-over h in
        let g = sym (size_in moved kind f) ∙ ap numerator (z kind) ∙ numerator-exact_of (pos 0) in
        omega integers
