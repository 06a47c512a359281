-- The changes that *again* carries: one is over its tolerance, so they are not all zero, and each has a report.
use mathlib.Core.Path.{◌≡◌, refl, sym, ap, ◌∙◌}
use mathlib.Core.Bool.{Bool, true, false}
use Prim.Native.Nat.{ℕ, zero, suc, ◌*◌, ◌^◌, ◌≤◌}
use native.Mathlib.Omega.{arith}
use lib.IntN.{pos, nat_abs}
use Rattle.integers.specs.Parts.{integers}
use Rattle.exact.specs.declared.Reported.{Reported}
use Rattle.exact.specs.Numerator.{D, exact_of, numerator}
use Rattle.exact.specs.Report.{reported_of}
use Rattle.exact.proofs.Laws.{numerator-exact_of}
use Rattle.ticks.specs.declared.Sample.{Sample}
use Rattle.ticks.specs.Samples.{whole_of}
use Rattle.axis.specs.Formulas.{motion_of}
use Rattle.axis.specs.Agreement.{sizes}
use Rattle.axis.specs.Kinds.{Kind, of_position, of_velocity}
use Rattle.axis.proofs.Agreement.{size-reports}
use Rattle.session.specs.declared.Point.{Point}
use Rattle.session.specs.declared.Session.{Session}
use Rattle.session.specs.Moves.{estimate_of, corrected_point}
use Rattle.session.specs.Ready.{Waiting, PlacedPoint}
use Rattle.session.proofs.Kept.{estimate-point-placed}
use Rattle.session.proofs.Apart.{Over, apart-over, apart-within}
use Rattle.steps.specs.declared.ReportedMotion.{ReportedMotion}
use Rattle.steps.specs.declared.ReportedPoint.{ReportedPoint}
use Rattle.steps.specs.declared.Correction.TheVariants as C
use Rattle.steps.specs.Answers.{reported_motion, reported_change}
use Rattle.steps.specs.Refusals.{agrees, largest_change, correct_refusal}
use Rattle.steps.specs.Steps.{judged, correct_by, correct_of}

-- ---- reported changes, by their kind

abbrev pub reported_in : Kind → ReportedMotion → Reported
reported_in of_position m = m.position
reported_in of_velocity m = m.velocity

pub reported-size : (size : Kind → ℕ) (kind : Kind) → reported_in kind (reported_change size) ≡ reported_of (exact_of (pos (size kind)))
unfolding reported_change reported_motion sizes motion_of
reported-size size of_position = refl
reported-size size of_velocity = refl

pub size_in : (size : Kind → ℕ) (kind : Kind) {c : ReportedMotion} → c ≡ reported_change size → numerator (reported_in kind c).exact ≡ pos (size kind)
size_in size kind e = ap (λ r. numerator (reported_in kind r).exact) e ∙ ap (λ r. numerator r.exact) (reported-size size kind) ∙ numerator-exact_of (pos (size kind))

-- sizes of at most 2^53 ticks have reports
pub sizes-report : (size : Kind → ℕ) → ((kind : Kind) → size kind ≤ 2 ^ 53 * D) → (nat_abs (sizes size).position.whole ≤ 2 ^ 53) × (nat_abs (sizes size).velocity.whole ≤ 2 ^ 53)
unfolding sizes motion_of
sizes-report size h = (size-reports (size of_position) (h of_position), size-reports (size of_velocity) (h of_velocity))

-- ---- a point that does not agree

pub over-tolerances : (s : Session) (q : Point) → agrees s q ≡ false → Over s.tolerances (largest_change s q)
unfolding agrees largest_change
over-tolerances s q = apart-over s.tolerances q (estimate_of s)

-- ---- what *again* carries

pub clash-of : ◌≡◌ {A = ℕ} 0 1 → ⊥
clash-of h = omega arith

module _ (s : Session) (a : Sample) (q : ReportedPoint) (c : ReportedMotion) where
  -- the sizes that it reports, one of which is over its tolerance
  abbrev pub Carries : Type 0
  Carries = (size : Kind → ℕ) × ((c ≡ reported_change size) × Over s.tolerances size)

  pub again-over : (correct_of s a).answer ≡ C.Again q c → Carries
  unfolding correct_of
  again-over e = go (correct_refusal s a) e
    where
      by : (t : Bool) → agrees s (corrected_point s (whole_of a)) ≡ t → (judged t s (whole_of a) (corrected_point s (whole_of a))).answer ≡ C.Again q c → Carries
      by true f e = absurd (clash-of (cc))
      by false f e = (largest_change s (corrected_point s (whole_of a)), (cc, over-tolerances s (corrected_point s (whole_of a)) f))

      go : (n : ℕ) → (correct_by n s (whole_of a)).answer ≡ C.Again q c → Carries
      go zero e = by (agrees s (corrected_point s (whole_of a))) refl e
      go (suc n) e = absurd (clash-of (cc))

  pub again-not-zero : (correct_of s a).answer ≡ C.Again q c → ((kind : Kind) → (reported_in kind c).exact ≡ exact_of (pos 0)) → ⊥
  again-not-zero e z =
      let (size, (f, (kind, h))) = again-over e in
      let g = sym (size_in size kind f) ∙ ap numerator (z kind) ∙ numerator-exact_of (pos 0) in
      omega integers

-- ---- their size

pub largest-within : (s : Session) (q : Point) → Waiting s → PlacedPoint q → (kind : Kind) → largest_change s q kind ≤ 2 ^ 53 * D
unfolding largest_change
largest-within s q w p = apart-within q (estimate_of s) p (estimate-point-placed s w)
