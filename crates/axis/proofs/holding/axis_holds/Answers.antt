-- `axis::holding::axis_holds` meets its contract: an axis that is not ready has no present point in range.
use Rattle.std.proofs.Common.{◌≡◌, sym, ap, ◌∙◌, ℕ, ◌≤◌, ◌^◌, Bool, true, false}
use Rattle.integers.specs.Tests.{◌and◌, joined, fails, clash, and_no, and_yes}
use Rattle.exact.proofs.Bounds.{between-bounded}
use Rattle.axis.specs.declared.Axis.{Axis}
use Rattle.axis.specs.Formulas.{present_motion}
use Rattle.axis.specs.Estimates.{same_motion, in_range}
use Rattle.axis.specs.Ready.{Ready}
use Rattle.axis.specs.Holding.{remainders_hold, places_hold, older_holds, axis_holds, first_fits, second_fits}
use Rattle.axis.proofs.Places.{small-samples}
use Rattle.axis.proofs.Sound.{holding-axis, remainders, first-within, second-within}
use Rattle.axis.proofs.holding.axis_holds.Goals as goal
use Rattle.axis.proofs.holding.axis_holds.Goals.{then-is_ready, else-is_ready, then-in_range, else-in_range}

-- what `is_ready` looks at
abbrev is_ready : ℕ → Axis → Bool
is_ready p a = remainders_hold a and places_hold p a.samples and first_fits a.first and second_fits a.second

module _ (p : ℕ) (a : Axis) (some : (1 ≤ p) × (p ≤ 9)) where
  ready : is_ready p a ≡ true → Ready p a
  ready t =
      let (r, (x, (f, s))) = simp joined at t in
      let m = remainders a r in
      record { some = some; first = between-bounded (2 ^ 42) a.first m.first (simp joined f); second = between-bounded (2 ^ 54) a.second m.second (simp joined s); small = small-samples p a.samples x }

  rest : is_ready p a ≡ true → axis_holds p a ≡ (in_range (present_motion p a) and in_range a.estimate and older_holds p a)
  unfolding axis_holds
  rest t = let (r, (x, (f, s))) = simp joined at t in rw (r, x)

  holds-ready : axis_holds p a ≡ true → is_ready p a ≡ true
  unfolding axis_holds
  holds-ready t =
      let h = holding-axis p a t in
      let (r, (x, u)) = simp joined at t in
      let f = first-within p a some h.remainders.first h.remainders.second h.small h.present-range in
      let s = second-within p a some h.remainders.first h.remainders.second h.small h.present-range in
      simp joined (r, (x, (simp joined at f, simp joined at s)))

  unready : is_ready p a ≡ false → axis_holds p a ≡ false
  unready n = fails (axis_holds p a) (λ t. clash (holds-ready t) n)

pub present_motion-requires : goal.present_motion-requires
present_motion-requires c = ready c.args.p c.args.a c.requires (sym c.is_ready.ensures ∙ c.if-is_ready.true)

pub older_motion-requires-clause-small : goal.older_motion-requires-clause-small
older_motion-requires-clause-small c =
    elim c.if-in_range.branch [
      | then-in_range v ↦ elim c.if-is_ready.branch [
        | then-is_ready w ↦ (ready c.args.p c.args.a c.requires (sym c.is_ready.ensures ∙ w.if-is_ready.true)).small
        | else-is_ready w ↦ clash v.if-in_range.true (w.value-is ∙ w.if-is_ready.false)
      ]
      | else-in_range v ↦ clash c.if-in_range-2.true (v.value-is ∙ v.if-in_range.false)
    ]

pub returns-then-in_range-2 : goal.returns-then-in_range-2
unfolding older_holds
returns-then-in_range-2 c =
    elim c.if-in_range.branch [
      | then-in_range v ↦ elim c.if-is_ready.branch [
        | then-is_ready w ↦
            and_yes (sym (w.in_range.ensures ∙ ap in_range w.present_motion.ensures) ∙ sym w.value-is ∙ v.if-in_range.true)
            (and_yes (sym v.in_range-then-in_range.ensures ∙ sym v.value-is ∙ c.if-in_range-2.true)
            (c.same_motion.ensures ∙ ap (same_motion c.args.a.older) c.older_motion.ensures))
            ∙ sym (rest c.args.p c.args.a c.requires (sym c.is_ready.ensures ∙ w.if-is_ready.true))
        | else-is_ready w ↦ clash v.if-in_range.true (w.value-is ∙ w.if-is_ready.false)
      ]
      | else-in_range v ↦ clash c.if-in_range-2.true (v.value-is ∙ v.if-in_range.false)
    ]

pub returns-else-in_range-2 : goal.returns-else-in_range-2
returns-else-in_range-2 c =
    c.if-in_range-2.false
    ∙ elim c.if-in_range.branch [
      | then-in_range v ↦ elim c.if-is_ready.branch [
        | then-is_ready w ↦
            and_yes (sym (w.in_range.ensures ∙ ap in_range w.present_motion.ensures) ∙ sym w.value-is ∙ v.if-in_range.true)
            (and_no _ (sym v.in_range-then-in_range.ensures ∙ sym v.value-is ∙ c.if-in_range-2.false))
            ∙ sym (rest c.args.p c.args.a c.requires (sym c.is_ready.ensures ∙ w.if-is_ready.true))
        | else-is_ready w ↦ clash v.if-in_range.true (w.value-is ∙ w.if-is_ready.false)
      ]
      | else-in_range v ↦ elim c.if-is_ready.branch [
        | then-is_ready w ↦
            and_no _ (sym (w.in_range.ensures ∙ ap in_range w.present_motion.ensures) ∙ sym w.value-is ∙ v.if-in_range.false)
            ∙ sym (rest c.args.p c.args.a c.requires (sym c.is_ready.ensures ∙ w.if-is_ready.true))
        | else-is_ready w ↦ sym (unready c.args.p c.args.a c.requires (sym c.is_ready.ensures ∙ w.if-is_ready.false))
      ]
    ]
