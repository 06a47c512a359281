-- `decimal::units::nearer` meets its contract: below a half, above it, and just a half by whether q is even.
-- ---- even and odd, as the machine tests it
use mathlib.Core.Path.{◌≡◌, refl, sym, ap, ◌∙◌}
use Prim.Native.Nat.{ℕ, zero, suc, ◌*◌, ◌%◌}
use native.Mathlib.Omega.{arith}
use lib.IntN.{ℤ, pos, nat_abs}
use lib.Signed.{quot_z, rem_z}
use mir.Syntax.{w64}
use mir.Val.{SFits, to_z, of_z}
use mir.Facts.{to_z-of_z}
use Rattle.integers.specs.Parts.{integers, nat_abs-parts, one-part}
use Rattle.integers.specs.Division.{quotient-parts, remainder-parts}
use Rattle.decimal.proofs.Rounding.{down, up}
use Rattle.decimal.proofs.units.nearer.Goals as goal

module _ (q : ℤ) (f : SFits w64 q) where
  half-fits : SFits w64 (quot_z q (pos 2))
  half-fits = omega (integers, quotient-parts q 2)

  rest-fits : SFits w64 (rem_z q (pos 2))
  rest-fits = omega (integers, remainder-parts q 2)

  even : of_z w64 (rem_z (to_z w64 (of_z w64 q)) (pos 2)) ≡ 0 → nat_abs q % 2 ≡ 0
  even e =
      let z : rem_z q (pos 2) ≡ pos 0 = sym (to_z-of_z {w = w64} rest-fits) ∙ ap (λ x. to_z w64 (of_z w64 (rem_z x (pos 2)))) (sym (to_z-of_z {w = w64} f)) ∙ ap (to_z w64) e in
      omega (integers, remainder-parts q 2, nat_abs-parts q, one-part q)

  even-bits : nat_abs q % 2 ≡ 0 → of_z w64 (rem_z (to_z w64 (of_z w64 q)) (pos 2)) ≡ 0
  even-bits e =
      let z : rem_z q (pos 2) ≡ pos 0 = omega (integers, remainder-parts q 2, nat_abs-parts q, one-part q) in
      ap (λ x. of_z w64 (rem_z x (pos 2))) (to_z-of_z {w = w64} f) ∙ ap (of_z w64) z

  odd : (of_z w64 (rem_z (to_z w64 (of_z w64 q)) (pos 2)) ≡ 0 → ⊥) → nat_abs q % 2 ≡ 1
  odd g = by (nat_abs q % 2) refl
    where
      by : (m : ℕ) → nat_abs q % 2 ≡ m → nat_abs q % 2 ≡ 1
      by zero e = absurd (g (even-bits e))
      by (suc m) e = omega arith

pub returns-then-rest-d : goal.returns-then-rest-d
returns-then-rest-d c =
    let a = c.args in
    rw (to_z-of_z {w = w64} c.ranges.q)
    (sym (down a.q a.rest a.d c.requires.rest_lt_d.0 (omega (arith, c.if-rest-d.true)) (λ e. absurd (omega (arith, c.if-rest-d.true)))))

pub returns-then-d-rest : goal.returns-then-d-rest
returns-then-d-rest c =
    let a = c.args in
    rw (to_z-of_z {w = w64} c.ranges.q, to_z-of_z {w = w64} c.requires.sfits)
    (sym (up a.q a.rest a.d c.requires.rest_lt_d.0 (omega (arith, c.if-d-rest.true)) (λ e. absurd (omega (arith, c.if-d-rest.true)))))

pub nonzero_rem-q : goal.nonzero_rem-q
nonzero_rem-q c =
    (omega arith, rw (to_z-of_z {w = w64} c.ranges.q) (half-fits c.args.q c.ranges.q))

pub returns-then-q-eq0 : goal.returns-then-q-eq0
returns-then-q-eq0 c =
    let a = c.args in
    let half : 2 * a.rest ≡ a.d = omega (arith, c.if-d-rest.false, c.if-rest-d.false) in
    rw (to_z-of_z {w = w64} c.ranges.q) (sym (down a.q a.rest a.d c.requires.rest_lt_d.0 (omega arith) (λ e. even a.q c.ranges.q c.if-q-eq0.true)))

pub returns : goal.returns
returns c =
    let a = c.args in
    let half : 2 * a.rest ≡ a.d = omega (arith, c.if-d-rest.false, c.if-rest-d.false) in
    rw (to_z-of_z {w = w64} c.ranges.q, to_z-of_z {w = w64} c.requires.sfits) (sym (up a.q a.rest a.d c.requires.rest_lt_d.0 (omega arith) (λ e. odd a.q c.ranges.q c.if-q-eq0.false)))
