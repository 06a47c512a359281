-- `decimal::units::nearest` meets its contract: two divisions, and what both leave.
use mathlib.Core.Path.{◌≡◌, sym, ap, ◌∙◌}
use Prim.Native.Nat.{ℕ, ◌+◌, ◌*◌, ◌/◌, ◌%◌, ◌^◌, ◌<◌}
use native.Mathlib.Omega.{arith}
use lib.IntN.{ℤ, pos, ◌+ℤ◌, ◌*ℤ◌}
use mir.Syntax.{w64}
use mir.Val.{SFits}
use mir.Facts.{to_z-of_z, to_z_pos}
use borrow.Author.Rules.{rules, sfits_of}
use Rattle.integers.specs.Parts.{Sized, integers, one-part, +-parts}
use Rattle.integers.specs.Division.{floor_div, floor_mod}
use Rattle.integers.proofs.Division.{floor-law}
use Rattle.integers.specs.Nearest.{nearest_of}
use Rattle.exact.specs.Numerator.{D}
use Rattle.decimal.specs.declared.Quotient.{Quotient}
use Rattle.decimal.specs.Units.{quotient_of}
use Rattle.decimal.proofs.Rounding.{in_two}
use Rattle.decimal.proofs.Sizes.{floor-within}
use Rattle.decimal.proofs.units.nearest.Goals as goal
use Rattle.decimal.proofs.units.nearest.Goals.{After-divide-quotient}

carried-fits : (w : ℤ) (s : ℕ) → Sized (2 ^ 62) w → s < 2 ^ 48 → SFits w64 (w +ℤ pos (s / D))
carried-fits w s h l = omega (integers, +-parts w (pos (s / D)))

-- the second quotient and its rest
module _ (w : ℤ) (s p : ℕ) (h : Sized (2 ^ 62) w) (l : s < 2 ^ 48) (P : 0 < p) (q : Quotient) (e : q ≡ quotient_of (w +ℤ pos (s / D)) p) where
  next_fits : SFits w64 (q.whole +ℤ pos 1)
  unfolding quotient_of
  next_fits =
      let a = w +ℤ pos (s / D) in
      let f : SFits w64 (floor_div a p +ℤ pos 1) =
      omega (integers, floor-within a p, one-part a, one-part (floor_div a p), +-parts w (pos (s / D)), +-parts (floor_div a p) (pos 1)) in
      rw e f

  same : nearest_of (q.whole *ℤ pos (D * p) +ℤ pos (q.rest * D + s % D)) (D * p) ≡ nearest_of (w *ℤ pos D +ℤ pos s) (D * p)
  unfolding quotient_of
  same =
      let a = w +ℤ pos (s / D) in
      rw e (ap (λ z. nearest_of z (D * p)) (sym (in_two w (floor_div a p) s (floor_mod a p) p D (floor-law a p P))))

pub overflow_add-whole : goal.overflow_add-whole
overflow_add-whole c =
    rw (to_z-of_z {w = w64} c.ranges.whole, to_z_pos w64 {n = c.args.share / D} (omega (arith, c.requires.share_bound.0)))
    (carried-fits c.args.whole c.args.share c.requires.sized c.requires.share_bound.0)

divided : (c : After-divide-quotient) → c.divide-quotient.result ≡ quotient_of (c.args.whole +ℤ pos (c.args.share / D)) c.args.per
divided c =
    let f = carried-fits c.args.whole c.args.share c.requires.sized c.requires.share_bound.0 in
    simp (to_z-of_z {w = w64} c.ranges.whole, to_z_pos w64 {n = c.args.share / D} (omega (arith, c.requires.share_bound.0)), to_z-of_z {w = w64} f) at c.divide-quotient.ensures.value

pub nearer-requires : goal.nearer-requires
nearer-requires c =
    let a = c.args in
    let q = c.divide-quotient in
    let f : SFits w64 q.result.whole = search rules in
    let next = next_fits a.whole a.share a.per c.requires.sized c.requires.share_bound.0 c.requires.share_bound.1 q.result (divided (goal.at.nearer-requires c).After-divide-quotient) in
    record {
      rest_lt_d = (omega (arith, q.ensures.rest_below), omega (arith, c.requires.share_bound.2));
      sfits = rw (to_z-of_z {w = w64} f) next;
    }

pub returns : goal.returns
returns c =
    let a = c.args in
    let q = c.divide-quotient in
    let f : SFits w64 q.result.whole = search rules in
    let e = simp (to_z-of_z {w = w64} f) at c.nearer.ensures in
    to_z-of_z {w = w64} (sfits_of {z = c.nearer.result} c.nearer.type_inv)
    ∙ e
    ∙ same a.whole a.share a.per c.requires.sized c.requires.share_bound.0 c.requires.share_bound.1 q.result (divided (goal.at.returns c).After-divide-quotient)
