-- The closed form of demand 2 is linear: openings and samples that add give sums and points that add, by one law over the four formulas.
use mathlib.Core.Path.{◌≡◌, refl, sym, ◌∙◌}
use mathlib.Core.List.{List, [], ◌∷◌}
use Prim.Native.Nat.{ℕ, zero, suc, ◌≤◌, ◌<◌}
use native.Mathlib.Omega.{arith}
use lib.IntN.{ℤ, pos, ◌+ℤ◌, ◌-ℤ◌, ◌*ℤ◌}
use Rattle.integers.specs.Tactics.{atom, terms, ring}
use Rattle.integers.specs.Differences.{by_differences}
use Rattle.integers.proofs.Differences.{by-sum, same_first}
use Rattle.exact.specs.Numerator.{D}
use Rattle.coefficients.specs.declared.Formula.{Formula}
use Rattle.coefficients.specs.declared.Formula.TheVariants.{PositionPredictor, PositionCorrector, VelocityPredictor, VelocityCorrector}
use Rattle.coefficients.specs.Formulas.{weights_of}
use Rattle.coefficients.proofs.Rows.{length-weights}
use Rattle.ticks.specs.declared.WholeSample.{WholeSample}
use Rattle.axis.specs.Formulas.{ticks}
use Rattle.session.specs.Coordinates.{Coordinate, ticks_on}
use Rattle.demands.specs.ClosedForm.{Origin, samples, first_sum, second_before, second_sum}
use Rattle.adding.specs.Sums.{OpeningsAdd}

-- ---- what a formula gives: a sum, and the weighted differences of the samples

abbrev pub basis_of : Formula → Origin → Coordinate → List WholeSample → ℤ
basis_of PositionPredictor o k ws = second_sum o k ws
basis_of PositionCorrector o k ws = second_before o k ws
basis_of VelocityPredictor o k ws = first_sum o k ws
basis_of VelocityCorrector o k ws = first_sum o k ws

abbrev pub weighted : Formula → Origin → Coordinate → List WholeSample → ℤ
weighted f o k ws = by_differences (weights_of f o.points) (samples o k ws)

abbrev pub value_by : Formula → Origin → Coordinate → List WholeSample → ℤ
value_by f o k ws = basis_of f o k ws +ℤ weighted f o k ws

-- three lists of samples, the third the sum of the two place by place
pub data ListsAdd : List WholeSample → List WholeSample → List WholeSample → Type 0 where
  none : ListsAdd [] [] []
  more : {u v w : WholeSample} {us vs ws : List WholeSample} → ((k : Coordinate) → ticks_on k w ≡ ticks_on k u +ℤ ticks_on k v) →
      ListsAdd us vs ws → ListsAdd (u ∷ us) (v ∷ vs) (w ∷ ws)

-- ---- sums of sums

sums : (x y u v : ℤ) → (x +ℤ y) +ℤ (u +ℤ v) ≡ (x +ℤ u) +ℤ (y +ℤ v)
sums x y u v = rw (atom 0 x, atom 1 y, atom 2 u, atom 3 v) (simp terms (ring _ _ refl))

differences : (x y u v : ℤ) → (x +ℤ y) -ℤ (u +ℤ v) ≡ (x -ℤ u) +ℤ (y -ℤ v)
differences x y u v = rw (atom 0 x, atom 1 y, atom 2 u, atom 3 v) (simp terms (ring _ _ refl))

multiples : (x y u v d : ℤ) → (x +ℤ y) +ℤ (u +ℤ v) *ℤ d ≡ (x +ℤ u *ℤ d) +ℤ (y +ℤ v *ℤ d)
multiples x y u v d = rw (atom 0 x, atom 1 y, atom 2 u, atom 3 v, atom 4 d) (simp terms (ring _ _ refl))

-- ---- the closed form

module _ (a b c : Origin) (h : OpeningsAdd a b c) (small : c.points ≤ 9) (k : Coordinate) where
  samples-add : {us vs ws : List WholeSample} → ListsAdd us vs ws → (i : ℕ) → i < c.points → samples c k ws i ≡ samples a k us i +ℤ samples b k vs i
  samples-add none i l = h.samples k i l
  samples-add (more e r) zero l = e k
  samples-add (more e r) (suc i) l = samples-add r i (omega arith)

  weighted-add : (f : Formula) {us vs ws : List WholeSample} → ListsAdd us vs ws → weighted f c k ws ≡ weighted f a k us +ℤ weighted f b k vs
  weighted-add f {us} {vs} {ws} r =
      let both : ℕ → ℤ = λ i. samples a k us i +ℤ samples b k vs i in
      same_first (weights_of f c.points) (samples c k ws) both (λ i l. samples-add r i (omega (arith, length-weights f c.points small)))
      ∙ by-sum (weights_of f c.points) (samples a k us) (samples b k vs) both (λ i. refl)
      ∙ (λ i. by_differences (weights_of f (sym h.first i)) (samples a k us) +ℤ by_differences (weights_of f (sym h.second i)) (samples b k vs))

  first-adds : {us vs ws : List WholeSample} → ListsAdd us vs ws → first_sum c k ws ≡ first_sum a k us +ℤ first_sum b k vs
  unfolding first_sum
  first-adds none = (λ i. h.velocity k i -ℤ weighted-add VelocityCorrector none i) ∙ differences (a.velocity k) (b.velocity k) (weighted VelocityCorrector a k []) (weighted VelocityCorrector b k [])
  first-adds (more {u} {v} {w} {us} {vs} e r) =
      (λ i. first-adds r i +ℤ ticks (e k i)) ∙ multiples (first_sum a k us) (first_sum b k vs) (ticks_on k u) (ticks_on k v) (pos D)

  before-adds : {us vs ws : List WholeSample} → ListsAdd us vs ws → second_before c k ws ≡ second_before a k us +ℤ second_before b k vs
  unfolding second_before
  before-adds none = (λ i. h.position k i -ℤ weighted-add PositionCorrector none i) ∙ differences (a.position k) (b.position k) (weighted PositionCorrector a k []) (weighted PositionCorrector b k [])
  before-adds (more {us = us} {vs = vs} e r) =
      (λ i. before-adds r i +ℤ first-adds r i) ∙ sums (second_before a k us) (second_before b k vs) (first_sum a k us) (first_sum b k vs)

  basis-adds : (f : Formula) {us vs ws : List WholeSample} → ListsAdd us vs ws → basis_of f c k ws ≡ basis_of f a k us +ℤ basis_of f b k vs
  basis-adds PositionPredictor {us} {vs} r =
      (λ i. before-adds r i +ℤ first-adds r i) ∙ sums (second_before a k us) (second_before b k vs) (first_sum a k us) (first_sum b k vs)
  basis-adds PositionCorrector r = before-adds r
  basis-adds VelocityPredictor r = first-adds r
  basis-adds VelocityCorrector r = first-adds r

  pub value-adds : (f : Formula) {us vs ws : List WholeSample} → ListsAdd us vs ws → value_by f c k ws ≡ value_by f a k us +ℤ value_by f b k vs
  value-adds f {us} {vs} r = (λ i. basis-adds f r i +ℤ weighted-add f r i) ∙ sums (basis_of f a k us) (basis_of f b k vs) (weighted f a k us) (weighted f b k vs)
