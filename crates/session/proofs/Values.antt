-- Tests of the six values of a point: as one statement over a value, and taken axis by axis, as the code goes.
use mathlib.Core.Path.{◌≡◌, refl, ap, ◌∙◌}
use mathlib.Core.Logic.{◌↔◌, ◌⊎◌, inl, inr}
use mathlib.Core.Bool.{Bool, true, false}
use mathlib.Core.List.{List, [], ◌∷◌}
use Prim.Native.Nat.{ℕ, ◌*◌, max, ◌≤◌, ◌<◌}
use native.Mathlib.Omega.{arith}
use borrow.Author.Tests.{leb-true, leb-false, le-leb}
use Rattle.integers.specs.Tests.{◌and◌, agree, joined, clash}
use Rattle.exact.specs.Numerator.{D}
use Rattle.exact.proofs.Laws.{same_refl}
use Rattle.axis.specs.declared.Tolerances.{Tolerances}
use Rattle.axis.specs.Kinds.{Kind, of_position, of_velocity, both_kinds, tolerance_of}
use Rattle.axis.specs.Estimates.{same_motion, in_range}
use Rattle.axis.specs.Agreement.{change_of, agrees_on}
use Rattle.axis.proofs.Agreement.{motions-same}
use Rattle.session.specs.declared.Point.{Point}
use Rattle.session.specs.Coordinates.{Coordinate, on_x, on_y, on_z, every_coordinate, motion_on}
use Rattle.session.specs.Values.{Value, value, six, value_at, every, every_value, in_range_at, same_at, within_at, size_at}
use Rattle.session.specs.Moves.{point_in_range}
use Rattle.session.specs.Holding.{same_point}
use Rattle.session.specs.Apart.{points_agree, point_change}
use Rattle.session.proofs.Coordinates.{on-each, coordinates-iff, point-by}

-- what holds of a position and of a velocity holds of each kind
pub of-each : (P : Kind → Type 0) → P of_position → P of_velocity → (kind : Kind) → P kind
of-each P p v of_position = p
of-each P p v of_velocity = v

-- ---- the six are all values

abbrev Among : Value → List Value → Type 0
Among v [] = ⊥
Among v (w ∷ rest) = (v ≡ w) ⊎ Among v rest

among-six : (v : Value) → Among v six
among-six v =
    of-each (λ kind. (k : Coordinate) → Among (value kind k) six)
    (on-each _ (inl refl) (inr (inl refl)) (inr (inr (inl refl))))
    (on-each _ (inr (inr (inr (inl refl)))) (inr (inr (inr (inr (inl refl))))) (inr (inr (inr (inr (inr (inl refl)))))))
    v.kind v.coordinate

-- ---- any test

-- a value that does not pass
abbrev pub Failing : (Value → Bool) → Type 0
Failing test = (v : Value) × (test v ≡ false)

module _ (test : Value → Bool) where
  every-at : (values : List Value) → every test values ≡ true → (v : Value) → Among v values → test v ≡ true
  every-at [] h v a = absurd a
  every-at (w ∷ rest) h v (inl e) = let (p, _) = simp joined at h in ap test e ∙ p
  every-at (w ∷ rest) h v (inr a) = let (_, p) = simp joined at h in every-at rest p v a

  every-by : (values : List Value) → ((v : Value) → test v ≡ true) → every test values ≡ true
  every-by [] h = refl
  every-by (v ∷ rest) h = simp joined (h v, every-by rest h)

  pub every-iff : (every_value test ≡ true) ↔ ((v : Value) → test v ≡ true)
  every-iff = ((λ h v. every-at six h v (among-six v)), every-by six)

  -- both values of x, both of y, both of z
  pub by-axes : every_value test ≡ every_coordinate (λ k. both_kinds (λ kind. test (value kind k)))
  by-axes =
      agree _ _
      (λ h. (coordinates-iff both).1 (λ k. simp joined (every-iff.0 h (value of_position k), every-iff.0 h (value of_velocity k))))
      (λ h. every-iff.1 (λ v.
      let (p, u) = simp joined at ((coordinates-iff both).0 h v.coordinate) in
      of-each (λ kind. test (value kind v.coordinate) ≡ true) p u v.kind))
    where
      both : Coordinate → Bool
      both k = both_kinds (λ kind. test (value kind k))

  -- where not every one passes, one fails
  pub some-fails : (values : List Value) → every test values ≡ false → Failing test
  some-fails [] e = clash refl e
  some-fails (v ∷ rest) e = by (test v) refl (some-fails rest) e
    where
      by : (t : Bool) → test v ≡ t → (every test rest ≡ false → Failing test) → (t and every test rest) ≡ false → Failing test
      by true h later e = later e
      by false h later e = (v, h)

-- ---- in range

module _ (q : Point) where
  pub range-by-axes : point_in_range q ≡ every_coordinate (λ k. in_range (motion_on k q))
  unfolding point_in_range in_range
  range-by-axes = by-axes (in_range_at q)

  pub range-iff : (point_in_range q ≡ true) ↔ ((k : Coordinate) → in_range (motion_on k q) ≡ true)
  range-iff = rw range-by-axes (coordinates-iff (λ k. in_range (motion_on k q)))

-- ---- the same, and near

module _ (q r : Point) where
  pub same-by-axes : same_point q r ≡ every_coordinate (λ k. same_motion (motion_on k q) (motion_on k r))
  unfolding same_point same_motion
  same-by-axes = by-axes (same_at q r)

  pub same-point-true : same_point q r ≡ true → q ≡ r
  same-point-true h =
      let same = (coordinates-iff (λ k. same_motion (motion_on k q) (motion_on k r))).0 (rw same-by-axes at h) in
      point-by q r (λ k. motions-same (motion_on k q) (motion_on k r) (same k))

  pub same_point_lem : q ≡ r → same_point q r ≡ true
  unfolding same_point
  same_point_lem e = ap (λ p. same_point p r) e ∙ (every-iff (same_at r r)).1 (λ v. same_refl (value_at v r))

  pub agree-by-axes : (t : Tolerances) → points_agree t q r ≡ every_coordinate (λ k. agrees_on t (motion_on k q) (motion_on k r))
  unfolding points_agree agrees_on
  agree-by-axes t = by-axes (within_at t q r)

  -- each of the six changes is within its tolerance, or one is over it
  pub agree-iff : (t : Tolerances) → (points_agree t q r ≡ true) ↔ ((v : Value) → size_at q r v ≤ tolerance_of v.kind t * D)
  unfolding points_agree
  agree-iff t = ((λ h v. leb-true _ _ ((every-iff (within_at t q r)).0 h v)), (λ h. (every-iff (within_at t q r)).1 (λ v. le-leb _ _ (h v))))

  pub one-over : (t : Tolerances) → points_agree t q r ≡ false → (v : Value) × (tolerance_of v.kind t * D < size_at q r v)
  unfolding points_agree
  one-over t f = let (v, e) = some-fails (within_at t q r) six f in (v, leb-false _ _ e)

  -- ---- the largest change of a kind is at least each, and at most what each is at most

  pub size-at-most : (v : Value) → size_at q r v ≤ point_change q r v.kind
  unfolding point_change
  size-at-most v = on-each (λ k. size_at q r (value v.kind k) ≤ point_change q r v.kind) (omega arith) (omega arith) (omega arith) v.coordinate

  pub change-by-axes : (kind : Kind)
      → point_change q r kind ≡ max (change_of q.x r.x kind) (max (change_of q.y r.y kind) (change_of q.z r.z kind))
  unfolding point_change change_of
  change-by-axes kind = omega arith

  pub change-at-most : (kind : Kind) (n : ℕ) → ((k : Coordinate) → size_at q r (value kind k) ≤ n) → point_change q r kind ≤ n
  unfolding point_change
  change-at-most kind n h = omega (arith, h on_x, h on_y, h on_z)
