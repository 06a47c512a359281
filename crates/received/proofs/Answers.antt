-- What is answered, and what the rooms hold, by what was found in the text.
use mathlib.Core.Path.{◌≡◌, refl, sym, ◌∙◌, ap, subst}
use mathlib.Core.Bool.{Bool, true, false, cond}
use Rattle.std.specs.Prelude.{Ok, Err}
use mathlib.Core.List.{List, [], ◌∷◌, ◌++◌, flatten, map}
use Prim.Native.Nat.{ℕ, suc, ◌*◌, ◌≤◌}
use native.Mathlib.Omega.{arith}
use lib.IntN.{ℤ}
use lib.ListN.{length, drop}
use borrow.Author.Tests.{leb-true}
use Rattle.integers.specs.Tests.{joined}
use Rattle.message.specs.declared.Edition.{Edition}
use Rattle.received.specs.declared.Received.{Received}
use Rattle.received.specs.declared.judging.Judged.{Judged}
use Rattle.received.specs.Lines.{lines_in}
use Rattle.received.specs.Versions.{is_other}
use Rattle.received.specs.Data.{Point, AllGood, datum_in, point_in, accepts, points_in}
use Rattle.received.specs.Reading.{Read, Reads, Stops, read_of}
use Rattle.received.specs.Answer.{has_room, seconds_of, values_of, refused_by, received, answer_by, epochs_by, values_by, answer_to, epochs_after, values_after}
use Rattle.received.specs.Finding.{bytes_of, groups_of, is_through, walk_over, judged_by}
use Rattle.received.proofs.Cuts.{lines-back, lines-drop, bytes-append}
use Rattle.received.proofs.Sound.{found, counts}

-- ---- all lines are points

pub all-points : (earliest : ℕ) (lines : List (List ℕ)) → length (points_in earliest lines) ≡ length lines → map point_in lines ≡ points_in earliest lines
unfolding points_in
all-points earliest [] e = refl
all-points earliest (line ∷ lines) e = by (accepts earliest (datum_in line)) e (all-points (suc (datum_in line).seconds) lines)
  where
    by : (t : Bool)
        → length {A = Point} (elim t as (λ _. List Point) [ true ↦ point_in line ∷ points_in (suc (datum_in line).seconds) lines | false ↦ [] ]) ≡ suc (length lines)
        → (length (points_in (suc (datum_in line).seconds) lines) ≡ length lines → map point_in lines ≡ points_in (suc (datum_in line).seconds) lines)
        → point_in line ∷ map point_in lines ≡ elim t as (λ _. List Point) [ true ↦ point_in line ∷ points_in (suc (datum_in line).seconds) lines | false ↦ [] ]
    by true e ih = ap (λ ps. point_in line ∷ ps) (ih (omega arith))
    by false e ih = absurd (omega arith)

pub all-good : (earliest : ℕ) (lines : List (List ℕ)) → length (points_in earliest lines) ≡ length lines → AllGood lines
unfolding points_in
all-good earliest [] e = tt
all-good earliest (line ∷ lines) e = by (accepts earliest (datum_in line)) refl e (all-good (suc (datum_in line).seconds) lines)
  where
    by : (t : Bool) → accepts earliest (datum_in line) ≡ t
        → length {A = Point} (elim t as (λ _. List Point) [ true ↦ point_in line ∷ points_in (suc (datum_in line).seconds) lines | false ↦ [] ]) ≡ suc (length lines)
        → (length (points_in (suc (datum_in line).seconds) lines) ≡ length lines → AllGood lines) → AllGood (line ∷ lines)
    by true t e ih = let (g, l) = simp joined at t in (g, ih (omega arith))
    by false t e ih = absurd (omega arith)

-- ---- the answers

module _ (e : Edition) (text epochs : List ℕ) (values : List ℤ) where
  abbrev Answered : Received → List ℕ → List ℤ → Type 0
  Answered r es vs = (r ≡ answer_to e text epochs values) × (es ≡ epochs_after e text epochs values) × (vs ≡ values_after e text epochs values)

  -- the text names another version
  pub other : is_other e text ≡ true → Answered (refused_by 17 0) epochs values
  unfolding answer_to epochs_after values_after
  other o = (
    sym (ap (λ t. cond t (refused_by 17 0) (answer_by (read_of e text) epochs values)) o),
    sym (ap (λ t. cond t epochs (epochs_by (read_of e text) epochs values)) o),
    sym (ap (λ t. cond t values (values_by (read_of e text) epochs values)) o),
  )

  abbrev AnsweredBy : Read → Received → List ℕ → List ℤ → Type 0
  AnsweredBy read r es vs = (r ≡ answer_by read epochs values) × (es ≡ epochs_by read epochs values) × (vs ≡ values_by read epochs values)

  -- it does not
  pub own : is_other e text ≡ false → {r : Received} {es : List ℕ} {vs : List ℤ} → AnsweredBy (read_of e text) r es vs → Answered r es vs
  unfolding answer_to epochs_after values_after
  own o a = (
    a.0 ∙ sym (ap (λ t. cond t (refused_by 17 0) (answer_by (read_of e text) epochs values)) o),
    a.1 ∙ sym (ap (λ t. cond t epochs (epochs_by (read_of e text) epochs values)) o),
    a.2 ∙ sym (ap (λ t. cond t values (values_by (read_of e text) epochs values)) o),
  )

module _ (e : Edition) (text epochs : List ℕ) (values : List ℤ) where
  abbrev Answers : Received → List ℕ → List ℤ → Type 0
  Answers r es vs = AnsweredBy e text epochs values (read_of e text) r es vs

  stops-by : (r : Read) (n : ℕ) → Err n ≡ judged_by r → (refused_by 15 n ≡ answer_by r epochs values) × (epochs ≡ epochs_by r epochs values) × (values ≡ values_by r epochs values)
  unfolding judged_by
  stops-by (Stops line) n e = let same : n ≡ line = cc in (ap (refused_by 15) same, refl, refl)
  stops-by (Reads groups points) n e = cc

  pub stops : (n : ℕ) → Err n ≡ judged_by (read_of e text) → Answers (refused_by 15 n) epochs values
  stops n q = stops-by (read_of e text) n q

  module _ {j : Judged} (q : Ok j ≡ judged_by (read_of e text)) where
    record Found : Type 0 where
      groups : List (List (List ℕ))
      points : List Point
      reads : read_of e text ≡ Reads groups points
      at-is : j.at ≡ bytes_of (flatten groups)
      count-is : j.count ≡ length points

    found-by : (r : Read) → read_of e text ≡ r → Ok j ≡ judged_by r → Found
    unfolding judged_by
    found-by (Stops n) r q = cc
    found-by (Reads groups points) r q =
        let same : j ≡ record { at = bytes_of (flatten groups); count = length points } = cc in
        record { groups = groups; points = points; reads = r; at-is = ap (λ x. x.at) same; count-is = ap (λ x. x.count) same }

    abbrev f : Found
    f = found-by (read_of e text) refl q

    abbrev rest : List (List ℕ)
    rest = (found e text f.reads).rest

    behind : lines_in (drop j.at text) ≡ rest
    behind = ap (λ n. lines_in (drop n text)) f.at-is ∙ lines-drop (flatten f.groups) text rest (found e text f.reads).lines_are

    as_many : length f.points ≡ length rest
    as_many = (counts e text f.reads).1

    all_are : map point_in rest ≡ f.points
    all_are =
        let p = (found e text f.reads).points-are in
        all-points 0 rest (ap length (sym p) ∙ as_many) ∙ sym p

    pub within : j.at ≤ length text
    within =
        let w = found e text f.reads in
        omega (arith, f.at-is, ap length (sym (lines-back text) ∙ ap flatten w.lines_are), bytes-append (flatten f.groups) w.rest)

    pub all_good : AllGood (lines_in (drop j.at text))
    all_good =
        let p = (found e text f.reads).points-are in
        subst AllGood (sym behind) (all-good 0 rest (ap length (sym p) ∙ as_many))

    pub through : is_through (walk_over e text) ≡ true
    through = (found e text f.reads).through

    same_count : length (lines_in (drop j.at text)) ≡ j.count
    same_count = ap length behind ∙ sym as_many ∙ sym f.count-is

    pub no_room : has_room j.count (length epochs) (length values) ≡ false → Answers (refused_by 12 0) epochs values
    no_room h =
        let n : has_room (length f.points) (length epochs) (length values) ≡ false =
        ap (λ k. has_room k (length epochs) (length values)) (sym f.count-is) ∙ h in (
          sym (ap (λ r. answer_by r epochs values) f.reads ∙ ap (λ t. cond t (received f.groups (length f.points)) (refused_by 12 0)) n),
          sym (ap (λ r. epochs_by r epochs values) f.reads ∙ ap (λ t. cond t (seconds_of f.points ++ drop (length f.points) epochs) epochs) n),
          sym (ap (λ r. values_by r epochs values) f.reads ∙ ap (λ t. cond t (values_of f.points ++ drop (6 * length f.points) values) values) n),
        )

    module _ (h : has_room j.count (length epochs) (length values) ≡ true) where
      pub has_room_lem : (length (lines_in (drop j.at text)) ≤ length epochs) × (6 * length (lines_in (drop j.at text)) ≤ length values)
      unfolding has_room
      has_room_lem =
          let (p, q) = simp joined at h in
          (omega (arith, same_count, leb-true j.count (length epochs) p), omega (arith, same_count, leb-true (6 * j.count) (length values) q))

      pub keeps : {r : Received} → r ≡ received (groups_of (walk_over e text)) j.count
          → {es : List ℕ} → es ≡ seconds_of (map point_in (lines_in (drop j.at text))) ++ drop (length (lines_in (drop j.at text))) epochs
          → {vs : List ℤ} → vs ≡ values_of (map point_in (lines_in (drop j.at text))) ++ drop (6 * length (lines_in (drop j.at text))) values
          → Answers r es vs
      keeps r es vs =
          let n : has_room (length f.points) (length epochs) (length values) ≡ true =
          ap (λ k. has_room k (length epochs) (length values)) (sym f.count-is) ∙ h in
          let ps : map point_in (lines_in (drop j.at text)) ≡ f.points = ap (map point_in) behind ∙ all_are in
          let c : length (lines_in (drop j.at text)) ≡ length f.points = same_count ∙ f.count-is in (
            r
                ∙ (λ i. received ((found e text f.reads).groups-are i) (f.count-is i))
                ∙ sym (ap (λ x. answer_by x epochs values) f.reads ∙ ap (λ t. cond t (received f.groups (length f.points)) (refused_by 12 0)) n),
            es
                ∙ (λ i. seconds_of (ps i) ++ drop (c i) epochs)
                ∙ sym (ap (λ x. epochs_by x epochs values) f.reads ∙ ap (λ t. cond t (seconds_of f.points ++ drop (length f.points) epochs) epochs) n),
            vs
                ∙ (λ i. values_of (ps i) ++ drop (6 * c i) values)
                ∙ sym (ap (λ x. values_by x epochs values) f.reads ∙ ap (λ t. cond t (values_of f.points ++ drop (6 * length f.points) values) values) n),
          )
