-- Laws of what rooms hold: a point or a change by its number, and that what was kept in a room is found there.
use Rattle.std.specs.Prelude.{◌≡◌, refl, ℕ, zero, suc, ◌+◌, ◌*◌, ◌≤◌, ◌<◌, ℤ, length, take, drop, get_or}
use Rattle.std.proofs.Common.{◌∙◌, ap, ap₂, arith, drop-drop, take_at, drop_at}
use mathlib.Core.List.{List, [], ◌∷◌, ◌++◌, append_assoc, flatten}
use Rattle.received.specs.Data.{Point}
use Rattle.received.specs.Messages.{Every}
use Rattle.received.specs.Answer.{seconds_of, values_of}
use Rattle.received.specs.Mending.{Change, change, words}
use Rattle.reports.specs.Reports.{points_of, changes_of}

-- ---- points

abbrev pub point_with : ℕ → List ℤ → Point
point_with seconds values = record { seconds = seconds; values = values }

pub length-points : (epochs : List ℕ) (values : List ℤ) → length (points_of epochs values) ≡ length epochs
unfolding points_of
length-points [] values = refl
length-points (e ∷ epochs) values = ap suc (length-points epochs (drop 6 values))

pub point_at : (epochs : List ℕ) (values : List ℤ) (k : ℕ) (d : Point) → k < length epochs
    → get_or (points_of epochs values) k d ≡ point_with (get_or epochs k 0) (take 6 (drop (6 * k) values))
unfolding points_of
point_at [] values k d h = absurd (omega arith)
point_at (e ∷ epochs) values zero d h = refl
point_at (e ∷ epochs) values (suc k) d h =
    let n : 6 + 6 * k ≡ 6 * suc k = omega arith in
    point_at epochs (drop 6 values) k d (omega arith)
    ∙ ap (λ vs. point_with (get_or epochs k 0) (take 6 vs)) (drop-drop (6 * k) 6 values ∙ ap (λ m. drop m values) n)

abbrev pub Six : List Point → Type 0
Six points = Every (λ p. length p.values ≡ 6) points

-- points that were kept in two rooms are what these hold first
pub points-back : (points : List Point) (more : List ℕ) (rest : List ℤ) → Six points
    → take (length points) (points_of (seconds_of points ++ more) (values_of points ++ rest)) ≡ points
unfolding points_of flatten
points-back [] more rest six = refl
points-back (p ∷ points) more rest (s, six) =
    let behind = values_of points ++ rest in
    let whole : values_of (p ∷ points) ++ rest ≡ p.values ++ behind = append_assoc p.values (values_of points) rest in
    let first : take 6 (values_of (p ∷ points) ++ rest) ≡ p.values = ap (take 6) whole ∙ take_at p.values behind 6 s in
    let others : drop 6 (values_of (p ∷ points) ++ rest) ≡ behind = ap (drop 6) whole ∙ drop_at p.values behind 6 s in
    ap₂ (λ vs ws. point_with p.seconds vs ∷ take (length points) (points_of (seconds_of points ++ more) ws)) first others
    ∙ ap (λ ps. p ∷ ps) (points-back points more rest six)

-- ---- changes

pub length-changes : (k : ℕ) (list : List ℕ) → 2 * k ≤ length list → k ≤ length (changes_of list)
unfolding changes_of
length-changes zero list h = omega arith
length-changes (suc k) [] h = absurd (omega arith)
length-changes (suc k) (l ∷ []) h = absurd (omega arith)
length-changes (suc k) (l ∷ w ∷ list) h = omega (arith, length-changes k list (omega arith))

pub change-at : (k : ℕ) (list : List ℕ) (d : Change) → 2 * k + 1 < length list
    → get_or (changes_of list) k d ≡ change (get_or list (2 * k) 0) (get_or list (2 * k + 1) 0)
unfolding changes_of
change-at k [] d h = absurd (omega arith)
change-at k (l ∷ []) d h = absurd (omega arith)
change-at zero (l ∷ w ∷ list) d h = refl
change-at (suc k) (l ∷ w ∷ list) d h =
    let m : suc (suc (2 * k)) ≡ 2 * suc k = omega arith in
    let n : suc (suc (2 * k + 1)) ≡ 2 * suc k + 1 = omega arith in
    change-at k list d (omega arith) ∙ ap₂ (λ a b. change (get_or (l ∷ w ∷ list) a 0) (get_or (l ∷ w ∷ list) b 0)) m n

pub changes-back : (changes : List Change) (rest : List ℕ) → take (length changes) (changes_of (words changes ++ rest)) ≡ changes
unfolding changes_of flatten
changes-back [] rest = refl
changes-back (c ∷ changes) rest = ap (λ cs. c ∷ cs) (changes-back changes rest)
