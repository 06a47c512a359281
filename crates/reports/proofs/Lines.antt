-- The line of a point and of a change by its number, as a loop writes it, and its room.
use mathlib.Core.Path.{◌≡◌, ◌∙◌, ap}
use mathlib.Core.List.{List, flatten}
use Prim.Native.Nat.{ℕ, ◌+◌, ◌-◌, ◌*◌, ◌<◌}
use native.Mathlib.Omega.{arith}
use lib.IntN.{ℤ}
use lib.ListN.{take, drop, get_or, length}
use Rattle.received.specs.Data.{Point}
use Rattle.received.specs.Mending.{Change}
use Rattle.reports.specs.Reports.{point_line, point_text, points_of, change_line, change_text, changes_of}
use Rattle.reports.specs.Rooms.{point_at, change-at}

pub point-line : (epochs : List ℕ) (values : List ℤ) (k : ℕ) (d : Point) → k < length epochs
    → point_text (get_or (points_of epochs values) k d) ≡ flatten (point_line (get_or epochs k 0) (take (6 * k + 6 - 6 * k) (drop (6 * k) values)))
unfolding point_text
point-line epochs values k d h =
    let n : 6 ≡ 6 * k + 6 - 6 * k = omega arith in
    ap (λ p. flatten (point_line p.seconds p.values)) (point_at epochs values k d h)
    ∙ ap (λ m. flatten (point_line (get_or epochs k 0) (take m (drop (6 * k) values)))) n

pub change-line : (list : List ℕ) (k : ℕ) (d : Change) → 2 * k + 1 < length list
    → change_text (get_or (changes_of list) k d) ≡ flatten (change_line (get_or list (2 * k) 0) (get_or list (2 * k + 1) 0))
unfolding change_text
change-line list k d h = ap (λ c. flatten (change_line c.line c.what)) (change-at k list d h)
