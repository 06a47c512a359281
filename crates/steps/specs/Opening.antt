-- What an opening is given, as a point and samples. Definitions only.
use Rattle.std.specs.Prelude.{ℕ, zero, suc, ◌+◌, ◌*◌, List, [], ◌∷◌, ℤ, Float, get_or}
use Rattle.ticks.specs.Round.{rounded_of, ticks_in}
use Rattle.axis.specs.declared.Tolerances.{Tolerances}
use Rattle.axis.specs.Formulas.{places}
use Rattle.session.specs.declared.Point.{Point}
use Rattle.session.specs.declared.Session.{Session}
use Rattle.session.specs.Moves.{opened_session}

-- the rounded samples of axis k, newest first, out of floats x, y, z, x, y, z, .. that begin with the oldest point
unfoldable pub axis_samples : ℕ → ℕ → List Float → List ℤ
axis_samples zero k floats = []
axis_samples (suc p) k floats = ticks_in (rounded_of (get_or floats (3 * p + k) Float.nan)) ∷ axis_samples p k floats

unfoldable pub opened_with : ℕ → Tolerances → ℕ → Point → List Float → Session
opened_with p tolerances limit q floats =
    opened_session p tolerances limit q (places p (axis_samples p 0 floats)) (places p (axis_samples p 1 floats)) (places p (axis_samples p 2 floats))
