-- The words of a saved session: a table of contents and four bodies, one after the other. Definitions only.
use Rattle.std.specs.Prelude.{ℕ, zero, suc, List, [], ◌∷◌, ◌++◌, ℤ}
use Rattle.std.specs.Int.{w64}
use Rattle.std.proofs.Common.{of_z}
use Rattle.integers.specs.Differences.{at}
use Rattle.exact.specs.declared.Exact.{Exact}
use Rattle.axis.specs.declared.Motion.{Motion}
use Rattle.axis.specs.declared.Axis.{Axis}
use Rattle.session.specs.declared.Session.{Session}
use Rattle.session.specs.declared.State.{State}
use Rattle.session.specs.declared.State.TheVariants.{Closed, Settled, Awaiting, Starting}
use Rattle.image.specs.Bytes.{in_bytes}

-- ---- one value

-- a number with its sign, in two's complement
abbrev pub signed_word : ℤ → ℕ
signed_word z = of_z w64 z

-- the whole, and the remainder over D
unfoldable pub exact_words : Exact → List ℕ
exact_words e = signed_word e.whole ∷ e.part ∷ []

unfoldable pub motion_words : Motion → List ℕ
motion_words m = exact_words m.position ++ exact_words m.velocity

abbrev pub state_word : State → ℕ
state_word Closed = 0
state_word Settled = 1
state_word Awaiting = 2
state_word Starting = 3

-- ---- the four bodies

-- 56 bytes
unfoldable pub settings_words : Session → List ℕ
settings_words s =
    state_word s.state
    ∷ s.points
    ∷ s.tolerances.position
    ∷ s.tolerances.velocity
    ∷ s.limit
    ∷ s.accepted
    ∷ s.corrections
    ∷ []

-- S1, S2 and the held sum of an axis
unfoldable pub axis_sums : Axis → List ℕ
axis_sums a = exact_words a.first ++ (exact_words a.second ++ motion_words a.older)

-- 192 bytes
unfoldable pub sums_words : Session → List ℕ
sums_words s = axis_sums s.x ++ (axis_sums s.y ++ axis_sums s.z)

-- x, y and z of the sample at a place, the newest at 0
unfoldable pub place_words : ℕ → Session → List ℕ
place_words i s = signed_word (at s.x.samples i) ∷ signed_word (at s.y.samples i) ∷ signed_word (at s.z.samples i) ∷ []

-- the first n places
unfoldable pub places_words : ℕ → Session → List ℕ
places_words zero s = []
places_words (suc n) s = places_words n s ++ place_words n s

-- 216 bytes
abbrev pub samples_words : Session → List ℕ
samples_words s = places_words 9 s

-- 96 bytes
unfoldable pub estimate_words : Session → List ℕ
estimate_words s = motion_words s.x.estimate ++ (motion_words s.y.estimate ++ motion_words s.z.estimate)

-- ---- the table of contents, 96 bytes: kind, offset and length of each body

unfoldable pub contents : List ℕ
contents =
    1 ∷ 96 ∷ 56
    ∷ 2 ∷ 152 ∷ 192
    ∷ 3 ∷ 344 ∷ 216
    ∷ 4 ∷ 560 ∷ 96
    ∷ []

-- ---- all of it

unfoldable pub record_words : Session → List ℕ
record_words s = contents ++ (settings_words s ++ (sums_words s ++ (samples_words s ++ estimate_words s)))

-- in bytes
abbrev pub image_length : ℕ
image_length = 656

unfoldable pub record_bytes : Session → List ℕ
record_bytes s = in_bytes (record_words s)
