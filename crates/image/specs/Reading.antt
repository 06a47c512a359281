-- The session that bytes say, which bytes are an image, and what saving and reading answer. Definitions only.
use Rattle.std.specs.Prelude.{ℕ, zero, suc, ◌+◌, ◌*◌, ◌%◌, ◌^◌, Bool, cond, List, [], ◌∷◌, ◌++◌, eqb, ltb, ℤ, length, drop}
use Rattle.std.specs.Int.{w64}
use Rattle.std.proofs.Common.{to_z}
use Rattle.exact.specs.declared.Exact.{Exact}
use Rattle.axis.specs.declared.Motion.{Motion}
use Rattle.axis.specs.declared.Axis.{Axis}
use Rattle.axis.specs.declared.Tolerances.{Tolerances}
use Rattle.axis.specs.Formulas.{axis_with}
use Rattle.session.specs.declared.Session.{Session}
use Rattle.session.specs.declared.State.{State}
use Rattle.session.specs.declared.State.TheVariants.{Closed, Settled, Awaiting, Starting}
use Rattle.session.specs.Moves.{closed_session}
use Rattle.image.specs.declared.Loaded.{Loaded}
use Rattle.image.specs.Bytes.{word_at, same_bytes}
use Rattle.image.specs.Layout.{image_length}
use Rattle.image.specs.Standing.{standing, image_of}

-- ---- the fields by their places

abbrev pub signed_at : ℕ → List ℕ → ℤ
signed_at at bytes = to_z w64 (word_at at bytes)

-- the record has 32 bits for a remainder
unfoldable pub exact_at : ℕ → List ℕ → Exact
exact_at at bytes = record { whole = signed_at at bytes; part = word_at (at + 8) bytes % 2 ^ 32 }

unfoldable pub motion_at : ℕ → List ℕ → Motion
motion_at at bytes = record { position = exact_at at bytes; velocity = exact_at (at + 16) bytes }

-- n samples of an axis: the places stand 24 bytes apart
unfoldable pub samples_at : ℕ → ℕ → List ℕ → List ℤ
samples_at zero at bytes = []
samples_at (suc n) at bytes = signed_at at bytes ∷ samples_at n (at + 24) bytes

-- the k-th axis
unfoldable pub axis_at : ℕ → List ℕ → Axis
axis_at k bytes =
    axis_with
    (exact_at (152 + 64 * k) bytes)
    (exact_at (168 + 64 * k) bytes)
    (motion_at (184 + 64 * k) bytes)
    (samples_at 9 (344 + 8 * k) bytes)
    (motion_at (560 + 32 * k) bytes)

-- a number that is no state's is read as closed, and so is no image
unfoldable pub state_of : ℕ → State
state_of n = cond (eqb n 1) Settled (cond (eqb n 2) Awaiting (cond (eqb n 3) Starting Closed))

unfoldable pub tolerances_at : ℕ → List ℕ → Tolerances
tolerances_at at bytes = record { position = word_at at bytes; velocity = word_at (at + 8) bytes }

unfoldable pub session_in : List ℕ → Session
session_in bytes =
    record {
      state = state_of (word_at 96 bytes);
      points = word_at 104 bytes;
      tolerances = tolerances_at 112 bytes;
      limit = word_at 128 bytes;
      accepted = word_at 136 bytes;
      corrections = word_at 144 bytes;
      x = axis_at 0 bytes;
      y = axis_at 1 bytes;
      z = axis_at 2 bytes;
    }

-- ---- images

-- the session that an image holds
unfoldable pub held_in : List ℕ → Session
held_in bytes = standing (session_in bytes)

-- bytes are an image where they are just the image of the session that they say
unfoldable pub is_image : List ℕ → Bool
is_image bytes = same_bytes bytes (image_of (session_in bytes))

-- ---- save: 12 for too little room, and nothing is written; else the image, and the bytes behind it are as they were

unfoldable pub too_small : List ℕ → Bool
too_small room = ltb (length room) image_length

abbrev pub save_number : List ℕ → ℕ
save_number room = cond (too_small room) 12 0

abbrev pub saved_in : Session → List ℕ → List ℕ
saved_in s room = cond (too_small room) room (image_of s ++ drop image_length room)

-- ---- read: 14 for bytes that are no image, and else the session

unfoldable pub read_of : List ℕ → Loaded
read_of bytes = cond (is_image bytes) (record { number = 0; session = held_in bytes }) (record { number = 14; session = closed_session })
