-- What is proved of images: `proofs/Theorems.antt` has a proof of each.
use Rattle.std.specs.Prelude.{◌≡◌, ◌↔◌, true, false, List, ◌++◌, ℕ, length, take, replicate}
use Rattle.integers.specs.Lines.{All}
use Rattle.session.specs.declared.Session.{Session}
use Rattle.session.specs.Moves.{closed_session}
use Rattle.image.specs.Bytes.{in_bytes}
use Rattle.image.specs.Layout.{contents, image_length}
use Rattle.image.specs.Standing.{stands, standing, image_of}
use Rattle.image.specs.Reading.{session_in, held_in, is_image, read_of}
use Rattle.image.specs.Contents.{Body, PointsAt, NoGap}
use Rattle.image.specs.Shapes.{Shaped, FitsWords}
use Rattle.image.specs.Figures.{figures}

-- what is saved of a record
pub record OfSaving : Type 0 where
  -- the record itself where it stands, and else the closed one
  pub itself : (s : Session) → stands s ≡ true → standing s ≡ s
  pub closed : (s : Session) → stands s ≡ false → standing s ≡ closed_session
  -- it has the record's shape, and every number of it fits its word
  pub shaped : (s : Session) → Shaped s → Shaped (standing s)
  pub fits : (s : Session) → FitsWords (standing s)
  -- of what was saved the same is saved
  pub again : (s : Session) → standing (standing s) ≡ standing s

-- the image
pub record OfImages : Type 0 where
  -- all are equally long
  pub long : (s : Session) → length (image_of s) ≡ image_length
  -- the table of contents comes first; each entry points at its body, and the bodies follow in their order with no gap
  pub table : (s : Session) → take 96 (image_of s) ≡ in_bytes contents
  pub bodies : (s : Session) (b : Body) → PointsAt (image_of s) (standing s) b
  pub no_gap : (s : Session) → NoGap (image_of s)
  -- a session has one image, and only sessions that are saved alike have the same one
  pub alike : (s t : Session) → Shaped s → Shaped t → image_of s ≡ image_of t → standing s ≡ standing t
  pub one : (s t : Session) → Shaped s → Shaped t → stands s ≡ true → stands t ≡ true → image_of s ≡ image_of t → s ≡ t
  -- a record that counts as closed is saved as the closed one: the table and zeros
  pub closed_alike : (s : Session) → stands s ≡ false → image_of s ≡ image_of closed_session
  pub closed_image : image_of closed_session ≡ in_bytes contents ++ replicate 560 0
  -- examples, word by word
  pub computed : All figures

-- what is read
pub record OfReading : Type 0 where
  -- reading what was written gives the same session
  pub back : (s : Session) → Shaped s → read_of (image_of s) ≡ record { number = 0; session = standing s }
  pub back_held : (s : Session) → Shaped s → held_in (image_of s) ≡ standing s
  pub back_image : (s : Session) → Shaped s → is_image (image_of s) ≡ true
  -- an accepted image written again gives the same bytes
  pub same : (bytes : List ℕ) → is_image bytes ≡ true → image_of (held_in bytes) ≡ bytes
  pub long : (bytes : List ℕ) → is_image bytes ≡ true → length bytes ≡ image_length
  -- bytes are accepted exactly where they are the image of a session
  pub exactly : (bytes : List ℕ) → (is_image bytes ≡ true) ↔ ((s : Session) × (Shaped s × (bytes ≡ image_of s)))
  -- what they hold is what they say
  pub says : (bytes : List ℕ) → is_image bytes ≡ true → held_in bytes ≡ session_in bytes
  -- and has the shape of a record, whatever the bytes
  pub shaped : (bytes : List ℕ) → Shaped (read_of bytes).session
  -- 0 and the session for an image, and 14 and the closed session for any other bytes
  pub accepted : (bytes : List ℕ) → is_image bytes ≡ true → read_of bytes ≡ record { number = 0; session = held_in bytes }
  pub refused : (bytes : List ℕ) → is_image bytes ≡ false → read_of bytes ≡ record { number = 14; session = closed_session }
