-- The table of contents as it stands in an image: kind, offset and length of each body. Definitions only.
use Rattle.std.specs.Prelude.{◌≡◌, List, ℕ, ◌+◌, length, take, drop}
use Rattle.session.specs.declared.Session.{Session}
use Rattle.image.specs.Bytes.{in_bytes, word_at}
use Rattle.image.specs.Layout.{settings_words, sums_words, samples_words, estimate_words}

pub data Body : Type 0 where
  of_settings : Body
  of_sums : Body
  of_samples : Body
  of_estimate : Body

abbrev pub kind_of : Body → ℕ
kind_of of_settings = 1
kind_of of_sums = 2
kind_of of_samples = 3
kind_of of_estimate = 4

abbrev pub body_words : Body → Session → List ℕ
body_words of_settings s = settings_words s
body_words of_sums s = sums_words s
body_words of_samples s = samples_words s
body_words of_estimate s = estimate_words s

-- ---- what the table says

-- its entries stand one after the other, 24 bytes each
abbrev pub entry_of : Body → ℕ
entry_of of_settings = 0
entry_of of_sums = 24
entry_of of_samples = 48
entry_of of_estimate = 72

abbrev pub kind_in : List ℕ → Body → ℕ
kind_in image b = word_at (entry_of b) image

abbrev pub offset_in : List ℕ → Body → ℕ
offset_in image b = word_at (entry_of b + 8) image

abbrev pub length_in : List ℕ → Body → ℕ
length_in image b = word_at (entry_of b + 16) image

-- an entry says the kind of a body, and where a session's stands
pub record PointsAt (image : List ℕ) (s : Session) (b : Body) : Type 0 where
  pub kind : kind_in image b ≡ kind_of b
  pub body : take (length_in image b) (drop (offset_in image b) image) ≡ in_bytes (body_words b s)

-- the first body stands behind the table, each other behind the one before it, and the last ends the image
pub record NoGap (image : List ℕ) : Type 0 where
  pub settings : offset_in image of_settings ≡ 96
  pub sums : offset_in image of_sums ≡ offset_in image of_settings + length_in image of_settings
  pub samples : offset_in image of_samples ≡ offset_in image of_sums + length_in image of_sums
  pub estimate : offset_in image of_estimate ≡ offset_in image of_samples + length_in image of_samples
  pub end : length image ≡ offset_in image of_estimate + length_in image of_estimate
