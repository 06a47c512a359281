-- An image: how long it is and what its table says, that what was written is read back, and that nothing but images is accepted.
use mathlib.Core.Path.{◌≡◌, refl, sym, ap, ◌∙◌}
use mathlib.Core.Logic.{◌↔◌}
use mathlib.Core.Bool.{Bool, true, false, cond}
use mathlib.Core.List.{List}
use Prim.Native.Nat.{ℕ, ◌*◌}
use lib.ListN.{length, take}
use Rattle.session.specs.declared.Session.{Session}
use Rattle.session.specs.Moves.{closed_session}
use Rattle.image.specs.declared.Loaded.{Loaded}
use Rattle.image.specs.Bytes.{in_bytes}
use Rattle.image.proofs.WordLaws.{length-in_bytes, same_bytes-true, same-same_bytes}
use Rattle.image.specs.Layout.{contents, image_length, record_words, record_bytes}
use Rattle.image.specs.Standing.{stands, standing, image_of}
use Rattle.image.specs.Reading.{session_in, held_in, is_image, read_of}
use Rattle.image.specs.Contents.{Body, PointsAt, NoGap}
use Rattle.image.specs.Shapes.{Shaped}
use Rattle.image.proofs.Said.{Say, all_said, taken-said}
use Rattle.image.proofs.Stands.{stands-so, closed-shaped, standing-again, image-again, standing-shaped, read-shaped, standing-fits}
use Rattle.image.proofs.Bodies.{length-record, table-said, points-at, no_gap}
use Rattle.image.proofs.Back.{session-read}

-- ---- what is written

module _ (s : Session) where
  image_said : Say (image_of s) 0 (record_words (standing s))
  unfolding image_of record_bytes
  image_said = all_said (record_words (standing s))

  pub image-long : length (image_of s) ≡ image_length
  unfolding image_of record_bytes
  image-long = length-in_bytes (record_words (standing s)) ∙ ap (λ n. 8 * n) (length-record (standing s))

  pub image-table : take 96 (image_of s) ≡ in_bytes contents
  unfolding contents
  image-table = taken-said contents 12 refl (table-said (standing s) image_said)

  pub image-bodies : (b : Body) → PointsAt (image_of s) (standing s) b
  image-bodies = points-at (standing s) image_said

  pub image-no-gap : NoGap (image_of s)
  image-no-gap = no_gap (standing s) image_said image-long

-- ---- what was written is read back

module _ (s : Session) (h : Shaped s) where
  image-read : session_in (image_of s) ≡ standing s
  image-read = session-read (standing s) (image_said s) (standing-shaped s h) (standing-fits s)

  pub held_back : held_in (image_of s) ≡ standing s
  unfolding held_in
  held_back = ap standing image-read ∙ standing-again s

  pub image-back : is_image (image_of s) ≡ true
  unfolding is_image
  image-back = same-same_bytes (sym (ap image_of image-read ∙ image-again s))

-- ---- what is accepted

module _ (bytes : List ℕ) where
  pub read-accepted : is_image bytes ≡ true → read_of bytes ≡ record { number = 0; session = held_in bytes }
  unfolding read_of
  read-accepted t = ap (λ b. cond b (record { number = 0; session = held_in bytes }) (record { number = 14; session = closed_session })) t

  pub read-refused : is_image bytes ≡ false → read_of bytes ≡ record { number = 14; session = closed_session }
  unfolding read_of
  read-refused t = ap (λ b. cond b (record { number = 0; session = held_in bytes }) (record { number = 14; session = closed_session })) t

  held-shaped : Shaped (held_in bytes)
  unfolding held_in
  held-shaped = standing-shaped (session_in bytes) (read-shaped bytes)

  -- bytes that are accepted are the image of what they say
  image-said-so : is_image bytes ≡ true → bytes ≡ image_of (session_in bytes)
  unfolding is_image
  image-said-so t = same_bytes-true bytes (image_of (session_in bytes)) t

  pub same_bytes : is_image bytes ≡ true → image_of (held_in bytes) ≡ bytes
  unfolding held_in
  same_bytes t = image-again (session_in bytes) ∙ sym (image-said-so t)

  pub accepted-long : is_image bytes ≡ true → length bytes ≡ image_length
  accepted-long t = ap length (image-said-so t) ∙ image-long (session_in bytes)

  pub held-said : is_image bytes ≡ true → held_in bytes ≡ session_in bytes
  unfolding held_in
  held-said t = sym (ap session_in (image-said-so t) ∙ image-read (session_in bytes) (read-shaped bytes))

  pub accepted-exactly : (is_image bytes ≡ true) ↔ ((s : Session) × (Shaped s × (bytes ≡ image_of s)))
  accepted-exactly = (
    (λ t. (session_in bytes, (read-shaped bytes, image-said-so t))),
    (λ (s, (h, e)). ap is_image e ∙ image-back s h),
  )

  pub all-shaped : Shaped (read_of bytes).session
  unfolding read_of
  all-shaped = by (is_image bytes)
    where
      by : (b : Bool) → Shaped (cond {A = Loaded} b (record { number = 0; session = held_in bytes }) (record { number = 14; session = closed_session })).session
      by true = held-shaped
      by false = closed-shaped

-- ---- one image

module _ (s t : Session) (h : Shaped s) (k : Shaped t) (e : image_of s ≡ image_of t) where
  pub saved-alike : standing s ≡ standing t
  saved-alike = sym (held_back s h) ∙ ap held_in e ∙ held_back t k

  pub same-session : stands s ≡ true → stands t ≡ true → s ≡ t
  same-session a b = sym (stands-so s a) ∙ saved-alike ∙ stands-so t b

pub read_back : (s : Session) → Shaped s → read_of (image_of s) ≡ record { number = 0; session = standing s }
read_back s h = read-accepted (image_of s) (image-back s h) ∙ (λ i. record { number = 0; session = held_back s h i })
