-- What is saved of a record: the record itself or the closed one, of the same shape, with numbers that fit their words.
use mathlib.Core.Path.{◌≡◌, refl, sym, ap, ◌∙◌}
use mathlib.Core.Bool.{Bool, true, false, ◌||◌, cond}
use mathlib.Core.List.{List}
use Prim.Native.Nat.{ℕ}
use Rattle.axis.specs.Formulas.{empty_axis}
use Rattle.session.specs.declared.Session.{Session}
use Rattle.session.specs.Moves.{closed_session}
use Rattle.session.specs.Holding.{settled, awaiting}
use Rattle.session.proofs.Coordinates.{on-each}
use Rattle.epoch_session.specs.Records.{starting}
use Rattle.image.specs.Layout.{record_bytes}
use Rattle.image.specs.Shapes.{Shaped, FitsWords}
use Rattle.image.specs.Standing.{stands, standing, image_of}
use Rattle.image.specs.Reading.{samples_at, axis_at, session_in}
use Rattle.image.proofs.Fitting.{settled-fits, awaiting-fits, start_fits, closed-fits}

-- ---- it stands, or counts as closed

module _ (s : Session) where
  pub stands-so : stands s ≡ true → standing s ≡ s
  unfolding standing
  stands-so t = ap (λ b. cond b s closed_session) t

  pub stands-not : stands s ≡ false → standing s ≡ closed_session
  unfolding standing
  stands-not t = ap (λ b. cond b s closed_session) t

  -- what holds of the record where it stands, and of the closed one, holds of what is saved
  pub of-standing : (P : Session → Type 0) → (stands s ≡ true → P s) → P closed_session → P (standing s)
  unfolding standing
  of-standing P f g = by (stands s) f
    where
      by : (b : Bool) → (b ≡ true → P s) → P (cond b s closed_session)
      by true f = f refl
      by false f = g

-- ---- the closed one

closed-stands : stands closed_session ≡ false
unfolding stands settled awaiting starting closed_session
closed-stands = refl

pub closed-standing : standing closed_session ≡ closed_session
closed-standing = stands-not closed_session closed-stands

pub closed-alike : (s : Session) → stands s ≡ false → image_of s ≡ image_of closed_session
unfolding image_of
closed-alike s t = ap record_bytes (stands-not s t ∙ sym closed-standing)

-- ---- saved once, saved again

pub standing-again : (s : Session) → standing (standing s) ≡ standing s
standing-again s = of-standing s (λ t. standing t ≡ t) (stands-so s) closed-standing

pub image-again : (s : Session) → image_of (standing s) ≡ image_of s
unfolding image_of
image-again s = ap record_bytes (standing-again s)

-- ---- shapes

pub closed-shaped : Shaped closed_session
unfolding closed_session empty_axis
closed-shaped = record { places = on-each _ refl refl refl }

pub standing-shaped : (s : Session) → Shaped s → Shaped (standing s)
standing-shaped s h = of-standing s Shaped (λ t. h) closed-shaped

pub read-shaped : (bytes : List ℕ) → Shaped (session_in bytes)
unfolding session_in axis_at samples_at
read-shaped bytes = record { places = on-each _ refl refl refl }

-- ---- sizes

either : {A : Type 0} (a b c : Bool) → (a ≡ true → A) → (b ≡ true → A) → (c ≡ true → A) → (a || (b || c)) ≡ true → A
either true b c f g h e = f refl
either false true c f g h e = g refl
either false false c f g h e = h e

pub stands-fits : (s : Session) → stands s ≡ true → FitsWords s
unfolding stands
stands-fits s = either (settled s) (awaiting s) (starting s) (settled-fits s) (awaiting-fits s) (start_fits s)

pub standing-fits : (s : Session) → FitsWords (standing s)
standing-fits s = of-standing s FitsWords (stands-fits s) closed-fits
