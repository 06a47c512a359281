-- What of a record is saved: the record itself where it counts as settled, awaiting or starting, and else the closed one. Its image. Definitions only.
use Rattle.std.specs.Prelude.{Bool, ◌||◌, cond, List, ℕ}
use Rattle.session.specs.declared.Session.{Session}
use Rattle.session.specs.Moves.{closed_session}
use Rattle.session.specs.Holding.{settled, awaiting}
use Rattle.epoch_session.specs.Records.{starting}
use Rattle.image.specs.Layout.{record_bytes}

-- it counts as settled, awaiting or starting
unfoldable pub stands : Session → Bool
stands s = settled s || (awaiting s || starting s)

unfoldable pub standing : Session → Session
standing s = cond (stands s) s closed_session

unfoldable pub image_of : Session → List ℕ
image_of s = record_bytes (standing s)
