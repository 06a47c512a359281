-- One write of a writer after another: a text by its parts, and a text of pieces.
use Rattle.std.proofs.Common.{◌≡◌, ◌∙◌, ◌++◌, ◌∷◌, [], List, ℕ, refl, take, length, get_or, ◌+◌, ◌<◌}
use mathlib.Core.List.{flatten, map}
use Rattle.std.specs.Borrow.{MutBor}
use Rattle.text.specs.Places.{Wrote}
use Rattle.text.specs.Writes.{Begins, Writes}
use Rattle.text.specs.declared.writing.Writer.{Writer}
use Rattle.text.proofs.Pieces as one

pub nothing : (w : Writer) → Writes w [] w
nothing w = record { same = refl; wrote = one.nothing w.out.now w.at }

pub then : {u v w : Writer} {s t : List ℕ} → Writes u s v → Writes v t w → Writes u (s ++ t) w
then f g = record { same = g.same ∙ f.same; wrote = one.then f.wrote g.wrote }

-- a text under another name of it
pub retold : {u w : Writer} {s t : List ℕ} → s ≡ t → Writes u s w → Writes u t w
retold e f = record { same = f.same; wrote = one.retold e f.wrote }

-- pieces, one after the other: `piece _ first (piece _ second (last third))`
pub piece : {u v w : Writer} {s : List ℕ} (pieces : List (List ℕ)) → Writes u s v → Writes v (flatten pieces) w → Writes u (flatten (s ∷ pieces)) w
piece pieces f g = record { same = g.same ∙ f.same; wrote = one.piece pieces f.wrote g.wrote }

pub last : {u w : Writer} {s : List ℕ} → Writes u s w → Writes u (flatten (s ∷ [])) w
last f = record { same = f.same; wrote = one.last f.wrote }

-- a text that is written at a place of a buffer
pub from_start : {b : MutBor (List ℕ)} {at : ℕ} {u w : Writer} {s : List ℕ} → Begins b at u → Writes u s w → Wrote b.now at s w.out.now w.at
from_start f g = rw (← f.holds, ← f.starts) g.wrote

-- a text for each element of a list: the first k, and one more
pub one_more : {A : Type 0} {u v w : Writer} (f : A → List ℕ) (xs : List A) (d : A) (k : ℕ) → Writes u (flatten (map f (take k xs))) v
    → k < length xs → Writes v (f (get_or xs k d)) w → Writes u (flatten (map f (take (k + 1) xs))) w
one_more f xs d k g h m = record { same = m.same ∙ g.same; wrote = one.one_more f xs d k g.wrote h m.wrote }
