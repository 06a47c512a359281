-- An image saved into just enough room.
use mathlib.Core.Path.{◌≡◌}
use mathlib.Core.List.{List, append-nil}
use Prim.Native.Nat.{ℕ}
use native.Mathlib.Omega.{arith}
use borrow.Author.Tests.{le-ltb}
use lib.ListN.{length, replicate, length-replicate, drop_of_length-le}
use Rattle.session.specs.declared.Session.{Session}
use Rattle.image.specs.Standing.{image_of}
use Rattle.image.specs.Reading.{too_small, saved_in}

in-room : (s : Session) (room : List ℕ) → length room ≡ 656 → saved_in s room ≡ image_of s
unfolding too_small
in-room s room h = rw (le-ltb (length room) 656 (omega arith), drop_of_length-le room {i = 656} (omega arith)) (append-nil (image_of s))

pub whole-image : (s : Session) → saved_in s (replicate 656 0) ≡ image_of s
whole-image s = in-room s (replicate 656 0) (length-replicate {A = ℕ} 656 0)
