-- What is said with a number of its own, and with any other.
use mathlib.Core.Path.{◌≡◌, sym, ap}
use mathlib.Core.List.{List, [], ◌∷◌, flatten}
use Prim.Native.Nat.{ℕ}
use borrow.Author.Tests.{ne_eqb}
use Rattle.session.specs.declared.Session.{Session}
use Rattle.reasons.specs.declared.Reason.{Reason}
use Rattle.text.specs.Writes.{Writes}
use Rattle.text.specs.declared.writing.Writer.{Writer}
use Rattle.text.proofs.Written.{retold}
use Rattle.sentences.specs.Sentences.{over_tolerance, said}
use Rattle.sentences.proofs.NoWord.{NoneOf}

module _ (s : Session) (r : Reason) where
  pub as_said : {u w : Writer} {n k : ℕ} → n ≡ k → Writes u (flatten (said k s r)) w → Writes u (flatten (said n s r)) w
  as_said e w = retold (ap (λ m. flatten (said m s r)) (sym e)) w

  pub another : (n : ℕ) → NoneOf n (8 ∷ 7 ∷ 6 ∷ 5 ∷ 13 ∷ 4 ∷ []) → over_tolerance s r [] ≡ said n s r
  unfolding said
  another n h =
      rw (ne_eqb n 4 h.0.0.0.0.0.1, ne_eqb n 13 h.0.0.0.0.1, ne_eqb n 5 h.0.0.0.1, ne_eqb n 6 h.0.0.1, ne_eqb n 7 h.0.1, ne_eqb n 8 h.1)
