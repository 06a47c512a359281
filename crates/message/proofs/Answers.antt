-- Laws of the refusal's number and of the answer.
use mathlib.Core.Path.{◌≡◌, refl, sym, ◌∙◌, ap}
use mathlib.Core.Bool.{Bool, true, false, not}
use mathlib.Core.List.{List, [], ◌∷◌}
use Prim.Native.Nat.{ℕ, ◌≤◌}
use native.Mathlib.Nat.{zero-add}
use native.Mathlib.Omega.{arith}
use lib.Dec.{ltb}
use lib.ListN.{length}
use borrow.Author.Tests.{ltb-false}
use Rattle.rules.specs.Rules.{first_of, Gives}
use Rattle.text.specs.Places.{Wrote}
use Rattle.message.specs.declared.Written.{Written}
use Rattle.message.specs.declared.Edition.{Edition}
use Rattle.message.specs.Request.{Request}
use Rattle.message.specs.Message.{message_as, message}
use Rattle.message.specs.Refusals.{well_formed, points_hold, rules, refusal}
use Rattle.message.specs.Answer.{answer_by, room_by, answer_as, room_as}
use Rattle.message.proofs.Laws.{as_long, left_alone}

pub gives : (r : Request) (room : ℕ) {n : ℕ} → Gives (rules r room) n → n ≡ refusal r room
unfolding refusal
gives r room g = sym g.first

-- where no number refuses
pub record Unrefused (r : Request) (n : ℕ) : Type 0 where
  pub formed : well_formed r ≡ true
  pub points : points_hold r.tick r.step r.points ≡ true
  pub room : length (message r) ≤ n

none-by : (r : Request) (n : ℕ) (a b c : Bool) → well_formed r ≡ a → points_hold r.tick r.step r.points ≡ b → ltb n (length (message r)) ≡ c
    → first_of ((not a, 11) ∷ (not b, 6) ∷ (c, 12) ∷ []) ≡ 0 → Unrefused r n
unfolding first_of
none-by r n true true false p q s e = record { formed = p; points = q; room = ltb-false n (length (message r)) s }
none-by r n true true true p q s e = absurd (let z : ◌≡◌ {A = ℕ} 12 0 = e in omega arith)
none-by r n true false c p q s e = absurd (let z : ◌≡◌ {A = ℕ} 6 0 = e in omega arith)
none-by r n false b c p q s e = absurd (let z : ◌≡◌ {A = ℕ} 11 0 = e in omega arith)

pub unrefused : (r : Request) (n : ℕ) → refusal r n ≡ 0 → Unrefused r n
unfolding refusal
unrefused r n e =
    none-by r n (well_formed r) (points_hold r.tick r.step r.points) (ltb n (length (message r))) refl refl refl e

pub room_as_lem : (e : Edition) (r : Request) (n : ℕ) → Unrefused r n → length (message_as e r) ≤ n
room_as_lem e r n u = omega (arith, u.room, as_long e r)

-- ---- the answer

module _ (e : Edition) (r : Request) (room : List ℕ) {n : ℕ} (told : n ≡ refusal r (length room)) where
  pub refused : (n ≡ 0 → ⊥) → (◌≡◌ {A = Written} record { number = n; length = 0 } (answer_as e r room)) × (room ≡ room_as e r room)
  refused z =
      let (a, b) = left_alone e r room (λ h. z (told ∙ h)) in
      ((λ i. record { number = told i; length = 0 }) ∙ sym a, sym b)

  pub done : n ≡ 0 → {after : List ℕ} {k : ℕ} → Wrote room 0 (message_as e r) after k
      → (◌≡◌ {A = Written} record { number = n; length = k } (answer_as e r room)) × (after ≡ room_as e r room)
  unfolding answer_as room_as
  done z {after} {k} w =
      let o : refusal r (length room) ≡ 0 = sym told ∙ z in
      let l : k ≡ length (message_as e r) = w.ends ∙ zero-add (length (message_as e r)) in (
        (λ i. record { number = z i; length = l i }) ∙ ap (λ m. answer_by m e r) (sym o),
        w.holds ∙ ap (λ m. room_by m e r room) (sym o),
      )
