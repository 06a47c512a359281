-- The answers of an edition's mending: 17, then 16, then 12, and that a refusal writes nothing.
use mathlib.Core.Path.{◌≡◌, refl, sym, ◌∙◌, ap}
use mathlib.Core.Logic.{◌↔◌}
use mathlib.Core.Bool.{Bool, true, false, cond}
use mathlib.Core.List.{List}
use Prim.Native.Nat.{ℕ}
use native.Mathlib.Omega.{arith}
use lib.ListN.{length}
use Rattle.integers.specs.Tests.{clash, fails}
use Rattle.message.specs.declared.Edition.{Edition}
use Rattle.received.specs.Versions.{is_other}
use Rattle.received.specs.Mending.{Change, Mend, Mends, Cannot, mend_of}
use Rattle.received.specs.MendAnswer.{unmended, has_rooms, mended_by, out_by, changes_by, mended_to, out_after, changes_after}
use Rattle.readable.specs.Naming.{NamesOther}
use Rattle.readable.specs.Changes.{Mendable, NoRooms}
use Rattle.readable.proofs.Naming.{other-exactly}
use Rattle.readable.proofs.Changing.{mended, mended-so}
use Rattle.readable.proofs.Unmendable.{cannot}

module _ (e : Edition) (text out changes : List ℕ) where
  -- an answer by what mending gives, where the version is the edition's
  answered : ¬ NamesOther e text → {m : Mend} → mend_of e text ≡ m → mended_to e text out changes ≡ mended_by m out changes
  unfolding mended_to
  answered n q =
      ap (λ t. cond t (unmended 17) (mended_by (mend_of e text) out changes)) (fails (is_other e text) (λ o. n ((other-exactly e text).0 o)))
      ∙ ap (λ m. mended_by m out changes) q

  other : NamesOther e text → mended_to e text out changes ≡ unmended 17
  unfolding mended_to
  other n = ap (λ t. cond t (unmended 17) (mended_by (mend_of e text) out changes)) ((other-exactly e text).1 n)

  -- what is mended is answered by 0, or by 12 where a room is too small
  by-rooms : (lines : List (List ℕ)) (list : List Change) (k : ℕ) (t : Bool) → has_rooms lines list (length out) (length changes) ≡ t
      → (0 ≡ k → ⊥) → (12 ≡ k → t ≡ true) → (mended_by (Mends lines list) out changes).number ≡ k → ⊥
  by-rooms lines list k true t z r q = z (rw t at q)
  by-rooms lines list k false t z r q = clash (r (rw t at q)) refl

  -- any other number than 17 says that the version is the edition's, or none is named
  or-other : (k : ℕ) → (17 ≡ k → ⊥) → (mended_to e text out changes).number ≡ k → ¬ NamesOther e text
  or-other k d q n = d (sym (ap (λ a. a.number) (other n)) ∙ q)

  not-seventeen : (m : Mend) → (mended_by m out changes).number ≡ 17 → ⊥
  not-seventeen Cannot q = omega (arith, q)
  not-seventeen (Mends lines list) q = by-rooms lines list 17 (has_rooms lines list (length out) (length changes)) refl (λ z. omega (arith, z)) (λ z. absurd (omega (arith, z))) q

  pub seventeen : ((mended_to e text out changes).number ≡ 17) ↔ NamesOther e text
  unfolding mended_to
  seventeen = (λ q. by (is_other e text) refl q, λ n. ap (λ a. a.number) (other n))
    where
      by : (t : Bool) → is_other e text ≡ t → (cond t (unmended 17) (mended_by (mend_of e text) out changes)).number ≡ 17 → NamesOther e text
      by true o q = (other-exactly e text).0 o
      by false o q = absurd (not-seventeen (mend_of e text) q)

  pub sixteen : ((mended_to e text out changes).number ≡ 16) ↔ ((¬ NamesOther e text) × (¬ Mendable e text))
  sixteen = (λ q. told q (or-other 16 (λ z. omega (arith, z)) q), λ (n, h). ap (λ a. a.number) (answered n ((cannot e text).1 h)))
    where
      by : (m : Mend) → mend_of e text ≡ m → (mended_by m out changes).number ≡ 16 → ¬ Mendable e text
      by Cannot r q = (cannot e text).0 r
      by (Mends lines list) r q =
          absurd (by-rooms lines list 16 (has_rooms lines list (length out) (length changes)) refl (λ z. omega (arith, z)) (λ z. absurd (omega (arith, z))) q)

      told : (mended_to e text out changes).number ≡ 16 → ¬ NamesOther e text → (¬ NamesOther e text) × (¬ Mendable e text)
      told q n = (n, by (mend_of e text) refl (sym (ap (λ a. a.number) (answered n refl)) ∙ q))

  pub twelve : ((mended_to e text out changes).number ≡ 12) ↔ ((¬ NamesOther e text) × NoRooms e text out changes)
  twelve = (λ q. told q (or-other 12 (λ z. omega (arith, z)) q), given)
    where
      by-room : (lines : List (List ℕ)) (list : List Change) → mend_of e text ≡ Mends lines list → (t : Bool)
          → has_rooms lines list (length out) (length changes) ≡ t → (mended_by (Mends lines list) out changes).number ≡ 12 → NoRooms e text out changes
      by-room lines list r true t q = absurd (by-rooms lines list 12 true t (λ z. omega (arith, z)) (λ z. refl) q)
      by-room lines list r false t q = (lines, (list, (mended e text lines list r, t)))

      by : (m : Mend) → mend_of e text ≡ m → (mended_by m out changes).number ≡ 12 → NoRooms e text out changes
      by Cannot r q = absurd (omega (arith, q))
      by (Mends lines list) r q = by-room lines list r (has_rooms lines list (length out) (length changes)) refl q

      told : (mended_to e text out changes).number ≡ 12 → ¬ NamesOther e text → (¬ NamesOther e text) × NoRooms e text out changes
      told q n = (n, by (mend_of e text) refl (sym (ap (λ a. a.number) (answered n refl)) ∙ q))

      given : (¬ NamesOther e text) × NoRooms e text out changes → (mended_to e text out changes).number ≡ 12
      given (n, (lines, (list, (m, t)))) = ap (λ a. a.number) (answered n (mended-so e text lines list m)) ∙ rw t refl

  pub leaves : ¬ ((mended_to e text out changes).number ≡ 0) → (out_after e text out changes ≡ out) × (changes_after e text out changes ≡ changes)
  unfolding mended_to out_after changes_after
  leaves h = or (is_other e text) h
    where
      by-room : (lines : List (List ℕ)) (list : List Change) (t : Bool) → has_rooms lines list (length out) (length changes) ≡ t
          → ¬ ((mended_by (Mends lines list) out changes).number ≡ 0)
          → (out_by (Mends lines list) out changes ≡ out) × (changes_by (Mends lines list) out changes ≡ changes)
      by-room lines list true t h = absurd (h (rw t refl))
      by-room lines list false t h = (rw t refl, rw t refl)

      by : (m : Mend) → ¬ ((mended_by m out changes).number ≡ 0) → (out_by m out changes ≡ out) × (changes_by m out changes ≡ changes)
      by Cannot h = (refl, refl)
      by (Mends lines list) h = by-room lines list (has_rooms lines list (length out) (length changes)) refl h

      or : (t : Bool) → ¬ ((cond t (unmended 17) (mended_by (mend_of e text) out changes)).number ≡ 0)
          → (cond t out (out_by (mend_of e text) out changes) ≡ out) × (cond t changes (changes_by (mend_of e text) out changes) ≡ changes)
      or true h = (refl, refl)
      or false h = by (mend_of e text) h
