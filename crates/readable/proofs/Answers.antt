-- The answers of an edition's reader: 17, then 15, then 12, and what is written.
use mathlib.Core.Path.{◌≡◌, refl, sym, ◌∙◌, ap}
use mathlib.Core.Logic.{◌↔◌}
use mathlib.Core.Bool.{Bool, true, false, cond}
use mathlib.Core.List.{List}
use Prim.Native.Nat.{ℕ}
use native.Mathlib.Omega.{arith}
use lib.IntN.{ℤ}
use lib.ListN.{length}
use Rattle.integers.specs.Tests.{fails}
use Rattle.message.specs.declared.Edition.{Edition}
use Rattle.received.specs.Versions.{is_other}
use Rattle.received.specs.Data.{Point}
use Rattle.received.specs.Messages.{Message, Says, Readable}
use Rattle.received.specs.Reading.{Read, Reads, Stops, read_of, message_in}
use Rattle.received.specs.Answer.{has_room, received, refused_by, answer_by, epochs_by, values_by, answer_to, epochs_after, values_after}
use Rattle.readable.specs.Naming.{NamesOther}
use Rattle.readable.specs.Answering.{head_in, NoRoom, Answered}
use Rattle.readable.proofs.Naming.{other-exactly}
use Rattle.readable.proofs.Readers.{sound, complete, exactly}
use Rattle.readable.proofs.Editions.{own}

module _ (e : Edition) (text epochs : List ℕ) (values : List ℤ) where
  -- an answer by what is read, where the version is the edition's
  answered : is_other e text ≡ false → {r : Read} → read_of e text ≡ r → answer_to e text epochs values ≡ answer_by r epochs values
  unfolding answer_to
  answered o q = ap (λ t. cond t (refused_by 17 0) (answer_by (read_of e text) epochs values)) o ∙ ap (λ r. answer_by r epochs values) q

  other : is_other e text ≡ true → answer_to e text epochs values ≡ refused_by 17 0
  unfolding answer_to
  other o = ap (λ t. cond t (refused_by 17 0) (answer_by (read_of e text) epochs values)) o

  not-other : ¬ NamesOther e text → is_other e text ≡ false
  not-other n = fails (is_other e text) (λ o. n ((other-exactly e text).0 o))

  own-named : {m : Message} → Says e text m → is_other e text ≡ false
  own-named {m} s = not-other (own text e (m, s))

  pub stopped : (n : ℕ) → ¬ NamesOther e text → read_of e text ≡ Stops n → answer_to e text epochs values ≡ answer_by (Stops n) epochs values
  stopped n o q = answered (not-other o) q

  -- a message that is read is answered by 0 or by 12
  by-room : (groups : List (List (List ℕ))) (points : List Point) (k : ℕ) (t : Bool) → has_room (length points) (length epochs) (length values) ≡ t
      → (0 ≡ k → ⊥) → (12 ≡ k → ⊥) → (answer_by (Reads groups points) epochs values).number ≡ k → ⊥
  unfolding received
  by-room groups points k true t z r q = z (rw t at q)
  by-room groups points k false t z r q = r (rw t at q)

  -- and no text by 17 where the version is the edition's
  not-seventeen : (r : Read) → (answer_by r epochs values).number ≡ 17 → ⊥
  not-seventeen (Reads groups points) q =
      by-room groups points 17 (has_room (length points) (length epochs) (length values)) refl (λ z. omega (arith, z)) (λ z. omega (arith, z)) q
  not-seventeen (Stops n) q = omega (arith, q)

  pub seventeen : ((answer_to e text epochs values).number ≡ 17) ↔ NamesOther e text
  seventeen = (λ q. by (is_other e text) refl q, λ n. ap (λ a. a.number) (other ((other-exactly e text).1 n)))
    where
      by : (t : Bool) → is_other e text ≡ t → (answer_to e text epochs values).number ≡ 17 → NamesOther e text
      by true o q = (other-exactly e text).0 o
      by false o q = absurd (not-seventeen (read_of e text) (ap (λ a. a.number) (sym (answered o refl)) ∙ q))

  pub fifteen : ((answer_to e text epochs values).number ≡ 15) ↔ ((¬ NamesOther e text) × (¬ Readable e text))
  fifteen = (λ q. (named q, read q), λ (o, h). let (n, r) = (exactly e text).1 h in ap (λ a. a.number) (answered (not-other o) r))
    where
      named : (answer_to e text epochs values).number ≡ 15 → ¬ NamesOther e text
      named q n = omega (arith, sym q ∙ seventeen.1 n)

      read : (answer_to e text epochs values).number ≡ 15 → ¬ Readable e text
      read q (m, s) =
          let a = answered (own-named s) (complete e text m s).0 in
          by-room (head_in e m) m.points 15 (has_room (length m.points) (length epochs) (length values)) refl (λ z. omega (arith, z)) (λ z. omega (arith, z))
          (sym (ap (λ x. x.number) a) ∙ q)

  pub wrote : (m : Message) → Says e text m → has_room (length m.points) (length epochs) (length values) ≡ true → Answered e text epochs values m
  unfolding answer_to epochs_after values_after
  wrote m s h =
      let q = (complete e text m s).0 in
      let o = own-named s in
      record {
        answer = ap (λ t. cond t (refused_by 17 0) (answer_by (read_of e text) epochs values)) o ∙ ap (λ r. answer_by r epochs values) q ∙ rw h refl;
        seconds = ap (λ t. cond t epochs (epochs_by (read_of e text) epochs values)) o ∙ ap (λ r. epochs_by r epochs values) q ∙ rw h refl;
        numbers = ap (λ t. cond t values (values_by (read_of e text) epochs values)) o ∙ ap (λ r. values_by r epochs values) q ∙ rw h refl;
      }

  pub twelve : ((answer_to e text epochs values).number ≡ 12) ↔ NoRoom e text epochs values
  unfolding received message_in
  twelve = (λ q. or (is_other e text) refl q, told)
    where
      by : (groups : List (List (List ℕ))) (points : List Point) → read_of e text ≡ Reads groups points
          → (t : Bool) → has_room (length points) (length epochs) (length values) ≡ t
          → (answer_by (Reads groups points) epochs values).number ≡ 12 → NoRoom e text epochs values
      by groups points r true t q = absurd (let n : ◌≡◌ {A = ℕ} 0 12 = rw t at q in omega (arith, n))
      by groups points r false t q = (message_in groups points, (sound e text groups points r, t))

      read : (r : Read) → read_of e text ≡ r → (answer_by r epochs values).number ≡ 12 → NoRoom e text epochs values
      read (Reads groups points) r q = by groups points r (has_room (length points) (length epochs) (length values)) refl q
      read (Stops n) r q = absurd (omega (arith, q))

      or : (t : Bool) → is_other e text ≡ t → (answer_to e text epochs values).number ≡ 12 → NoRoom e text epochs values
      or true o q = absurd (omega (arith, ap (λ a. a.number) (sym (other o)) ∙ q))
      or false o q = read (read_of e text) refl (ap (λ a. a.number) (sym (answered o refl)) ∙ q)

      told : NoRoom e text epochs values → (answer_to e text epochs values).number ≡ 12
      told (m, (s, h)) = ap (λ a. a.number) (answered (own-named s) (complete e text m s).0) ∙ rw h refl

  pub leaves : ¬ ((answer_to e text epochs values).number ≡ 0) → (epochs_after e text epochs values ≡ epochs) × (values_after e text epochs values ≡ values)
  unfolding answer_to epochs_after values_after received
  leaves h = or (is_other e text) h
    where
      by : (groups : List (List (List ℕ))) (points : List Point) (t : Bool) → has_room (length points) (length epochs) (length values) ≡ t
          → ¬ ((answer_by (Reads groups points) epochs values).number ≡ 0)
          → (epochs_by (Reads groups points) epochs values ≡ epochs) × (values_by (Reads groups points) epochs values ≡ values)
      by groups points true t h = absurd (h (rw t refl))
      by groups points false t h = (rw t refl, rw t refl)

      read : (r : Read) → ¬ ((answer_by r epochs values).number ≡ 0) → (epochs_by r epochs values ≡ epochs) × (values_by r epochs values ≡ values)
      read (Reads groups points) h = by groups points (has_room (length points) (length epochs) (length values)) refl h
      read (Stops n) h = (refl, refl)

      or : (t : Bool) → ¬ ((cond t (refused_by 17 0) (answer_by (read_of e text) epochs values)).number ≡ 0)
          → (cond t epochs (epochs_by (read_of e text) epochs values) ≡ epochs) × (cond t values (values_by (read_of e text) epochs values) ≡ values)
      or true h = (refl, refl)
      or false h = read (read_of e text) h
