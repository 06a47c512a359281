-- The laws of writing. A function that writes pieces meets its contract by `whole`, a caller gives it room by `has_room`,
-- and a loop that writes a text for each element of a list goes by `one_more` and `next-room`.
use Prim.Native.Nat.{ℕ, zero, suc, ◌+◌, ◌≤◌, ◌<◌}
use Rattle.std.proofs.Common.{add-zero, add_assoc, add-one, arith, ◌∙◌, subst, length-set, take-append-drop, take_at}
use Rattle.std.specs.Prelude.{◌≡◌, refl, Bool, leb, set, get_or}
use Rattle.std.proofs.Math.Path.{sym, ap, ap₂}
use Rattle.std.proofs.Math.Bool.{true, false}
use mathlib.Core.List.{List, [], ◌∷◌, ◌++◌, append-nil, append_assoc, flatten, map}
use Rattle.std.proofs.Math.ListN.{length, take, drop, length-append, drop_of_length-le}
use Rattle.std.proofs.Math.Seq.{drop_at, drop-drop, take_all, length-take-le}
use Rattle.std.proofs.lemmas.List.{set_split}
use borrow.Author.Tests.{leb-true, leb-false}
use Rattle.text.specs.Places.{written, Wrote, total, Room, in_turn}

-- a write settles the buffer and the place past it
pub settled : {a b c s : List ℕ} {i j k : ℕ} → Wrote a i s b j → Wrote a i s c k → (b ≡ c) × (j ≡ k)
settled v w = (v.holds ∙ sym w.holds, v.ends ∙ sym w.ends)

-- a text under another name of it
pub retold : {a b s t : List ℕ} {i j : ℕ} → s ≡ t → Wrote a i s b j → Wrote a i t b j
retold {a} {b} {i = i} {j = j} e w = subst (λ x. Wrote a i x b j) e w

-- ---- one write after another

module _ (b : List ℕ) (i : ℕ) (s : List ℕ) where
  -- a buffer with a text in it, up to the end of the text and from there on
  halves : (t : Bool) → leb i (length b) ≡ t
      → (take (i + length s) (written b i s) ≡ take i b ++ s) × (drop (i + length s) (written b i s) ≡ drop (i + length s) b)
  unfolding written
  halves true t =
      let n : length (take i b ++ s) ≡ i + length s = omega (arith, length-append (take i b) s, length-take-le i b (leb-true i (length b) t)) in
      (take_at (take i b ++ s) (drop (i + length s) b) (i + length s) n, drop_at (take i b ++ s) (drop (i + length s) b) (i + length s) n)
  halves false t =
      let h = leb-false i (length b) t in
      let n : length (take i b ++ s) ≤ i + length s = omega (arith, length-append (take i b) s, ap length (take_all i b (omega arith))) in
      let none : drop (i + length s) b ≡ [] = drop_of_length-le b {i = i + length s} (omega arith) in
      let all : written b i s ≡ take i b ++ s = ap (λ r. take i b ++ s ++ r) none ∙ append-nil (take i b ++ s) in (
        ap (take (i + length s)) all ∙ take_all (i + length s) (take i b ++ s) n,
        ap (drop (i + length s)) all ∙ drop_of_length-le (take i b ++ s) {i = i + length s} n ∙ sym none,
      )

  pub up-to-end : take (i + length s) (written b i s) ≡ take i b ++ s
  up-to-end = (halves (leb i (length b)) refl).0

  past_end : drop (i + length s) (written b i s) ≡ drop (i + length s) b
  past_end = (halves (leb i (length b)) refl).1

  one-after : (t : List ℕ) → written (written b i s) (i + length s) t ≡ written b i (s ++ t)
  unfolding written
  one-after t =
      let n : i + length (s ++ t) ≡ i + length s + length t = omega (arith, length-append s t) in
      let past : drop (i + length s + length t) (written b i s) ≡ drop (i + length (s ++ t)) b =
      sym (drop-drop (length t) (i + length s) (written b i s))
      ∙ ap (drop (length t)) past_end
      ∙ drop-drop (length t) (i + length s) b
      ∙ ap (λ k. drop k b) (sym n) in
      ap₂ (λ x y. x ++ t ++ y) up-to-end past ∙ ap (λ x. x ++ drop (i + length (s ++ t)) b) (append_assoc (take i b) s t)

none_written : (b : List ℕ) (i : ℕ) → b ≡ written b i []
unfolding written
none_written b i = sym (rw (add-zero i, append-nil (take i b)) (take-append-drop i b))

pub nothing : (b : List ℕ) (i : ℕ) → Wrote b i [] b i
nothing b i = record { ends = sym (add-zero i); holds = none_written b i; long = refl }

pub byte : (b : List ℕ) (i x : ℕ) → i < length b → Wrote b i (x ∷ []) (set b i x) (i + 1)
unfolding written
byte b i x h =
    record {
      ends = refl;
      holds = set_split b i x h ∙ rw (add-one i) (sym (append_assoc (take i b) (x ∷ []) (drop (suc i) b)));
      long = length-set b i x;
    }

pub then : {a b c s t : List ℕ} {i j k : ℕ} → Wrote a i s b j → Wrote b j t c k → Wrote a i (s ++ t) c k
then {a} {b} {c} {s} {t} {i} {j} {k} v w =
    record {
      ends = w.ends ∙ ap (λ m. m + length t) v.ends ∙ add_assoc i (length s) (length t) ∙ ap (λ m. i + m) (sym (length-append s t));
      holds = w.holds ∙ ap₂ (λ x n. written x n t) v.holds v.ends ∙ one-after a i s t;
      long = w.long ∙ v.long;
    }

-- ---- pieces

pub length-flatten : (pieces : List (List ℕ)) → length (flatten pieces) ≡ total pieces
unfolding flatten
length-flatten [] = refl
length-flatten (s ∷ ss) = length-append s (flatten ss) ∙ ap (λ n. length s + n) (length-flatten ss)

in-turn : (b : List ℕ) (i : ℕ) (pieces : List (List ℕ)) → in_turn b i pieces ≡ written b i (flatten pieces)
unfolding flatten
in-turn b i [] = none_written b i
in-turn b i (s ∷ ss) = in-turn (written b i s) (i + length s) ss ∙ one-after b i s (flatten ss)

-- pieces that were written in turn are a text that was written whole: `whole _ (cc) (omega arith) (omega arith)`
pub whole : {b : List ℕ} {i : ℕ} (pieces : List (List ℕ)) {c : List ℕ} {k : ℕ}
    → c ≡ in_turn b i pieces → k ≡ i + total pieces → length c ≡ length b → Wrote b i (flatten pieces) c k
whole {b} {i} pieces e k l = record { ends = k ∙ ap (λ n. i + n) (sym (length-flatten pieces)); holds = e ∙ in-turn b i pieces; long = l }

-- the same by the writes themselves, where there are more than four or so: `piece _ first (piece _ second (last third))`
pub piece : {a b c s : List ℕ} (pieces : List (List ℕ)) {i j k : ℕ} → Wrote a i s b j → Wrote b j (flatten pieces) c k → Wrote a i (flatten (s ∷ pieces)) c k
unfolding flatten
piece pieces v w = then v w

pub last : {a b s : List ℕ} {i j : ℕ} → Wrote a i s b j → Wrote a i (flatten (s ∷ [])) b j
unfolding flatten
last {s = s} w = rw (append-nil s) w

-- room for a text is room for its pieces: `has_room (omega arith)`
pub has_room : {b : List ℕ} {i : ℕ} {pieces : List (List ℕ)} → i + length (flatten pieces) ≤ length b → Room b i pieces
has_room {pieces = pieces} h = record { fits = omega (arith, length-flatten pieces) }

-- ---- a text for each element of a list

module _ {A : Type 0} (f : A → List ℕ) where
  -- the first k, and one more
  flatten-more : (xs : List A) (d : A) (k : ℕ) → k < length xs
      → flatten (map f (take (suc k) xs)) ≡ flatten (map f (take k xs)) ++ f (get_or xs k d)
  unfolding flatten
  flatten-more [] d k h = absurd (omega arith)
  flatten-more (x ∷ xs) d zero h = append-nil (f x)
  flatten-more (x ∷ xs) d (suc k) h =
      ap (λ t. f x ++ t) (flatten-more xs d k (omega arith)) ∙ sym (append_assoc (f x) (flatten (map f (take k xs))) (f (get_or xs k d)))

  -- the first k and one more are no longer than the first p
  flatten-room : (xs : List A) (d : A) (k p : ℕ) → k < p → p ≤ length xs
      → length (flatten (map f (take k xs))) + length (f (get_or xs k d)) ≤ length (flatten (map f (take p xs)))
  unfolding flatten
  flatten-room [] d k p h l = absurd (omega arith)
  flatten-room (x ∷ xs) d k zero h l = absurd (omega arith)
  flatten-room (x ∷ xs) d zero (suc p) h l = omega (arith, length-append (f x) (flatten (map f (take p xs))))
  flatten-room (x ∷ xs) d (suc k) (suc p) h l =
      let more = flatten-room xs d k p (omega arith) (omega arith) in
      omega (arith, length-append (f x) (flatten (map f (take p xs))), length-append (f x) (flatten (map f (take k xs))), more)

  module _ {a b : List ℕ} {i j : ℕ} (xs : List A) (d : A) (k : ℕ) (w : Wrote a i (flatten (map f (take k xs))) b j) where
    pub one_more : {c : List ℕ} {l : ℕ} → k < length xs → Wrote b j (f (get_or xs k d)) c l → Wrote a i (flatten (map f (take (k + 1) xs))) c l
    one_more h v = rw (add-one k, flatten-more xs d k h) (then w v)

    pub next-room : (p : ℕ) → k < p → p ≤ length xs → i + length (flatten (map f (take p xs))) ≤ length a → j + length (f (get_or xs k d)) ≤ length b
    next-room p h l r = omega (arith, w.ends, w.long, flatten-room xs d k p h l)
