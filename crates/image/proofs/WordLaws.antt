-- The laws of bytes and words: how many there are, there and back again, the word at a place, and the same bytes.
use Rattle.std.specs.Prelude.{◌≡◌, refl, true, false, List, [], ◌∷◌, ◌++◌, ℕ, zero, suc, ◌+◌, ◌*◌, ◌/◌, ◌%◌, ◌^◌, ◌<◌, ◌≤◌, length, take, drop, get_or}
use Rattle.std.proofs.Common.{sym, ◌∙◌, ap, ap₂, append_assoc, pow-suc, arith, length-append, length-drop, take_at, get_or-drop, take-add, length-take-le, eqb-true, eq-eqb}
use Rattle.std.proofs.lemmas.Bool.{false≢true}
use Rattle.std.proofs.Math.Seq.{drop-append-add}
use Rattle.integers.specs.Tests.{joined, fails}
use Rattle.image.specs.Bytes.{bytes_of, from_bytes, in_bytes, word_at, same_bytes}

-- ---- bytes are below 256

pub record AreBytes (bytes : List ℕ) : Type 0 where
  pub below : (i : ℕ) → get_or bytes i 0 < 256

first_byte : {b : ℕ} {bytes : List ℕ} → AreBytes (b ∷ bytes) → b < 256
first_byte h = h.below 0

more_bytes : {b : ℕ} {bytes : List ℕ} → AreBytes (b ∷ bytes) → AreBytes bytes
more_bytes h = record { below = λ i. h.below (suc i) }

no_bytes : AreBytes []
no_bytes = record { below = λ i. omega arith }

one_byte : {b : ℕ} {bytes : List ℕ} → b < 256 → AreBytes bytes → AreBytes (b ∷ bytes)
one_byte {b} {bytes} h t = record { below = by }
  where
    by : (i : ℕ) → get_or (b ∷ bytes) i 0 < 256
    by zero = h
    by (suc i) = t.below i

pub bytes_drop : (n : ℕ) (bytes : List ℕ) → AreBytes bytes → AreBytes (drop n bytes)
bytes_drop n bytes h = record { below = λ i. rw (get_or-drop n bytes i 0) (h.below (n + i)) }

pub bytes_take : (n : ℕ) (bytes : List ℕ) → AreBytes bytes → AreBytes (take n bytes)
bytes_take zero bytes h = no_bytes
bytes_take (suc n) [] h = no_bytes
bytes_take (suc n) (b ∷ bytes) h = one_byte (first_byte h) (bytes_take n bytes (more_bytes h))

-- ---- how many there are

pub length-bytes_of : (k n : ℕ) → length (bytes_of k n) ≡ k
unfolding bytes_of
length-bytes_of zero n = refl
length-bytes_of (suc k) n = ap suc (length-bytes_of k (n / 256))

pub length-in_bytes : (words : List ℕ) → length (in_bytes words) ≡ 8 * length words
unfolding in_bytes
length-in_bytes [] = refl
length-in_bytes (w ∷ words) = omega (arith, length-append (bytes_of 8 w) (in_bytes words), length-bytes_of 8 w, length-in_bytes words)

pub in_bytes-append : (xs ys : List ℕ) → in_bytes (xs ++ ys) ≡ in_bytes xs ++ in_bytes ys
unfolding in_bytes
in_bytes-append [] ys = refl
in_bytes-append (x ∷ xs) ys = ap (λ t. bytes_of 8 x ++ t) (in_bytes-append xs ys) ∙ sym (append_assoc (bytes_of 8 x) (in_bytes xs) (in_bytes ys))

-- ---- there and back again

pub from_bytes-bytes_of : (k n : ℕ) → n < 256 ^ k → from_bytes (bytes_of k n) ≡ n
unfolding from_bytes bytes_of
from_bytes-bytes_of zero n h = omega arith
from_bytes-bytes_of (suc k) n h =
    omega (arith, from_bytes-bytes_of k (n / 256) (omega (arith, rw pow-suc at h)))

pub bytes_of-from_bytes : (bytes : List ℕ) → AreBytes bytes → bytes_of (length bytes) (from_bytes bytes) ≡ bytes
unfolding from_bytes bytes_of
bytes_of-from_bytes [] h = refl
bytes_of-from_bytes (b ∷ bytes) h =
    let low = first_byte h in
    let r : (b + 256 * from_bytes bytes) % 256 ≡ b = omega arith in
    let q : (b + 256 * from_bytes bytes) / 256 ≡ from_bytes bytes = omega arith in
    rw (r, q) (ap (λ t. b ∷ t) (bytes_of-from_bytes bytes (more_bytes h)))

-- ---- the word at a place

-- the eight bytes at a place are those of the word there
pub bytes_of-word_at : (at : ℕ) (bytes : List ℕ) → AreBytes bytes → at + 8 ≤ length bytes → bytes_of 8 (word_at at bytes) ≡ take 8 (drop at bytes)
unfolding word_at
bytes_of-word_at at bytes h r =
    let l : length (take 8 (drop at bytes)) ≡ 8 = length-take-le 8 (drop at bytes) (omega (arith, length-drop at bytes)) in
    rw l at (bytes_of-from_bytes (take 8 (drop at bytes)) (bytes_take 8 (drop at bytes) (bytes_drop at bytes h)))

-- bytes that are the same so far, and one word more
pub one-more-word : (a b : List ℕ) (at : ℕ) → AreBytes a → AreBytes b → at + 8 ≤ length a → at + 8 ≤ length b
    → take at a ≡ take at b → word_at at a ≡ word_at at b → take (at + 8) a ≡ take (at + 8) b
one-more-word a b at ha hb la lb e w =
    take-add at 8 a
    ∙ ap₂ ◌++◌ e (sym (bytes_of-word_at at a ha la) ∙ ap (bytes_of 8) w ∙ bytes_of-word_at at b hb lb)
    ∙ sym (take-add at 8 b)

-- the i-th of words that were put one after the other, whatever follows them
pub word_at-in_bytes : (words : List ℕ) (rest : List ℕ) (i : ℕ) → i < length words → get_or words i 0 < 2 ^ 64 → word_at (8 * i) (in_bytes words ++ rest) ≡ get_or words i 0
unfolding word_at in_bytes
word_at-in_bytes [] rest i h f = absurd (omega arith)
word_at-in_bytes (w ∷ words) rest zero h f =
    ap (λ t. from_bytes (take 8 t)) (append_assoc (bytes_of 8 w) (in_bytes words) rest)
    ∙ ap from_bytes (take_at (bytes_of 8 w) (in_bytes words ++ rest) 8 (length-bytes_of 8 w))
    ∙ from_bytes-bytes_of 8 w f
word_at-in_bytes (w ∷ words) rest (suc i) h f =
    let n : 8 * suc i ≡ length (bytes_of 8 w) + 8 * i = omega (arith, length-bytes_of 8 w) in
    ap₂ (λ k t. from_bytes (take 8 (drop k t))) n (append_assoc (bytes_of 8 w) (in_bytes words) rest)
    ∙ ap (λ t. from_bytes (take 8 t)) (drop-append-add (bytes_of 8 w) (in_bytes words ++ rest) (8 * i))
    ∙ word_at-in_bytes words rest i (omega arith) f

-- ---- the same bytes

pub same_bytes-true : (xs ys : List ℕ) → same_bytes xs ys ≡ true → xs ≡ ys
unfolding same_bytes
same_bytes-true [] [] e = refl
same_bytes-true [] (y ∷ ys) e = absurd (false≢true e)
same_bytes-true (x ∷ xs) [] e = absurd (false≢true e)
same_bytes-true (x ∷ xs) (y ∷ ys) e =
    let (p, q) = simp joined at e in
    ap₂ (λ z zs. z ∷ zs) (eqb-true x y p) (same_bytes-true xs ys q)

pub same_bytes-refl : (xs : List ℕ) → same_bytes xs xs ≡ true
unfolding same_bytes
same_bytes-refl [] = refl
same_bytes-refl (x ∷ xs) = simp joined (eq-eqb x x refl, same_bytes-refl xs)

pub same-same_bytes : {xs ys : List ℕ} → xs ≡ ys → same_bytes xs ys ≡ true
same-same_bytes {xs} e = ap (same_bytes xs) (sym e) ∙ same_bytes-refl xs

pub same_bytes-false : (xs ys : List ℕ) → (xs ≡ ys → ⊥) → same_bytes xs ys ≡ false
same_bytes-false xs ys h = fails (same_bytes xs ys) (λ e. h (same_bytes-true xs ys e))
