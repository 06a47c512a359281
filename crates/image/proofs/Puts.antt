-- Words that were put, one after the other.
use mathlib.Core.Path.{◌≡◌, refl, sym, ◌∙◌, ap, subst}
use mathlib.Core.List.{List, [], ◌∷◌, ◌++◌, append-nil}
use Prim.Native.Nat.{ℕ, suc, ◌+◌, ◌*◌, ◌/◌, ◌%◌, ◌<◌, ◌≤◌}
use native.Mathlib.Omega.{arith}
use lib.ListN.{length, drop, set, get_or, drop_of_length-le}
use Rattle.text.specs.Places.{written, Wrote}
use Rattle.text.proofs.Pieces.{nothing, byte, then}
use Rattle.image.specs.Bytes.{bytes_of, in_bytes, Put}
use Rattle.image.proofs.WordLaws.{length-in_bytes, in_bytes-append}
use Rattle.image.proofs.Eight.{word-written}
use Rattle.std.specs.Int.{w64, to_le_bytes}

-- as a text that was written
wrote : {a b words : List ℕ} {i : ℕ} (j : ℕ) → Put a i words b → j ≡ i + 8 * length words → Wrote a i (in_bytes words) b j
wrote {words = words} j p e = record { ends = omega (arith, length-in_bytes words); holds = p.holds; long = p.long }

pub put-none : (a : List ℕ) (i : ℕ) → Put a i [] a
unfolding in_bytes
put-none a i = let w = nothing a i in record { holds = w.holds; long = w.long }

-- words under another name of them
pub renamed : {a b xs ys : List ℕ} {i : ℕ} → xs ≡ ys → Put a i xs b → Put a i ys b
renamed {a} {b} {i = i} e p = subst (λ words. Put a i words b) e p

-- and words right after them
pub put_then : {a b c xs ys : List ℕ} {i j : ℕ} → Put a i xs b → j ≡ i + 8 * length xs → Put b j ys c → Put a i (xs ++ ys) c
put_then {xs = xs} {ys} {i} {j} p e q =
    let w = then (wrote j p e) (wrote (j + 8 * length ys) q refl) in
    record { holds = rw (in_bytes-append xs ys) w.holds; long = w.long }

-- ---- words in front of all

pub put_front : {a b words : List ℕ} → Put a 0 words b → b ≡ in_bytes words ++ drop (8 * length words) a
unfolding written
put_front {a} {b} {words} p =
    let e : 0 + length (in_bytes words) ≡ 8 * length words = omega (arith, length-in_bytes words) in
    p.holds ∙ ap (λ k. in_bytes words ++ drop k a) e

-- and they fill it
pub put_all : {a b words : List ℕ} → Put a 0 words b → length a ≤ 8 * length words → b ≡ in_bytes words
put_all {a} {b} {words} p l =
    put_front p ∙ ap (λ t. in_bytes words ++ t) (drop_of_length-le a {i = 8 * length words} l) ∙ append-nil (in_bytes words)

-- ---- a word, byte by byte

next : {a b s : List ℕ} {i : ℕ} (k x : ℕ) → Wrote a i s b (i + k) → i + k < length a → Wrote a i (s ++ (x ∷ [])) (set b (i + k) x) (i + suc k)
next {a} {b} {s} {i} k x w h =
    let e : i + k + 1 ≡ i + suc k = omega arith in
    subst (λ m. Wrote a i (s ++ (x ∷ [])) (set b (i + k) x) m) e (then w (byte b (i + k) x (omega (arith, w.long))))

-- the first eight of some bytes, from a place on
abbrev pub with_eight : List ℕ → ℕ → List ℕ → List ℕ
with_eight l at bytes =
    set (set (set (set (set (set (set (set l
    at (get_or bytes 0 0))
    (at + 1) (get_or bytes 1 0))
    (at + 2) (get_or bytes 2 0))
    (at + 3) (get_or bytes 3 0))
    (at + 4) (get_or bytes 4 0))
    (at + 5) (get_or bytes 5 0))
    (at + 6) (get_or bytes 6 0))
    (at + 7) (get_or bytes 7 0)

put-eight : (l : List ℕ) (at w : ℕ) → at + 8 ≤ length l → Put l at (w ∷ []) (with_eight l at (bytes_of 8 w))
unfolding in_bytes bytes_of
put-eight l at w h =
    let a = byte l at (w % 256) (omega arith) in
    let b = next 1 (w / 256 % 256) a (omega arith) in
    let c = next 2 (w / 256 / 256 % 256) b (omega arith) in
    let d = next 3 (w / 256 / 256 / 256 % 256) c (omega arith) in
    let e = next 4 (w / 256 / 256 / 256 / 256 % 256) d (omega arith) in
    let f = next 5 (w / 256 / 256 / 256 / 256 / 256 % 256) e (omega arith) in
    let g = next 6 (w / 256 / 256 / 256 / 256 / 256 / 256 % 256) f (omega arith) in
    let r = next 7 (w / 256 / 256 / 256 / 256 / 256 / 256 / 256 % 256) g (omega arith) in
    record { holds = r.holds; long = r.long }

pub put-word : (l : List ℕ) (at w : ℕ) {bytes : List ℕ} → bytes ≡ to_le_bytes w64 w → at + 8 ≤ length l → Put l at (w ∷ []) (with_eight l at bytes)
put-word l at w e h = subst (λ bytes. Put l at (w ∷ []) (with_eight l at bytes)) (sym (e ∙ word-written w)) (put-eight l at w h)
