-- The eight bytes of a word, as the library reads and writes them.
use native.Mathlib.Nat.{add-suc, add-zero}
use lib.Seq.{drop-cons}
use Rattle.std.specs.Prelude.{◌≡◌, refl, List, [], ◌∷◌, ℕ, zero, suc, ◌+◌, ◌*◌, ◌/◌, ◌≤◌, ◌<◌, length, take, drop, get_or}
use Rattle.std.specs.Int.{w64, to_le_bytes, from_le_bytes}
use Rattle.std.proofs.Common.{ap, sym, arith, drop_of_length-le}
use Rattle.image.specs.Bytes.{bytes_of, from_bytes, word_at}

-- what the bytes from the k-th on come to
step : (bytes : List ℕ) (k : ℕ) → from_bytes (drop k bytes) ≡ get_or bytes k 0 + 256 * from_bytes (drop (suc k) bytes)
unfolding from_bytes
step [] zero = refl
step [] (suc k) = refl
step (b ∷ bytes) zero = refl
step (b ∷ bytes) (suc k) = step bytes k

pub word-read : (bytes : List ℕ) → length bytes ≡ 8 → from_le_bytes w64 bytes ≡ from_bytes bytes
unfolding from_bytes
word-read bytes l =
    let past : from_bytes (drop 8 bytes) ≡ 0 = ap from_bytes (drop_of_length-le bytes {i = 8} (omega arith)) in
    omega (arith, step bytes 0, step bytes 1, step bytes 2, step bytes 3, step bytes 4, step bytes 5, step bytes 6, step bytes 7, past)

-- the word at a place, taken byte by byte
module _ (s : List ℕ) (at : ℕ) where
  -- what the n bytes from the k-th on come to
  abbrev rest : ℕ → ℕ → ℕ
  rest n k = from_bytes (take n (drop (at + k) s))

  later : (n k : ℕ) → at + k < length s → rest (suc n) k ≡ get_or s (at + k) 0 + 256 * rest n (suc k)
  unfolding from_bytes
  later n k h = rw (drop-cons s (at + k) 0 h, add-suc at k)

  pub eight : at + 8 ≤ length s → from_le_bytes w64
      (get_or s at 0 ∷ get_or s (at + 1) 0 ∷ get_or s (at + 2) 0 ∷ get_or s (at + 3) 0 ∷ get_or s (at + 4) 0 ∷ get_or s (at + 5) 0 ∷ get_or s (at + 6) 0 ∷ get_or s (at + 7) 0 ∷ [])
      ≡ word_at at s
  unfolding word_at from_bytes
  eight r =
      let start : word_at at s ≡ rest 8 0 = ap (λ k. from_bytes (take 8 (drop k s))) (sym (add-zero at)) in
      let first : get_or s (at + 0) 0 ≡ get_or s at 0 = ap (λ k. get_or s k 0) (add-zero at) in
      let p0 = later 7 0 (omega arith) in
      let p1 = later 6 1 (omega arith) in
      let p2 = later 5 2 (omega arith) in
      let p3 = later 4 3 (omega arith) in
      let p4 = later 3 4 (omega arith) in
      let p5 = later 2 5 (omega arith) in
      let p6 = later 1 6 (omega arith) in
      let p7 = later 0 7 (omega arith) in
      let p8 : rest 0 8 ≡ 0 = refl in
      omega arith

pub word-written : (w : ℕ) → to_le_bytes w64 w ≡ bytes_of 8 w
unfolding bytes_of
word-written w =
    let b : w / 65536 ≡ w / 256 / 256 = omega arith in
    let c : w / 16777216 ≡ w / 65536 / 256 = omega arith in
    let d : w / 4294967296 ≡ w / 16777216 / 256 = omega arith in
    let e : w / 1099511627776 ≡ w / 4294967296 / 256 = omega arith in
    let f : w / 281474976710656 ≡ w / 1099511627776 / 256 = omega arith in
    let g : w / 72057594037927936 ≡ w / 281474976710656 / 256 = omega arith in
    rw (g, f, e, d, c, b) refl
