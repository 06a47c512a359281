-- A data line and the point that it says: a line that can be read is that point's line, and the line of a point is read as that point.
use mathlib.Core.Path.{◌≡◌, refl, sym, ◌∙◌, ap, subst}
use mathlib.Core.Bool.{Bool, true, false, cond}
use mathlib.Core.List.{List, [], ◌∷◌, ◌++◌, flatten, append_assoc}
use Prim.Native.Nat.{ℕ, zero, suc, ◌+◌, ◌-◌, ◌^◌, ◌≤◌, ◌<◌}
use native.Mathlib.Nat.{add-zero}
use native.Mathlib.Numerals.{add-one}
use native.Mathlib.Omega.{arith}
use lib.Dec.{eqb, ltb}
use lib.IntN.{ℤ, pos, negsuc, nat_abs}
use lib.ListN.{length, take, drop, get_or, length-append, length-take, take-append-drop, get_or-append, get_or-eq_default}
use lib.Seq.{drop-drop, drop-cons, drop_at, get_or_at, get_or-drop, ext_get_or}
use mir.Syntax.{w64}
use mir.Val.{SFits}
use borrow.Author.Tests.{ltb-true, ltb-false, eqb-true}
use Rattle.integers.specs.Parts.{integers}
use Rattle.integers.specs.Tests.{joined}
use Rattle.text.specs.Numbers.{ascii}
use Rattle.text.specs.Places.{Stands}
use Rattle.std.specs.Prelude.{Option, Some, None, is_some, unwrap_or}
use Rattle.calendar.specs.Calendar.{most_seconds, moment_of}
use Rattle.calendar.specs.Text.{time_in}
use Rattle.calendar.proofs.Back.{same_true, text-long, time-exactly}
use Rattle.decimal.specs.Text.{fixed_text, few_digits}
use Rattle.decimal.proofs.Digits.{few-digits}
use Rattle.decimal.specs.Reading.{fixed_at}
use Rattle.decimal.proofs.Back.{fixed-only}
use Rattle.message.specs.Message.{time_after, texts}
use Rattle.received.specs.Data.{decimals_of, field_of, data_line, line_of, field_by, field_at, field_start, value_in, first_ones, datum_in, point_in, value_of, end_of}
use Rattle.received.specs.Messages.{IsPoint}

-- ---- texts at places

pub stands_of : (s : List ℕ) (at : ℕ) (word more : List ℕ) → drop at s ≡ word ++ more → Stands s at word (at + length word)
stands_of s at word more e =
    let r : more ≡ drop (at + length word) s =
    sym (sym (drop-drop (length word) at s) ∙ ap (drop (length word)) e ∙ drop_at word more (length word) refl) in
    record { ends = refl; holds = e ∙ ap (λ t. word ++ t) r }

together : {s : List ℕ} {at mid end : ℕ} (a b : List ℕ) → Stands s at a mid → Stands s mid b end → Stands s at (a ++ b) end
together {s} {at} {mid} {end} a b p q =
    record {
      ends = omega (arith, p.ends, q.ends, length-append a b);
      holds = p.holds ∙ ap (λ r. a ++ r) q.holds ∙ sym (append_assoc a b (drop end s));
    }

inside : (s : List ℕ) (at : ℕ) → get_or s at 0 ≡ 32 → at < length s
inside s at e = by (ltb at (length s)) refl
  where
    by : (t : Bool) → ltb at (length s) ≡ t → at < length s
    by true t = ltb-true at (length s) t
    by false t = absurd (omega (arith, e, get_or-eq_default s 0 {n = at} (ltb-false at (length s) t)))

space-first : (s : List ℕ) (at : ℕ) {word : List ℕ} {end : ℕ} → get_or s at 0 ≡ 32 → Stands s (at + 1) word end → Stands s at (32 ∷ word) end
space-first s at e p =
    record {
      ends = omega (arith, p.ends);
      holds = drop-cons s at 0 (inside s at e) ∙ rw (e, ← (add-one at)) (ap (λ t. 32 ∷ t) p.holds);
    }

pub behind-space : (s : List ℕ) (at : ℕ) {word : List ℕ} {end : ℕ} → Stands s at (32 ∷ word) end → Stands s (at + 1) word end
behind-space s at p = record { ends = omega (arith, p.ends); holds = sym (drop-drop 1 at s) ∙ ap (drop 1) p.holds }

pub has-space : (s : List ℕ) (at : ℕ) {word : List ℕ} {end : ℕ} → Stands s at (32 ∷ word) end → get_or s at 0 ≡ 32
has-space s at p = sym (get_or-drop at s 0 0 ∙ ap (λ i. get_or s i 0) (add-zero at)) ∙ ap (λ t. get_or t 0 0) p.holds

-- ---- the first ones of a row

pub length-ones : (f : ℕ → ℤ) (n : ℕ) → length (first_ones f n) ≡ n
unfolding first_ones
length-ones f zero = refl
length-ones f (suc n) = length-append (first_ones f n) (f n ∷ []) ∙ omega (arith, length-ones f n)

get_d-ones : (f : ℕ → ℤ) (n k : ℕ) → k < n → get_or (first_ones f n) k (pos 0) ≡ f k
unfolding first_ones
get_d-ones f zero k h = absurd (omega arith)
get_d-ones f (suc n) k h = by (ltb k n) refl (get_d-ones f n k)
  where
    by : (t : Bool) → ltb k n ≡ t → (k < n → get_or (first_ones f n) k (pos 0) ≡ f k) → get_or (first_ones f n ++ (f n ∷ [])) k (pos 0) ≡ f k
    by true t ih =
        let l = ltb-true k n t in
        get_or-append (first_ones f n) (f n ∷ []) (pos 0) k (omega (arith, length-ones f n)) ∙ ih l
    by false t ih =
        let e : n ≡ k = omega (arith, ltb-false k n t) in
        get_or_at (first_ones f n) (f n) [] (pos 0) k (length-ones f n ∙ e) ∙ ap f e

-- a row is its own first ones
pub ones-back : (f : ℕ → ℤ) (values : List ℤ) (n : ℕ) → length values ≡ n → ((k : ℕ) → k < n → f k ≡ get_or values k (pos 0)) → first_ones f n ≡ values
ones-back f values n l e =
    ext_get_or (pos 0) (first_ones f n) values (length-ones f n ∙ sym l)
    (λ k h. let b : k < n = omega (arith, h, length-ones f n) in get_d-ones f n k b ∙ e k b)

-- ---- one field

record There (decimals : ℕ) (line : List ℕ) (at : ℕ) (f : Option (ℤ × ℕ)) : Type 0 where
  standing : Stands line at (32 ∷ fixed_text decimals (value_of f)) (end_of f)
  few : few_digits decimals (value_of f) ≡ true
  fits : SFits w64 (value_of f)

module _ (decimals : ℕ) (line : List ℕ) (at : ℕ) (space : get_or line at 0 ≡ 32) where
  by_digits : (v : ℤ) (end : ℕ) → fixed_at decimals line (at + 1) ≡ Some (v, end) → (t : Bool) → few_digits decimals v ≡ t
      → (end_of (cond t (Some (v, end)) None) ≡ 0 → ⊥) → There decimals line at (cond t (Some (v, end)) None)
  by_digits v end q true t n =
      let (p, f) = fixed-only decimals line (at + 1) v end q in record { standing = space-first line at space p; few = t; fits = f }
  by_digits v end q false t n = absurd (n refl)

  by_number : (u : Option (ℤ × ℕ)) → fixed_at decimals line (at + 1) ≡ u → (end_of (field_by decimals u) ≡ 0 → ⊥) → There decimals line at (field_by decimals u)
  unfolding field_by
  by_number (Some (v, end)) q n = by_digits v end q (few_digits decimals v) refl n
  by_number None q n = absurd (n refl)

by-space : (decimals : ℕ) (line : List ℕ) (at : ℕ) (t : Bool) → eqb (get_or line at 0) 32 ≡ t
    → (end_of (cond t (field_by decimals (fixed_at decimals line (at + 1))) None) ≡ 0 → ⊥)
    → There decimals line at (cond t (field_by decimals (fixed_at decimals line (at + 1))) None)
by-space decimals line at true t n = by_number decimals line at (eqb-true (get_or line at 0) 32 t) (fixed_at decimals line (at + 1)) refl n
by-space decimals line at false t n = absurd (n refl)

field-there : (decimals : ℕ) (line : List ℕ) (at : ℕ) → (end_of (field_at decimals line at) ≡ 0 → ⊥) → There decimals line at (field_at decimals line at)
unfolding field_at
field-there decimals line zero n = absurd (n refl)
field-there decimals line (suc k) n = by-space decimals line (suc k) (eqb (get_or line (suc k) 0) 32) refl n

-- ---- six fields

module _ (line : List ℕ) where
  zero-next : (k : ℕ) → field_start line k ≡ 0 → field_start line (suc k) ≡ 0
  unfolding field_start field_at
  zero-next k e = ap (λ at. end_of (field_at (decimals_of k) line at)) e

  zero-later : (j k : ℕ) → k + j ≡ 6 → field_start line k ≡ 0 → field_start line 6 ≡ 0
  zero-later zero k e z = subst (λ m. field_start line m ≡ 0) (sym (add-zero k) ∙ e) z
  zero-later (suc j) k e z = zero-later j (suc k) (omega arith) (zero-next k z)

  module _ (n : field_start line 6 ≡ 0 → ⊥) where
    abbrev values : List ℤ
    values = first_ones (value_in line) 6

    there-at : (k : ℕ) → k < 6 → There (decimals_of k) line (field_start line k) (field_at (decimals_of k) line (field_start line k))
    unfolding field_start
    there-at k h = field-there (decimals_of k) line (field_start line k) (λ z. n (zero-later (5 - k) (suc k) (omega arith) z))

    field-stands : (k : ℕ) → k < 6 → Stands line (field_start line k) (field_of values k) (field_start line (suc k))
    unfolding field_start field_of value_in ascii
    field-stands k h =
        subst (λ v. Stands line (field_start line k) (32 ∷ fixed_text (decimals_of k) v) (end_of (field_at (decimals_of k) line (field_start line k))))
        (sym (get_d-ones (value_in line) 6 k h)) (there-at k h).standing

    fields-stand : (k : ℕ) → k ≤ 6 → Stands line 19 (texts (field_of values) k) (field_start line k)
    unfolding field_start texts
    fields-stand zero h = record { ends = refl; holds = refl }
    fields-stand (suc k) h = together (texts (field_of values) k) (field_of values k) (fields-stand k (omega arith)) (field-stands k (omega arith))

    small : (k : ℕ) → k < 6 → nat_abs (value_in line k) < 10 ^ 16
    unfolding value_in
    small k h =
        let t = there-at k h in
        ltb-true (nat_abs (value_in line k)) (10 ^ 16) (sym (few-digits (decimals_of k) (value_in line k) (places (ltb k 3)) (bounded (value_in line k) t.fits)) ∙ t.few)
      where
        places : (t : Bool) → cond t 6 9 ≤ 15
        places true = omega arith
        places false = omega arith

        bounded : (v : ℤ) → SFits w64 v → nat_abs v < 2 ^ 64
        bounded (pos m) f = omega integers
        bounded (negsuc m) f = omega integers

-- ---- a line that can be read is the line of its point

module _ (line : List ℕ) (s : ℕ) (t : time_in (take 19 line) ≡ Some s) (q : drop (field_start line 6) line ≡ 10 ∷ []) where
  timed : (s ≤ most_seconds) × (take 19 line ≡ time_after s)
  timed = (time-exactly (take 19 line) s).0 t

  pub not-zero : field_start line 6 ≡ 0 → ⊥
  not-zero z =
      let one : line ≡ 10 ∷ [] = sym (ap (λ i. drop i line) z) ∙ q in
      omega (arith, ap length one, length-take 19 line, ap length timed.1, text-long (moment_of s))

  line-back : line ≡ data_line s (first_ones (value_in line) 6)
  unfolding data_line flatten ascii
  line-back =
      let f = fields-stand line not-zero 6 (omega arith) in
      sym (take-append-drop 19 line)
      ∙ ap (λ r. r ++ drop 19 line) timed.1
      ∙ ap (λ r. time_after s ++ r) (f.holds ∙ ap (λ r. texts (field_of (first_ones (value_in line) 6)) 6 ++ r) q)

  point-back : IsPoint (record { seconds = s; values = first_ones (value_in line) 6 })
  unfolding first_ones
  point-back =
      let d = small line not-zero in
      record {
        in_time = timed.0;
        six = refl;
        digits = (d 0 (omega arith), (d 1 (omega arith), (d 2 (omega arith), (d 3 (omega arith), (d 4 (omega arith), (d 5 (omega arith), tt))))));
      }

pub record SoundLine (line : List ℕ) : Type 0 where
  pub line-is : line ≡ line_of (point_in line)
  pub point-is : IsPoint (point_in line)

pub datum-sound : (line : List ℕ) → (datum_in line).good ≡ true → SoundLine line
unfolding datum_in ascii
datum-sound line g =
    let (p, q) = simp joined at g in
    by (time_in (take 19 line)) refl p (same_true (drop (field_start line 6) line) (ascii "\n") q)
  where
    told : (s : ℕ) → time_in (take 19 line) ≡ Some s → drop (field_start line 6) line ≡ ascii "\n" → SoundLine line
    told s t q =
        let e : unwrap_or (time_in (take 19 line)) 0 ≡ s = ap (λ o. unwrap_or o 0) t in
        record {
          line-is = subst (λ n. line ≡ data_line n (first_ones (value_in line) 6)) (sym e) (line-back line s t q);
          point-is = subst (λ n. IsPoint (record { seconds = n; values = first_ones (value_in line) 6 })) (sym e) (point-back line s t q);
        }

    by : (r : Option ℕ) → time_in (take 19 line) ≡ r → is_some r ≡ true → drop (field_start line 6) line ≡ ascii "\n" → SoundLine line
    by (Some s) t p q = told s t q
    by None t p q = absurd (let z : ◌≡◌ {A = ℕ} 0 1 = cc in omega arith)
