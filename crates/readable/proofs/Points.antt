-- A line is a data line exactly where it is the line of a point, and that is the point that it says.
use mathlib.Core.Path.{◌≡◌, refl, sym, ◌∙◌, ap, ap₂}
use mathlib.Core.Bool.{Bool, true, false}
use mathlib.Core.List.{List, [], ◌∷◌, ◌++◌, flatten, append_assoc, append-nil}
use Prim.Native.Nat.{ℕ, zero, suc, ◌+◌, ◌^◌, ◌<◌, ◌≤◌}
use native.Mathlib.Omega.{arith}
use lib.Dec.{eqb}
use lib.IntN.{ℤ, pos, nat_abs}
use lib.ListN.{length, take, drop, get_or, length-append, take-append-drop, get_or-append}
use lib.Seq.{drop-drop, take_at, drop_at, drop-append_seam, get_or_at, ext_get_or}
use borrow.Author.Tests.{eqb-true, eqb-false}
use Rattle.integers.specs.Tests.{joined}
use Rattle.text.specs.Numbers.{ascii}
use Rattle.text.specs.Places.{Stands}
use Rattle.std.specs.Prelude.{Option, Some, None, is_some, unwrap_or}
use Rattle.calendar.specs.Calendar.{moment_of, most_seconds}
use Rattle.calendar.specs.Text.{same_text, time_in}
use Rattle.calendar.proofs.Back.{same_true, same_refl, text-long, time-exactly}
use Rattle.message.specs.Request.{seconds_in}
use Rattle.message.specs.Message.{time_after, texts}
use Rattle.message.specs.Refusals.{is_time}
use Rattle.received.specs.Data.{Point, decimals_of, field_of, data_line, line_of, field_at, field_start, value_in, first_ones, datum_in, point_in, value_of, end_of}
use Rattle.received.specs.Messages.{Every, IsPoint}
use Rattle.readable.proofs.Fields.{few-decimals, field-read, shown, Shown, fields-shown}

-- ---- times

time-some : (r : Option ℕ) → is_some r ≡ true → r ≡ Some (unwrap_or r 0)
time-some (Some n) h = refl
time-some None h = absurd (let z : ◌≡◌ {A = ℕ} 0 1 = cc in omega arith)

-- a text that is a time
pub time-told : (s : List ℕ) → is_time s ≡ true → (seconds_in s ≤ most_seconds) × (s ≡ time_after (seconds_in s))
unfolding is_time seconds_in
time-told s h = (time-exactly s (unwrap_or (time_in s) 0)).0 (time-some (time_in s) h)

-- the text of a time
pub time-held : (n : ℕ) → n ≤ most_seconds → (is_time (time_after n) ≡ true) × (seconds_in (time_after n) ≡ n)
unfolding is_time seconds_in
time-held n h = let e = (time-exactly (time_after n) n).1 (h, refl) in (ap is_some e, ap (λ o. unwrap_or o 0) e)

-- ---- the first of some values

module _ {A : Type 0} (P : A → Type 0) where
  pub every-at : (xs : List A) (k : ℕ) (d : A) → Every P xs → k < length xs → P (get_or xs k d)
  every-at [] k d h l = absurd (omega arith)
  every-at (x ∷ xs) zero d h l = h.0
  every-at (x ∷ xs) (suc k) d h l = every-at xs k d h.1 (omega arith)

module _ (f : ℕ → ℤ) where
  pub length-first : (n : ℕ) → length (first_ones f n) ≡ n
  unfolding first_ones
  length-first zero = refl
  length-first (suc n) = omega (arith, length-append (first_ones f n) (f n ∷ []), length-first n)

  first_by : (n k : ℕ) (t : Bool) → eqb k n ≡ t → (k < n → get_or (first_ones f n) k (pos 0) ≡ f k) → k < suc n
      → get_or (first_ones f n ++ (f n ∷ [])) k (pos 0) ≡ f k
  first_by n k true t ih l =
      let e = eqb-true k n t in
      get_or_at (first_ones f n) (f n) [] (pos 0) k (length-first n ∙ sym e) ∙ ap f (sym e)
  first_by n k false t ih l =
      let m : k < n = omega (arith, eqb-false k n t) in
      get_or-append (first_ones f n) (f n ∷ []) (pos 0) k (omega (arith, length-first n)) ∙ ih m

  pub get_d-first : (n k : ℕ) → k < n → get_or (first_ones f n) k (pos 0) ≡ f k
  unfolding first_ones
  get_d-first zero k l = absurd (omega arith)
  get_d-first (suc n) k l = first_by n k (eqb k n) refl (λ m. get_d-first n k m) l

  pub first-all : (xs : List ℤ) (n : ℕ) → length xs ≡ n → ((k : ℕ) → k < n → f k ≡ get_or xs k (pos 0)) → first_ones f n ≡ xs
  first-all xs n l h =
      ext_get_or (pos 0) (first_ones f n) xs (length-first n ∙ sym l)
      (λ k m. let i : k < n = omega (arith, length-first n) in get_d-first n k i ∙ h k i)

-- ---- a data line is the line of its point

module _ (line : List ℕ) where
  too_short : take 19 line ≡ time_after (seconds_in (take 19 line)) → line ≡ ascii "\n" → ⊥
  unfolding ascii
  too_short s e = omega (arith, ap length s, text-long (moment_of (seconds_in (take 19 line))), ap (λ x. length (take 19 x)) e)

  all_shown : is_time (take 19 line) ≡ true → drop (field_start line 6) line ≡ ascii "\n" → Shown line 6
  all_shown t e = fields-shown line 6 (λ z. too_short (time-told (take 19 line) t).1 (sym (ap (λ k. drop k line) z) ∙ e))

  pub data-line : (datum_in line).good ≡ true → (line ≡ line_of (point_in line)) × IsPoint (point_in line)
  unfolding datum_in is_time seconds_in data_line field_of texts first_ones flatten
  data-line h =
      let (t, q) = simp joined at h in
      let e = same_true (drop (field_start line 6) line) (ascii "\n") q in
      let s = all_shown t e in
      let (late, time) = time-told (take 19 line) t in (
        sym (take-append-drop 19 line)
            ∙ ap₂ (λ x y. x ++ y) time (s.stands.holds ∙ ap (λ r. texts (shown line) 6 ++ r) (e ∙ sym (append-nil (ascii "\n")))),
        record {
          in_time = late;
          six = refl;
          digits = (s.few 0 (omega arith), (s.few 1 (omega arith), (s.few 2 (omega arith), (s.few 3 (omega arith), (s.few 4 (omega arith), (s.few 5 (omega arith), tt))))));
        },
      )

-- ---- the line of a point is a data line

module _ (f : ℕ → List ℕ) where
  parted-by : (n k : ℕ) (t : Bool) → eqb k (suc n) ≡ t → (k ≤ n → (rest : List ℕ) × (texts f n ≡ texts f k ++ rest)) → k ≤ suc n
      → (rest : List ℕ) × (texts f (suc n) ≡ texts f k ++ rest)
  unfolding texts
  parted-by n k true t ih l = ([], ap (texts f) (sym (eqb-true k (suc n) t)) ∙ sym (append-nil (texts f k)))
  parted-by n k false t ih l =
      let (rest, e) = ih (omega (arith, eqb-false k (suc n) t)) in
      (rest ++ f n, ap (λ x. x ++ f n) e ∙ append_assoc (texts f k) rest (f n))

  -- the first k of n texts, and the others
  parted : (n k : ℕ) → k ≤ n → (rest : List ℕ) × (texts f n ≡ texts f k ++ rest)
  unfolding texts
  parted zero zero l = ([], refl)
  parted zero (suc k) l = absurd (omega arith)
  parted (suc n) k l = parted-by n k (eqb k (suc n)) refl (λ m. parted n k m) l

-- a line begins with its time
pub time-first : (p : Point) → take 19 (line_of p) ≡ time_after p.seconds
unfolding data_line flatten
time-first p = take_at (time_after p.seconds) (texts (field_of p.values) 6 ++ (ascii "\n" ++ [])) 19 (text-long (moment_of p.seconds))

module _ (p : Point) (h : IsPoint p) where
  abbrev f : ℕ → List ℕ
  f = field_of p.values

  abbrev line : List ℕ
  line = line_of p

  abbrev end : List ℕ
  end = ascii "\n" ++ []

  body : drop 19 line ≡ texts f 6 ++ end
  unfolding data_line flatten
  body = drop_at (time_after p.seconds) (texts f 6 ++ end) 19 (text-long (moment_of p.seconds))

  stands_at : (k : ℕ) → k < 6 → Stands line (19 + length (texts f k)) (f k) (19 + length (texts f (suc k)))
  unfolding texts
  stands_at k l =
      let (rest, e) = parted f 6 (suc k) l in
      let whole : drop 19 line ≡ texts f k ++ (f k ++ (rest ++ end)) =
      body ∙ ap (λ x. x ++ end) e ∙ append_assoc (texts f k ++ f k) rest end ∙ append_assoc (texts f k) (f k) (rest ++ end) in
      let later : drop (19 + length (texts f (suc k))) line ≡ rest ++ end =
      sym (drop-drop (length (texts f (suc k))) 19 line)
      ∙ ap (drop (length (texts f (suc k)))) (whole ∙ sym (append_assoc (texts f k) (f k) (rest ++ end)))
      ∙ drop-append_seam (texts f (suc k)) (rest ++ end) in
      record {
        ends = omega (arith, length-append (texts f k) (f k));
        holds =
            sym (drop-drop (length (texts f k)) 19 line)
            ∙ ap (drop (length (texts f k))) whole
            ∙ drop-append_seam (texts f k) (f k ++ (rest ++ end))
            ∙ ap (λ x. f k ++ x) (sym later);
      }

  one-read : (k : ℕ) → k < 6
      → field_at (decimals_of k) line (19 + length (texts f k)) ≡ Some (get_or p.values k (pos 0), 19 + length (texts f (suc k)))
  unfolding field_of ascii
  one-read k l =
      field-read (decimals_of k) (few-decimals k) line (19 + length (texts f k))
      (get_or p.values k (pos 0)) (19 + length (texts f (suc k)))
      (λ z. omega (arith, z))
      (record { stands = stands_at k l; few = every-at (λ n. nat_abs n < 10 ^ 16) p.values k (pos 0) h.digits (omega (arith, h.six)) })

  read-to : (k : ℕ) → k ≤ 6 → field_start line k ≡ 19 + length (texts f k)
  unfolding field_start texts
  read-to zero l = refl
  read-to (suc k) l =
      ap (λ at. end_of (field_at (decimals_of k) line at)) (read-to k (omega arith)) ∙ ap end_of (one-read k (omega arith))

  value_read : (k : ℕ) → k < 6 → value_in line k ≡ get_or p.values k (pos 0)
  unfolding value_in
  value_read k l = ap (λ at. value_of (field_at (decimals_of k) line at)) (read-to k (omega arith)) ∙ ap value_of (one-read k l)

  all_read : drop (field_start line 6) line ≡ end
  all_read =
      ap (λ at. drop at line) (read-to 6 (omega arith))
      ∙ sym (drop-drop (length (texts f 6)) 19 line)
      ∙ ap (drop (length (texts f 6))) body
      ∙ drop-append_seam (texts f 6) end

  pub line_read : ((datum_in (line_of p)).good ≡ true) × (point_in (line_of p) ≡ p)
  unfolding datum_in is_time seconds_in ascii
  line_read =
      let (t, s) = time-held p.seconds h.in_time in (
        simp joined (ap is_time (time-first p) ∙ t, ap (λ x. same_text x (10 ∷ [])) all_read ∙ same_refl (10 ∷ [])),
        λ i. record { seconds = (ap seconds_in (time-first p) ∙ s) i; values = first-all (value_in line) p.values 6 h.six value_read i },
      )
