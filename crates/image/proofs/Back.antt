-- Words that a record is written in are read back as that record.
use mathlib.Core.Path.{◌≡◌, refl, ap, ap₂, subst, ◌∙◌}
use mathlib.Core.Bool.{Bool, true, false}
use mathlib.Core.List.{List, [], ◌∷◌, ◌++◌}
use Prim.Native.Nat.{ℕ, zero, suc, ◌+◌, ◌*◌, ◌^◌, ◌<◌}
use native.Mathlib.Omega.{arith}
use borrow.Author.Tests.{ltb-true, ltb-false}
use lib.Dec.{lit<, ltb}
use lib.IntN.{ℤ}
use lib.ListN.{length}
use Rattle.integers.specs.Differences.{at}
use Rattle.axis.specs.Formulas.{axis_with}
use Rattle.axis.specs.Kinds.{of_position, of_velocity}
use Rattle.session.specs.declared.Session.{Session}
use Rattle.session.specs.declared.State.{State}
use Rattle.session.specs.declared.State.TheVariants.{Closed, Settled, Awaiting, Starting}
use Rattle.session.specs.Coordinates.{Coordinate, on_x, on_y, on_z, axis_of}
use Rattle.session.proofs.Coordinates.{on-each}
use Rattle.image.specs.Layout.{signed_word, exact_words, motion_words, state_word, settings_words, axis_sums, sums_words, place_words, places_words, estimate_words, record_words}
use Rattle.image.specs.Reading.{signed_at, samples_at, axis_at, state_of, tolerances_at, session_in}
use Rattle.image.specs.Shapes.{Shaped, FitsWords}
use Rattle.image.specs.Contents.{of_settings, of_sums, of_samples, of_estimate}
use Rattle.image.proofs.Bodies.{length-places, body-said}
use Rattle.image.proofs.Said.{Say, first_said, later-said, said_at, nth-said, signed-said, exact-said, motion-said}

-- ---- words of x, y and z, as many of each

-- 0, 1, 2
abbrev number : Coordinate → ℕ
number on_x = 0
number on_y = 1
number on_z = 2

module _ {bytes : List ℕ} (start : ℕ) (words : Coordinate → List ℕ) (n : ℕ) (l : (k : Coordinate) → length (words k) ≡ n) where
  on-axis : Say bytes start (words on_x ++ (words on_y ++ words on_z)) → (k : Coordinate) → Say bytes (start + 8 * n * number k) (words k)
  on-axis h =
      let more = later-said (words on_x) (words on_y ++ words on_z) h n (l on_x) in
      on-each (λ k. Say bytes (start + 8 * n * number k) (words k))
      (said_at _ (omega arith) (first_said (words on_x) (words on_y ++ words on_z) h))
      (said_at _ (omega arith) (first_said (words on_y) (words on_z) more))
      (said_at _ (omega arith) (later-said (words on_y) (words on_z) more n (l on_y)))

-- ---- samples

place-said : (s : Session) {bytes : List ℕ} {start : ℕ} (n : ℕ) → Say bytes start (places_words n s) → (i : ℕ) → i < n → Say bytes (start + 24 * i) (place_words i s)
unfolding places_words
place-said s zero h i l = absurd (omega arith)
place-said s {bytes} {start} (suc n) h i l = by (place-said s n (first_said (places_words n s) (place_words n s) h) i) (ltb i n) refl
  where
    by : (i < n → Say bytes (start + 24 * i) (place_words i s)) → (b : Bool) → ltb i n ≡ b → Say bytes (start + 24 * i) (place_words i s)
    by f true e = f (ltb-true i n e)
    by f false e =
        let same : n ≡ i = omega (arith, ltb-false i n e) in
        subst (λ j. Say bytes (start + 24 * j) (place_words j s)) same
        (said_at _ (omega arith) (later-said (places_words n s) (place_words n s) h (3 * n) (length-places s n)))

samples-read : (bytes : List ℕ) (n start : ℕ) (xs : List ℤ) → length xs ≡ n
    → ((i : ℕ) → i < n → signed_at (start + 24 * i) bytes ≡ at xs i) → samples_at n start bytes ≡ xs
unfolding samples_at
samples-read bytes zero start [] l h = refl
samples-read bytes zero start (x ∷ xs) l h = absurd (omega arith)
samples-read bytes (suc n) start [] l h = absurd (omega arith)
samples-read bytes (suc n) start (x ∷ xs) l h =
    let first : start ≡ start + 24 * 0 = omega arith in
    let later : (i : ℕ) → i < n → signed_at (start + 24 + 24 * i) bytes ≡ at xs i = λ i b.
    let e : start + 24 + 24 * i ≡ start + 24 * suc i = omega arith in
    ap (λ k. signed_at k bytes) e ∙ h (suc i) (omega arith) in
    ap₂ (λ y ys. y ∷ ys) (ap (λ k. signed_at k bytes) first ∙ h 0 (omega arith)) (samples-read bytes n (start + 24) xs (omega arith) later)

-- ---- the state

state-fits : (k : State) → state_word k < 2 ^ 64
state-fits Closed = lit< tt
state-fits Settled = lit< tt
state-fits Awaiting = lit< tt
state-fits Starting = lit< tt

state-read : (k : State) → state_of (state_word k) ≡ k
unfolding state_of
state-read Closed = refl
state-read Settled = refl
state-read Awaiting = refl
state-read Starting = refl

-- ---- a record

module _ {bytes : List ℕ} (s : Session) (h : Say bytes 0 (record_words s)) (shaped : Shaped s) (fits : FitsWords s) where
  -- the i-th sample of an axis
  sample-read : (k : Coordinate) (i : ℕ) → i < 9 → signed_at (344 + 8 * number k + 24 * i) bytes ≡ at (axis_of k s).samples i
  unfolding place_words
  sample-read k i l =
      let place = place-said s 9 (body-said s h of_samples) i l in
      let word = on-axis (344 + 24 * i) (λ j. signed_word (at (axis_of j s).samples i) ∷ []) 1 (λ j. refl) place k in
      signed-said (said_at (344 + 8 * number k + 24 * i) (omega arith) word) ((fits.axes k).samples i)

  axis-read : (k : Coordinate) → axis_at (number k) bytes ≡ axis_of k s
  unfolding axis_at sums_words axis_sums estimate_words exact_words motion_words
  axis-read k =
      let a = axis_of k s in
      let f = fits.axes k in
      let sums = on-axis 152 (λ j. axis_sums (axis_of j s)) 8 (λ j. refl) (body-said s h of_sums) k in
      let more = later-said (exact_words a.first) (exact_words a.second ++ motion_words a.older) sums 2 refl in
      let last = later-said (exact_words a.second) (motion_words a.older) more 2 refl in
      let estimate = on-axis 560 (λ j. motion_words (axis_of j s).estimate) 4 (λ j. refl) (body-said s h of_estimate) k in
      λ i. axis_with
      (exact-said a.first (first_said (exact_words a.first) (exact_words a.second ++ motion_words a.older) sums) f.first i)
      (exact-said a.second (said_at (168 + 64 * number k) (omega arith) (first_said (exact_words a.second) (motion_words a.older) more)) f.second i)
      (motion-said a.older (said_at (184 + 64 * number k) (omega arith) last) f.older i)
      (samples-read bytes 9 (344 + 8 * number k) a.samples (shaped.places k) (sample-read k) i)
      (motion-said a.estimate estimate f.estimate i)

  pub session-read : session_in bytes ≡ s
  unfolding session_in tolerances_at settings_words
  session-read =
      let w = nth-said (settings_words s) (body-said s h of_settings) in
      λ i. record {
        state = (ap state_of (w 0 (lit< tt) (state-fits s.state)) ∙ state-read s.state) i;
        points = w 1 (lit< tt) fits.points i;
        tolerances = record { position = w 2 (lit< tt) (fits.tolerances of_position) i; velocity = w 3 (lit< tt) (fits.tolerances of_velocity) i };
        limit = w 4 (lit< tt) fits.limit i;
        accepted = w 5 (lit< tt) fits.accepted i;
        corrections = w 6 (lit< tt) fits.corrections i;
        x = axis-read on_x i;
        y = axis-read on_y i;
        z = axis-read on_z i;
      }
