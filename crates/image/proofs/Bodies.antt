-- Where the table of contents and the bodies of a record stand, and that the table says so.
use mathlib.Core.Path.{◌≡◌, refl, ap₂, ◌∙◌}
use mathlib.Core.List.{List, ◌++◌}
use Prim.Native.Nat.{ℕ, zero, suc, ◌+◌, ◌*◌, ◌<◌, ◌^◌}
use native.Mathlib.Omega.{arith}
use lib.Dec.{lit<}
use lib.ListN.{length, take, drop, length-append, get_or}
use Rattle.session.specs.declared.Session.{Session}
use Rattle.image.specs.Bytes.{word_at}
use Rattle.image.specs.Layout.{exact_words, motion_words, settings_words, axis_sums, sums_words, place_words, places_words, samples_words, estimate_words, contents, image_length, record_words}
use Rattle.image.specs.Contents.{Body, of_settings, of_sums, of_samples, of_estimate, body_words, kind_of, kind_in, offset_in, length_in, PointsAt, NoGap}
use Rattle.image.proofs.Said.{Say, first_said, later-said, taken-said, nth-said}

-- ---- how many words each has

abbrev words_in : Body → ℕ
words_in of_settings = 7
words_in of_sums = 24
words_in of_samples = 27
words_in of_estimate = 12

module _ (s : Session) where
  pub length-places : (n : ℕ) → length (places_words n s) ≡ 3 * n
  unfolding places_words place_words
  length-places zero = refl
  length-places (suc n) = omega (arith, length-append (places_words n s) (place_words n s), length-places n)

  length-body : (b : Body) → length (body_words b s) ≡ words_in b
  unfolding settings_words sums_words axis_sums estimate_words exact_words motion_words
  length-body of_settings = refl
  length-body of_sums = refl
  length-body of_samples = length-places 9
  length-body of_estimate = refl

  pub length-record : length (record_words s) ≡ 82
  unfolding record_words contents settings_words sums_words axis_sums estimate_words exact_words motion_words places_words place_words
  length-record = refl

-- ---- where each stands

-- from the image's start, in bytes
abbrev pub place_of : Body → ℕ
place_of of_settings = 96
place_of of_sums = 152
place_of of_samples = 344
place_of of_estimate = 560

module _ {bytes : List ℕ} (s : Session) (h : Say bytes 0 (record_words s)) where
  pub table-said : Say bytes 0 contents
  unfolding record_words
  table-said = first_said contents _ h

  from-settings : Say bytes 96 (settings_words s ++ (sums_words s ++ (samples_words s ++ estimate_words s)))
  unfolding record_words contents
  from-settings = later-said contents _ h 12 refl

  from-sums : Say bytes 152 (sums_words s ++ (samples_words s ++ estimate_words s))
  from-sums = later-said (settings_words s) _ from-settings 7 (length-body s of_settings)

  from-samples : Say bytes 344 (samples_words s ++ estimate_words s)
  from-samples = later-said (sums_words s) _ from-sums 24 (length-body s of_sums)

  pub body-said : (b : Body) → Say bytes (place_of b) (body_words b s)
  body-said of_settings = first_said (settings_words s) _ from-settings
  body-said of_sums = first_said (sums_words s) _ from-sums
  body-said of_samples = first_said (samples_words s) (estimate_words s) from-samples
  body-said of_estimate = later-said (samples_words s) (estimate_words s) from-samples 27 (length-body s of_samples)

  -- ---- what the table says

  entry : (b : Body) → (kind_in bytes b ≡ kind_of b) × ((offset_in bytes b ≡ place_of b) × (length_in bytes b ≡ 8 * words_in b))
  unfolding contents
  entry b = by b
    where
      word : (i : ℕ) → i < 12 → get_or contents i 0 < 2 ^ 64 → word_at (0 + 8 * i) bytes ≡ get_or contents i 0
      word = nth-said contents table-said

      by : (b : Body) → (kind_in bytes b ≡ kind_of b) × ((offset_in bytes b ≡ place_of b) × (length_in bytes b ≡ 8 * words_in b))
      by of_settings = (word 0 (lit< tt) (lit< tt), (word 1 (lit< tt) (lit< tt), word 2 (lit< tt) (lit< tt)))
      by of_sums = (word 3 (lit< tt) (lit< tt), (word 4 (lit< tt) (lit< tt), word 5 (lit< tt) (lit< tt)))
      by of_samples = (word 6 (lit< tt) (lit< tt), (word 7 (lit< tt) (lit< tt), word 8 (lit< tt) (lit< tt)))
      by of_estimate = (word 9 (lit< tt) (lit< tt), (word 10 (lit< tt) (lit< tt), word 11 (lit< tt) (lit< tt)))

  pub points-at : (b : Body) → PointsAt bytes s b
  points-at b =
      let (k, (o, l)) = entry b in
      record { kind = k; body = ap₂ (λ n m. take n (drop m bytes)) l o ∙ taken-said (body_words b s) (words_in b) (length-body s b) (body-said b) }

  pub no_gap : length bytes ≡ image_length → NoGap bytes
  no_gap l =
      record {
        settings = (entry of_settings).1.0;
        sums = omega (arith, (entry of_settings).1, (entry of_sums).1.0);
        samples = omega (arith, (entry of_sums).1, (entry of_samples).1.0);
        estimate = omega (arith, (entry of_samples).1, (entry of_estimate).1.0);
        end = omega (arith, (entry of_estimate).1, l);
      }
