-- How many words the parts of a saved session are.
use Rattle.std.specs.Prelude.{◌≡◌, refl, ℕ, zero, suc, ◌*◌, length}
use Rattle.std.proofs.Common.{arith, length-append}
use Rattle.exact.specs.declared.Exact.{Exact}
use Rattle.axis.specs.declared.Motion.{Motion}
use Rattle.axis.specs.declared.Axis.{Axis}
use Rattle.session.specs.declared.Session.{Session}
use Rattle.image.proofs.WordLaws.{length-in_bytes}
use Rattle.image.specs.Layout.{exact_words, motion_words, settings_words, axis_sums, sums_words, place_words, places_words, estimate_words, contents, record_words, image_length, record_bytes}

pub length-exact_words : (e : Exact) → length (exact_words e) ≡ 2
unfolding exact_words
length-exact_words e = refl

pub length-motion_words : (m : Motion) → length (motion_words m) ≡ 4
unfolding motion_words
length-motion_words m = omega (arith, length-append (exact_words m.position) (exact_words m.velocity), length-exact_words m.position, length-exact_words m.velocity)

pub length-contents : length contents ≡ 12
unfolding contents
length-contents = refl

pub length-settings_words : (s : Session) → length (settings_words s) ≡ 7
unfolding settings_words
length-settings_words s = refl

pub length-axis_sums : (a : Axis) → length (axis_sums a) ≡ 8
unfolding axis_sums
length-axis_sums a =
    simp (length-append, length-exact_words, length-motion_words)

pub length-sums_words : (s : Session) → length (sums_words s) ≡ 24
unfolding sums_words
length-sums_words s = simp (length-append, length-axis_sums)

pub length-place_words : (i : ℕ) (s : Session) → length (place_words i s) ≡ 3
unfolding place_words
length-place_words i s = refl

pub length-places_words : (n : ℕ) (s : Session) → length (places_words n s) ≡ 3 * n
unfolding places_words
length-places_words zero s = refl
length-places_words (suc n) s = omega (arith, length-append (places_words n s) (place_words n s), length-places_words n s, length-place_words n s)

pub length-estimate_words : (s : Session) → length (estimate_words s) ≡ 12
unfolding estimate_words
length-estimate_words s = simp (length-append, length-motion_words)

pub length-record_words : (s : Session) → length (record_words s) ≡ 82
unfolding record_words
length-record_words s =
    simp (length-append, length-contents, length-settings_words, length-sums_words, length-places_words, length-estimate_words)

pub length-record_bytes : (s : Session) → length (record_bytes s) ≡ image_length
unfolding record_bytes
length-record_bytes s = omega (arith, length-in_bytes (record_words s), length-record_words s)
