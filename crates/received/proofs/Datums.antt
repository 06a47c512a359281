-- A data line that cannot be read, by what is wrong with it; and one that can.
use mathlib.Core.Path.{◌≡◌, refl, sym, ap}
use mathlib.Core.Bool.{true, false}
use mathlib.Core.List.{List}
use Prim.Native.Nat.{ℕ, ◌<◌}
use native.Mathlib.Omega.{arith}
use lib.IntN.{ℤ}
use lib.ListN.{length, take, drop, length-take}
use Rattle.std.specs.Prelude.{Option, Some, None, is_some, unwrap_or}
use Rattle.integers.specs.Tests.{◌and◌, joined, clash, fails}
use Rattle.text.specs.Numbers.{ascii}
use Rattle.calendar.specs.Calendar.{moment_of}
use Rattle.calendar.specs.Text.{same_text, time_in}
use Rattle.calendar.proofs.Back.{same_true, text-long, time-exactly}
use Rattle.received.specs.Data.{field_start, value_in, first_ones, datum_in, IsDatum}
use Rattle.received.proofs.Points.{not-zero}

module _ (line : List ℕ) where
  pub untimed : None ≡ time_in (take 19 line) → (datum_in line).good ≡ false
  unfolding datum_in
  untimed n = ap (λ o. is_some o and same_text (drop (field_start line 6) line) (ascii "\n")) (sym n)

  pub short : length line < 19 → (datum_in line).good ≡ false
  short h = untimed (sym (by (time_in (take 19 line)) refl))
    where
      by : (o : Option ℕ) → time_in (take 19 line) ≡ o → time_in (take 19 line) ≡ None
      by None t = t
      by (Some s) t = absurd (omega (arith, h, length-take 19 line, ap length ((time-exactly (take 19 line) s).0 t).1, text-long (moment_of s)))

  pub fieldless : {s : ℕ} → time_in (take 19 line) ≡ Some s → field_start line 6 ≡ 0 → (datum_in line).good ≡ false
  unfolding datum_in ascii
  fieldless {s} t z =
      fails (datum_in line).good
      (λ g. let (p, q) = simp joined at g in not-zero line s t (same_true (drop (field_start line 6) line) (ascii "\n") q) z)

  pub unended : same_text (drop (field_start line 6) line) (ascii "\n") ≡ false → (datum_in line).good ≡ false
  unfolding datum_in
  unended e = fails (datum_in line).good (λ g. let (p, q) = simp joined at g in clash q e)

  pub whole : {s : ℕ} → time_in (take 19 line) ≡ Some s → {values : List ℤ} → values ≡ first_ones (value_in line) 6
      → same_text (drop (field_start line 6) line) (ascii "\n") ≡ true → IsDatum line (record { seconds = s; values = values })
  unfolding datum_in
  whole {s} t v e =
      record {
        good = simp joined (ap is_some t, e);
        seconds-are = sym (ap (λ o. unwrap_or o 0) t);
        values-are = v;
        in_time = ((time-exactly (take 19 line) s).0 t).0;
      }
