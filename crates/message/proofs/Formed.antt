-- Laws of times, and of the ranges of tick and step.
use mathlib.Core.Path.{◌≡◌, refl, sym, ap}
use mathlib.Core.Bool.{true}
use mathlib.Core.List.{List}
use Prim.Native.Nat.{ℕ, ◌≤◌}
use native.Mathlib.Omega.{arith}
use borrow.Author.Tests.{leb-true}
use Rattle.integers.specs.Tests.{joined}
use Rattle.std.specs.Prelude.{Option, Some, None, is_some, unwrap_or}
use Rattle.calendar.specs.Calendar.{most_seconds}
use Rattle.calendar.specs.Text.{time_in}
use Rattle.calendar.proofs.Back.{time-exactly}
use Rattle.message.specs.Request.{seconds_in}
use Rattle.message.specs.Refusals.{is_time, settings_hold}

-- ---- times

module _ (s : List ℕ) where
  pub is-time : {n : ℕ} → time_in s ≡ Some n → is_time s ≡ true
  unfolding is_time
  is-time e = ap is_some e

  pub seconds-are : {n : ℕ} → time_in s ≡ Some n → (n ≡ seconds_in s) × (n ≤ most_seconds)
  unfolding seconds_in
  seconds-are {n} e = (sym (ap (λ t. unwrap_or t 0) e), ((time-exactly s n).0 e).0)

  pub seconds-most : seconds_in s ≤ most_seconds
  unfolding seconds_in
  seconds-most = by (time_in s) refl
    where
      by : (t : Option ℕ) → time_in s ≡ t → unwrap_or t 0 ≤ most_seconds
      by (Some n) e = ((time-exactly s n).0 e).0
      by None e = omega arith

-- ---- tick and step

pub settings : {tick step : ℕ} → settings_hold tick step ≡ true → (tick ≤ 16) × (1 ≤ step) × (step ≤ 3600)
unfolding settings_hold
settings {tick} {step} h =
    let (a, (b, c)) = simp joined at h in
    (leb-true tick 16 a, leb-true 1 step b, leb-true step 3600 c)
