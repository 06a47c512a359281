-- A text that is the time of so many seconds, by reading it.
use mathlib.Core.Path.{◌≡◌, sym, ◌∙◌, ap}
use mathlib.Core.Bool.{true}
use mathlib.Core.List.{List}
use Prim.Native.Nat.{ℕ, ◌≤◌}
use lib.Dec.{eqb}
use borrow.Author.Tests.{eqb-true, eq-eqb}
use Rattle.integers.specs.Tests.{agree, fails, clash}
use Rattle.std.specs.Prelude.{Option, Some, None, is_some, unwrap_or}
use Rattle.std.specs.Option.{option_eq}
use Rattle.calendar.specs.Calendar.{most_seconds}
use Rattle.calendar.specs.Text.{same_text, time_in}
use Rattle.calendar.proofs.Back.{same_true, time-exactly}
use Rattle.message.specs.Message.{time_after}
use Rattle.received.proofs.Fronts.{same-eq}

module _ (s : List ℕ) (seconds : ℕ) (h : seconds ≤ most_seconds) where
  read_as : same_text s (time_after seconds) ≡ true → time_in s ≡ Some seconds
  read_as e = (time-exactly s seconds).1 (h, same_true s (time_after seconds) e)

  by_time : (o : Option ℕ) → o ≡ time_in s → option_eq eqb o (Some seconds) ≡ same_text s (time_after seconds)
  by_time (Some n) t =
      agree (eqb n seconds) (same_text s (time_after seconds))
      (λ e. same-eq (((time-exactly s n).0 (sym t)).1 ∙ ap time_after (eqb-true n seconds e)))
      (λ e. eq-eqb n seconds (ap (λ o. unwrap_or o 0) (t ∙ read_as e)))
  by_time None t = sym (fails (same_text s (time_after seconds)) (λ e. clash (ap is_some (read_as e)) (ap is_some (sym t))))

  pub time-same : {o : Option ℕ} → o ≡ time_in s → option_eq eqb o (Some seconds) ≡ same_text s (time_after seconds)
  time-same {o} t = by_time o t
