-- `calendar::counting::february` meets its contract.
use mathlib.Core.Path.{◌≡◌, sym, ◌∙◌}
use mathlib.Core.Bool.{Bool, true, false, cond}
use Prim.Native.Nat.{ℕ}
use Rattle.calendar.proofs.counting.february.Goals as goal

longer : {r t : Bool} → r ≡ t → r ≡ true → ◌≡◌ {A = ℕ} 29 (cond t 29 28)
longer e h = rw (sym e ∙ h)

shorter : {r t : Bool} → r ≡ t → r ≡ false → ◌≡◌ {A = ℕ} 28 (cond t 29 28)
shorter e h = rw (sym e ∙ h)

pub returns-then-is_leap : goal.returns-then-is_leap
returns-then-is_leap c = longer c.is_leap.ensures c.if-is_leap.true

pub returns-else-is_leap : goal.returns-else-is_leap
returns-else-is_leap c = shorter c.is_leap.ensures c.if-is_leap.false
