-- `calendar::reader::moment_in` meets its contract.
use mathlib.Core.Path.{◌≡◌, ◌∙◌, ap₂}
use mathlib.Core.List.{List}
use Prim.Native.Nat.{ℕ, ◌+◌, ◌*◌}
use native.Mathlib.Omega.{arith}
use Rattle.calendar.specs.declared.Moment.{Moment}
use Rattle.calendar.specs.Text.{value_at, moment_in}
use Rattle.calendar.proofs.reader.moment_in.Goals as goal

-- four characters are two and two
four : (s : List ℕ) → value_at s 0 2 * 100 + value_at s 2 2 ≡ value_at s 0 4
unfolding value_at
four s = omega arith

is-moment-in : (s : List ℕ) {a b c d e f g : ℕ}
    → a ≡ value_at s 0 2 → b ≡ value_at s 2 2 → c ≡ value_at s 5 2 → d ≡ value_at s 8 2 → e ≡ value_at s 11 2 → f ≡ value_at s 14 2 → g ≡ value_at s 17 2
    → ◌≡◌ {A = Moment} (record { year = a * 100 + b; month = c; day = d; hour = e; minute = f; second = g }) (moment_in s)
unfolding moment_in
is-moment-in s a b c d e f g =
    let y = ap₂ (λ m n. m * 100 + n) a b ∙ four s in
    λ i. record { year = y i; month = c i; day = d i; hour = e i; minute = f i; second = g i }

pub returns : goal.returns
returns c =
    is-moment-in c.args.s.now
    c.two_at.ensures.0
    c.two_at-2.ensures.0
    c.two_at-3.ensures.0
    c.two_at-4.ensures.0
    c.two_at-5.ensures.0
    c.two_at-6.ensures.0
    c.two_at-7.ensures.0
