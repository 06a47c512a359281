-- `text::reading::hex_digit_of` meets its contract.
use mathlib.Core.Path.{◌≡◌}
use Prim.Native.Nat.{ℕ, ◌-◌, ◌<◌, ◌≤◌}
use native.Mathlib.Omega.{arith}
use borrow.Author.Tests.{lt-leb, le-leb}
use Rattle.text.specs.Reading.{hex_digit_of}
use Rattle.text.proofs.reading.hex_digit_of.Goals as goal

module _ (b : ℕ) where
  before-0 : b < 48 → hex_digit_of b ≡ 16
  unfolding hex_digit_of
  before-0 h = rw (lt-leb 48 b h, lt-leb 97 b (omega arith))

  decimal : 48 ≤ b → b < 58 → hex_digit_of b ≡ b - 48
  unfolding hex_digit_of
  decimal l h = rw (le-leb 48 b l, le-leb b 57 (omega arith))

  between : 58 ≤ b → b < 97 → hex_digit_of b ≡ 16
  unfolding hex_digit_of
  between l h = rw (le-leb 48 b (omega arith), lt-leb b 57 (omega arith), lt-leb 97 b h)

  letter : 97 ≤ b → b < 103 → hex_digit_of b ≡ b - 87
  unfolding hex_digit_of
  letter l h = rw (le-leb 48 b (omega arith), lt-leb b 57 (omega arith), le-leb 97 b l, le-leb b 102 (omega arith))

  past-f : 103 ≤ b → hex_digit_of b ≡ 16
  unfolding hex_digit_of
  past-f l = rw (le-leb 48 b (omega arith), lt-leb b 57 (omega arith), le-leb 97 b (omega arith), lt-leb b 102 (omega arith))

pub returns-in-48-to-57 : goal.returns-in-48-to-57
returns-in-48-to-57 c =
    let e = decimal c.args.b (omega arith) (omega arith) in
    (omega (arith, e), omega (arith, e))

pub returns-in-97-to-102 : goal.returns-in-97-to-102
returns-in-97-to-102 c =
    let e = letter c.args.b (omega arith) (omega arith) in
    (omega (arith, e), omega (arith, e))

pub returns-in_default : goal.returns-in_default
returns-in_default c = λ h. omega (arith, before-0 c.args.b (omega arith))

pub returns-in_default-2 : goal.returns-in_default-2
returns-in_default-2 c = λ h. omega (arith, between c.args.b (omega arith) (omega arith))

pub returns-in_default-3 : goal.returns-in_default-3
returns-in_default-3 c = λ h. omega (arith, past-f c.args.b (omega arith))
