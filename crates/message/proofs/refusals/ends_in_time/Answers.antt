-- `message::refusals::ends_in_time` meets its contract: the division compares as the product does.
use mathlib.Core.Path.{◌≡◌}
use Prim.Native.Nat.{ℕ, ◌+◌, ◌-◌, ◌*◌, ◌/◌, ◌≤◌, ◌<◌}
use native.Mathlib.Nat.{le-div_iff_mul-le}
use native.Mathlib.Omega.{arith}
use borrow.Author.Tests.{leb-true, le-leb}
use lib.Dec.{leb}
use Rattle.integers.specs.Tests.{agree}
use Rattle.calendar.specs.Calendar.{most_seconds}
use Rattle.message.proofs.refusals.ends_in_time.Goals as goal

by-division : (first step last : ℕ) → first ≤ most_seconds → 0 < step → leb last ((most_seconds - first) / step) ≡ leb (first + last * step) most_seconds
by-division first step last h p =
    agree (leb last ((most_seconds - first) / step)) (leb (first + last * step) most_seconds)
    (λ t. le-leb (first + last * step) most_seconds (omega (arith, (le-div_iff_mul-le p).0 (leb-true last ((most_seconds - first) / step) t))))
    (λ t. le-leb last ((most_seconds - first) / step) ((le-div_iff_mul-le p).1 (omega (arith, leb-true (first + last * step) most_seconds t))))

pub returns : goal.returns
returns c = by-division c.args.first c.args.step c.args.last c.requires.0 c.requires.1
