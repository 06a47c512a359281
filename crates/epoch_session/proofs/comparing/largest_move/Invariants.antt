-- `epoch_session::comparing::largest_move` meets its contract: the largest of the points passed.
use mathlib.Core.Path.{◌≡◌}
use Prim.Native.Nat.{ℕ}
use Rattle.axis.specs.Kinds.{Kind}
use Rattle.axis.specs.Agreement.{sizes}
use Rattle.session.specs.Apart.{point_change}
use Rattle.epoch_session.specs.declared.Round.{Round}
use Rattle.epoch_session.specs.Rounds.{largest_below, earlier_point}
use Rattle.epoch_session.proofs.comparing.largest_move.Given as goal

-- the largest changes at the points passed
abbrev pub passed : Round → Round → ℕ → Kind → ℕ
passed r before n kind = largest_below n (λ j. point_change (earlier_point r j) (earlier_point before j) kind)

abbrev pub invariant-loop-j : goal.invariant-loop-j
invariant-loop-j l = l.most ≡ sizes (passed l.r l.before l.j)
