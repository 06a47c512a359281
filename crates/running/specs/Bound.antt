-- The allowance of a run. Definitions only.
use Rattle.std.specs.Prelude.{ℕ, ◌+◌, ◌*◌, ◌≤◌}
use Rattle.running.specs.declared.RunAnswer.{RunAnswer}

-- the samples used are at most the limit of corrections times one more than the points settled
abbrev pub WithinAllowance : ℕ → RunAnswer → Type 0
WithinAllowance limit r = r.used ≤ limit * (r.points + 1)
