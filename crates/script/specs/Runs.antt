-- The line of a run: the points wanted, and the floats of its samples. Definitions only.
use Rattle.std.specs.Prelude.{ℕ}
use Rattle.script.specs.declared.run_lines.RunCall.{RunCall}
use Rattle.script.specs.Words.{Reader, ◌>>=◌, pure, natural}
use Rattle.script.specs.Calls.{floats}

-- the most floats of a run's line
abbrev pub most_run_floats : ℕ
most_run_floats = 192

unfoldable pub run : Reader RunCall
run = do
  wanted ← natural
  values ← floats most_run_floats
  pure (record { wanted = wanted; floats = values })
