-- The call that a line makes: its name, and the words that follow it. Definitions only.
use Rattle.std.specs.Prelude.{ℕ, Bool, cond, List, ltb, eqb, Float, length, Option, Some, None, codes}
use Rattle.std.specs.Float.{binary64}
use Rattle.std.specs.Float.Ieee.{of_bits}
use Rattle.ticks.specs.declared.Sample.{Sample}
use Rattle.session.specs.declared.WholePoint.{WholePoint}
use Rattle.image.specs.declared.Loaded.{Loaded}
use Rattle.image.specs.Reading.{read_of}
use Rattle.std.specs.List.{starts_with}
use Rattle.std.specs.Str.{bytes_eq}
use Rattle.script.specs.declared.calls.Name.{Name}
use Rattle.script.specs.declared.calls.Name.TheVariants.{Open, Predict, Correct, Withdraw, Fill, Start, Refine, Why, Save, Load, Run}
use Rattle.script.specs.declared.calls.OpenCall.{OpenCall}
use Rattle.script.specs.Words.{Reader, ◌>>=◌, ◌>>◌, lost, here, pure, a_space, bits}
use Rattle.script.specs.Series.{series}
use Rattle.script.specs.Bytes.{byte}
use Rattle.script.specs.Records.{three, settings}

-- ---- the name

abbrev pub begins_with : List ℕ → List ℕ → Bool
begins_with line word = starts_with eqb line word

-- the line is the word, and no more
abbrev pub is_word : List ℕ → List ℕ → Bool
is_word line word = bytes_eq line word

-- the most bytes of a line
abbrev longest : ℕ
longest = 4096

-- a call that carries nothing
unfoldable pub bare_name : List ℕ → Option Name
bare_name line =
    cond (is_word line (codes "predict")) (Some Predict)
    (cond (is_word line (codes "withdraw")) (Some Withdraw)
    (cond (is_word line (codes "save")) (Some Save)
    None))

unfoldable pub name_of : List ℕ → Option Name
name_of line =
    cond (ltb longest (length line)) None
    (cond (begins_with line (codes "open")) (Some Open)
    (cond (begins_with line (codes "correct")) (Some Correct)
    (cond (begins_with line (codes "fill")) (Some Fill)
    (cond (begins_with line (codes "start")) (Some Start)
    (cond (begins_with line (codes "refine")) (Some Refine)
    (cond (begins_with line (codes "why")) (Some Why)
    (cond (begins_with line (codes "load")) (Some Load)
    (cond (begins_with line (codes "run")) (Some Run)
    (bare_name line)))))))))

-- ---- what follows the name

unfoldable pub float : Reader Float
float = do
  n ← bits
  pure (of_bits binary64 n)

unfoldable pub sample : Reader Sample
sample = do
  x ← float
  y ← float
  z ← float
  pure (record { x = x; y = y; z = z })

unfoldable pub point : Reader WholePoint
point = do
  p ← three
  v ← three
  pure (record { x = p.0; y = p.1; z = p.2; vx = v.0; vy = v.1; vz = v.2 })

-- the most floats of a line
abbrev pub most_floats : ℕ
most_floats = 64

-- floats up to the end of the line, so many at most
unfoldable pub floats : ℕ → Reader (List Float)
floats most = series float most

unfoldable pub opening : Reader OpenCall
opening = do
  set ← settings
  start ← point
  end ← here
  values ← floats most_floats
  pure (record { settings = set; point = start; end = end; floats = values })

-- the most bytes that a loading's word holds
abbrev pub most_bytes : ℕ
most_bytes = 2048

-- the session that some bytes hold, or 14; no bytes are no word
unfoldable pub loaded : List ℕ → Reader Loaded
loaded bytes p = (read_of bytes, cond (eqb (length bytes) 0) (lost p) p)

unfoldable pub load : Reader Loaded
load = do
  a_space
  bytes ← series byte most_bytes
  loaded bytes
