-- An answer as bytes: its kind and its values; the number is what a call returns. Definitions only.
use Rattle.std.specs.Prelude.{ℕ, List, [], ◌∷◌, ◌++◌}
use Rattle.std.specs.Float.{binary64}
use Rattle.std.specs.Float.Ieee.{to_bits}
use Rattle.exact.specs.declared.Reported.{Reported}
use Rattle.steps.specs.declared.Answer.{Answer}
use Rattle.steps.specs.declared.ReportedMotion.{ReportedMotion}
use Rattle.steps.specs.declared.ReportedPoint.{ReportedPoint}
use Rattle.image.specs.Bytes.{in_bytes}
use Rattle.image.specs.Layout.{exact_words}

-- the whole, the remainder over D, and the bits of the report
unfoldable pub reported_words : Reported → List ℕ
reported_words r = exact_words r.exact ++ (to_bits binary64 r.report ∷ [])

-- a position and its velocity
unfoldable pub motion_reported : ReportedMotion → List ℕ
motion_reported m = reported_words m.position ++ reported_words m.velocity

unfoldable pub point_reported : ReportedPoint → List ℕ
point_reported q = motion_reported q.x ++ (motion_reported q.y ++ motion_reported q.z)

-- the kind, the point, and the largest change of each kind
unfoldable pub answer_words : Answer → List ℕ
answer_words a = (a.kind ∷ []) ++ (point_reported a.point ++ motion_reported a.change)

-- in bytes
abbrev pub answer_length : ℕ
answer_length = 200

unfoldable pub answer_bytes : Answer → List ℕ
answer_bytes a = in_bytes (answer_words a)
