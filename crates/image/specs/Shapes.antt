-- The shape that the type of a record gives it, and that every number fits its word. Definitions only.
use Rattle.std.specs.Prelude.{◌≡◌, ℕ, ◌<◌, ◌^◌, length}
use Rattle.std.specs.Int.{w64}
use Rattle.std.proofs.Common.{SFits}
use Rattle.integers.specs.Differences.{at}
use Rattle.exact.specs.declared.Exact.{Exact}
use Rattle.axis.specs.declared.Motion.{Motion}
use Rattle.axis.specs.declared.Axis.{Axis}
use Rattle.axis.specs.Kinds.{Kind, value_of, tolerance_of}
use Rattle.session.specs.declared.Session.{Session}
use Rattle.session.specs.Coordinates.{Coordinate, axis_of}

-- every axis has nine sample places, as its type says
pub record Shaped (s : Session) : Type 0 where
  pub places : (k : Coordinate) → length (axis_of k s).samples ≡ 9

-- ---- a word of 64 bits holds every number, and 32 bits a remainder

pub record ExactFits (e : Exact) : Type 0 where
  pub whole : SFits w64 e.whole
  pub part : e.part < 2 ^ 32

abbrev pub MotionFits : Motion → Type 0
MotionFits m = (kind : Kind) → ExactFits (value_of kind m)

pub record AxisFits (a : Axis) : Type 0 where
  pub first : ExactFits a.first
  pub second : ExactFits a.second
  pub older : MotionFits a.older
  pub samples : (i : ℕ) → SFits w64 (at a.samples i)
  pub estimate : MotionFits a.estimate

pub record FitsWords (s : Session) : Type 0 where
  pub points : s.points < 2 ^ 64
  pub tolerances : (kind : Kind) → tolerance_of kind s.tolerances < 2 ^ 64
  pub limit : s.limit < 2 ^ 64
  pub accepted : s.accepted < 2 ^ 64
  pub corrections : s.corrections < 2 ^ 64
  pub axes : (k : Coordinate) → AxisFits (axis_of k s)
