-- The held sum of the older samples after any calls, accepted, again, withdrawn, refused, opened or started. Definitions only.
use Rattle.std.specs.Prelude.{◌≡◌, ◌⊎◌, List}
use Rattle.session.specs.declared.Session.{Session}
use Rattle.session.specs.declared.State.{State}
use Rattle.session.specs.declared.State.TheVariants.{Closed, Settled, Awaiting, Starting}
use Rattle.session.specs.Moves.{closed_session}
use Rattle.session.specs.Requests.{Request}
use Rattle.demands.specs.Records.{HeldSums, NoHeldSums}
use Rattle.demands.specs.Histories.{Implementation, Call, step, Act, lived}

-- it is what the held samples give, worked out afresh, in a settled and an awaiting record, and zero in a closed and a starting one
abbrev pub HeldIn : State → Session → Type 0
HeldIn Closed s = NoHeldSums s
HeldIn Settled s = HeldSums s
HeldIn Awaiting s = HeldSums s
HeldIn Starting s = NoHeldSums s

abbrev pub HeldTrue : Session → Type 0
HeldTrue s = HeldIn s.state s

pub record HeldAfterCalls (I : Implementation) : Type 0 where
  -- a new record
  pub new : HeldTrue closed_session
  -- an open and a first round, refused or not, whatever record they replace
  pub opens : (s : Session) (r : Request) → HeldTrue (I.opens s r).session
  pub starts : (s : Session) (r : Request) → HeldTrue (I.starts s r).session
  -- every other call, on any record that a host may have filled: untouched, or true
  pub steps : (s : Session) (call : Call) → (step I s call ≡ s) ⊎ HeldTrue (step I s call)
  -- and so after all of them, in any order and number
  pub always : (s : Session) → HeldTrue s → (acts : List Act) → HeldTrue (lived I s acts)
