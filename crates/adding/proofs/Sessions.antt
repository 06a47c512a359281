-- Every session that there is, however it was opened and called, is a track of our calls; so it adds.
use mathlib.Core.Path.{◌≡◌, refl}
use mathlib.Core.List.{List}
use Rattle.session.specs.declared.Session.{Session}
use Rattle.session.specs.Moves.{closed_session}
use Rattle.demands.specs.Histories.{Implementation, ours, Call, Event, after, history}
use Rattle.demands.specs.Records.{OpenRecord}
use Rattle.demands.specs.ClosedForm.{Origin, Begins}
use Rattle.demands.proofs.Theorems.{our-calls}
use Rattle.promised.proofs.Theorems.{promised}
use Rattle.allowance.specs.Calls.{calls_in}
use Rattle.allowance.proofs.Theorems.{any-turns}
use Rattle.hosted.specs.Runs.{called}
use Rattle.hosted.proofs.Kept.{held_after}
use Rattle.hosted.proofs.Theorems.{after_read}
use Rattle.adding.specs.Tracks.{Track, Called}
use Rattle.adding.specs.Sessions.{Opened, by_open, by_rounds, by_read, Since, by_calls, by_turns, from_c, Lived}
use Rattle.adding.specs.Theorems.{Adds, OfSamplesUpTo}

-- ---- what was done since is single calls of ours

record Single (s : Session) (es : List Event) (left : Session) : Type 0 where
  calls : List Call
  events : es ≡ history ours s calls
  last : left ≡ after ours s calls

singly : {s left : Session} {es : List Event} → OpenRecord s → Since s es left → Single s es left
singly {s} {left} {es} h (by_calls {calls = calls} run) = let (l, e) = promised.run s left calls es run in record { calls = calls; events = e; last = l }
singly {s} h (by_turns turns) = record { calls = calls_in s turns; events = refl; last = any-turns.left s turns }
singly {s} h (from_c shaped asked) = record { calls = called asked; events = refl; last = held_after s shaped h asked }

begun : {o : Origin} {s : Session} → Opened o s → Begins o s
begun (by_open r e) = our-calls.demand3.begins closed_session r e
begun (by_rounds s floats e) = our-calls.demand3.started s floats e
begun (by_read bytes i h) = after_read.begins bytes i h

lived-called : (t : Track) → Lived t → Called ours t
lived-called t h =
    let b : Begins t.origin t.first = begun h.opened in
    let c : Single t.first t.events t.last = singly b.held h.since in
    record { begins = b; calls = c.calls; events = c.events; last = c.last }

-- ---- what holds of more tracks holds of fewer

module _ {P Q : Track → Type 0} (f : (t : Track) → Q t → P t) where
  pub narrowed : {I : Implementation} → Adds I P → Adds I Q
  narrowed h =
      record {
        points = λ a b c x y z. h.points a b c (f a x) (f b y) (f c z);
        predictions = λ a b c x y z. h.predictions a b c (f a x) (f b y) (f c z);
        present = λ a b c x y z. h.present a b c (f a x) (f b y) (f c z);
        next = λ a b c x y z. h.next a b c (f a x) (f b y) (f c z);
      }

  pub narrowed-up-to : OfSamplesUpTo P → OfSamplesUpTo Q
  narrowed-up-to h =
      record {
        points = λ a b x y. h.points a b (f a x) (f b y);
        predictions = λ a b x y. h.predictions a b (f a x) (f b y);
      }

pub sessions-add : Adds ours (Called ours) → Adds ours Lived
sessions-add = narrowed lived-called

pub sessions-up-to : OfSamplesUpTo (Called ours) → OfSamplesUpTo Lived
sessions-up-to = narrowed-up-to lived-called
