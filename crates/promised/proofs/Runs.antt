-- What the promises allow is what our six functions give, call by call and over any calls.
use mathlib.Core.Path.{◌≡◌, refl, ap, ◌∙◌}
use mathlib.Core.List.{List, ◌∷◌}
use Rattle.session.specs.declared.Session.{Session}
use Rattle.demands.specs.Histories.{ours, Call, Event, predicting, correcting, withdrawing, refining, step, event, after, history, Act, lived}
use Rattle.promised.specs.Runs.{Allowed, predicted, corrected, withdrawn, refined, Runs, untouched, then, Lives, new, opened, begun, called}

-- ---- a call

left-ours : {s left : Session} {call : Call} {e : Event} → Allowed s call left e → left ≡ step ours s call
left-ours (predicted h) = h.0
left-ours (corrected h) = h.0
left-ours (withdrawn h) = h.0
left-ours (refined h) = h.0

event-ours : {s left : Session} {call : Call} {e : Event} → Allowed s call left e → e ≡ event ours s call
event-ours (predicted h) = ap predicting h.1
event-ours (corrected {a = a} h) = ap (correcting a) h.1
event-ours (withdrawn h) = ap withdrawing h.1
event-ours (refined {floats = floats} h) = ap (refining floats) h.1

-- ---- calls

pub run-left : {s left : Session} {calls : List Call} {es : List Event} → Runs s calls left es → left ≡ after ours s calls
run-left untouched = refl
run-left (then {call = call} run h) = left-ours h ∙ ap (λ t. step ours t call) (run-left run)

pub run-told : {s left : Session} {calls : List Call} {es : List Event} → Runs s calls left es → es ≡ history ours s calls
run-told untouched = refl
run-told (then {call = call} run h) = λ i. (event-ours h ∙ ap (λ t. event ours t call) (run-left run)) i ∷ run-told run i

-- ---- openings and first rounds among them

pub life-left : {s left : Session} {acts : List Act} → Lives s acts left → left ≡ lived ours s acts
life-left new = refl
life-left (opened life h) = h.0
life-left (begun life h) = h.0
life-left (called {call = call} life h) = left-ours h ∙ ap (λ t. step ours t call) (life-left life)
