-- Histories of calls from C are histories of our functions, which the promises allow: so what is proved of those holds of the record that an image holds.
use Prim.Native.Nat.{ℕ}
use mathlib.Core.Path.{◌≡◌, refl, sym, ap, ◌∙◌, subst}
use mathlib.Core.List.{List, [], ◌∷◌}
use Rattle.session.specs.declared.Session.{Session}
use Rattle.session.specs.Requests.{Request}
use Rattle.steps.specs.Refusals.{open_refusal}
use Rattle.steps.specs.Steps.{open_by, open_of}
use Rattle.steps.proofs.Answers.{predict-answers, correct-answers, withdraw-answers}
use Rattle.epoch_steps.proofs.Answered.{refine-answers}
use Rattle.demands.specs.Histories.{Call, predict, correct, withdraw, refine, ours, step, event, after, history, entries, samples_of}
use Rattle.demands.specs.Records.{OpenRecord}
use Rattle.demands.specs.ClosedForm.{Origin, Begins, origin}
use Rattle.demands.proofs.Records.{open-record}
use Rattle.demands.proofs.Invariant.{holds_after}
use Rattle.demands.proofs.Theorems.{our-calls}
use Rattle.promised.specs.Runs.{Allowed, predicted, corrected, withdrawn, refined, Runs, untouched, then}
use Rattle.promised.specs.Theorems.{Keeping, Counting, Together}
use Rattle.promised.proofs.Theorems.{promised}
use Rattle.image.specs.Standing.{image_of}
use Rattle.image.specs.Shapes.{Shaped}
use Rattle.image.specs.Reading.{held_in}
use Rattle.image.proofs.Stands.{stands-so}
use Rattle.image.proofs.Images.{held_back}
use Rattle.host.specs.Calls.{host_open}
use Rattle.hosted.specs.Runs.{Asked, image_after, called}
use Rattle.hosted.proofs.Left.{open-shaped, calls-shaped}
use Rattle.hosted.proofs.Each.{open-stands, open-succeeds}
use Rattle.hosted.proofs.Any.{any_left}
use Rattle.std.specs.Prelude.{Ok}

-- ---- what our functions do is allowed

allowed : (s : Session) (call : Call) → Allowed s call (step ours s call) (event ours s call)
allowed s predict = predicted (refl, refl, predict-answers s)
allowed s (correct a) = corrected (refl, refl, correct-answers s a)
allowed s withdraw = withdrawn (refl, refl, withdraw-answers s)
allowed s (refine floats) = refined (refl, refl, refine-answers s floats)

run : (s : Session) (calls : List Call) → Runs s calls (after ours s calls) (history ours s calls)
run s [] = untouched
run s (call ∷ calls) = then (run s calls) (allowed (after ours s calls) call)

module _ (s : Session) (calls : List Call) where
  pub run-keeps : (o : Origin) → Begins o s → Keeping o (after ours s calls) (history ours s calls)
  run-keeps o b = promised.keeps o s (after ours s calls) calls (history ours s calls) b (run s calls)

  pub run-counts : OpenRecord s → Counting s (after ours s calls) (history ours s calls)
  run-counts h = promised.counts s (after ours s calls) calls (history ours s calls) h (run s calls)

-- ---- an image that only calls have written holds the record that they leave, if that was open

module _ (s : Session) (h : Shaped s) (o : OpenRecord s) (asked : List Asked) where
  pub held_after : held_in (image_after (image_of s) asked) ≡ after ours s (called asked)
  held_after =
      let left = after ours s (called asked) in
      ap held_in (any_left s h asked)
      ∙ held_back left (calls-shaped s h asked)
      ∙ stands-so left (open-stands left (holds_after s ((open-record s).yes.1 o) (called asked)))

pub any-keeps : (o : Origin) (s : Session) → Shaped s → Begins o s → (asked : List Asked) →
    Keeping o (held_in (image_after (image_of s) asked)) (history ours s (called asked))
any-keeps o s h b asked = subst (λ t. Keeping o t (history ours s (called asked))) (sym (held_after s h b.held asked)) (run-keeps s (called asked) o b)

pub any-counts : (s : Session) → Shaped s → OpenRecord s → (asked : List Asked) →
    Counting s (held_in (image_after (image_of s) asked)) (history ours s (called asked))
any-counts s h o asked = subst (λ t. Counting s t (history ours s (called asked))) (sym (held_after s h o asked)) (run-counts s (called asked) o)

pub any-alike : (o : Origin) (s t : Session) → Shaped s → Shaped t → Begins o s → Begins o t → (asked others : List Asked) →
    samples_of (entries (history ours s (called asked))) ≡ samples_of (entries (history ours t (called others))) →
    Together (held_in (image_after (image_of s) asked)) (held_in (image_after (image_of t) others))
any-alike o s t h k b d asked others e =
    subst (λ u. Together u (held_in (image_after (image_of t) others))) (sym (held_after s h b.held asked))
    (subst (Together (after ours s (called asked))) (sym (held_after t k d.held others))
    (promised.alike o s t _ _ (called asked) (called others) _ _ b d (run s (called asked)) (run t (called others)) e))

-- ---- an open that is not refused

opens-so : (r : Request) → open_refusal r ≡ 0 → (open_of r).answer ≡ Ok tt
unfolding open_of
opens-so r e = ap (λ n. (open_by n r).answer) e

pub any-opened : (r : Request) (image answer : List ℕ) → (host_open image answer r).number ≡ 0 →
    ((host_open image answer r).image ≡ image_of (open_of r).session) × (Shaped (open_of r).session × Begins (origin r) (open_of r).session)
any-opened r image answer e =
    let (unrefused, left) = open-succeeds r image answer e in
    (left, (open-shaped r, our-calls.demand3.begins (open_of r).session r (opens-so r unrefused)))

pub since-opening : (r : Request) (image answer : List ℕ) → (host_open image answer r).number ≡ 0 → (asked : List Asked) →
    Keeping (origin r) (held_in (image_after (host_open image answer r).image asked)) (history ours (open_of r).session (called asked))
since-opening r image answer e asked =
    let (i, (h, b)) = any-opened r image answer e in
    subst (λ bytes. Keeping (origin r) (held_in (image_after bytes asked)) (history ours (open_of r).session (called asked))) (sym i)
    (any-keeps (origin r) (open_of r).session h b asked)
