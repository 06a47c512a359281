-- Every record that a call leaves is closed and zero, untouched, starting, or one that holds; and which of these, by the number. A start looks at no earlier record.
use mathlib.Core.Path.{◌≡◌, refl, sym, ap, ◌∙◌}
use mathlib.Core.Logic.{◌⊎◌, inl, inr, ⊎_elim}
use mathlib.Core.Bool.{Bool, true, false, not}
use mathlib.Core.List.{List}
use Prim.Native.Nat.{◌+◌, ◌<◌}
use borrow.Author.Tests.{leb-false, eqb-true, eqb-false}
use lib.Dec.{eqb}
use lib.Ieee.{Float}
use Rattle.integers.specs.Tests.{◌and◌}
use Rattle.session.specs.declared.Session.{Session}
use Rattle.session.specs.Moves.{present_point, estimate_of, closed_session}
use Rattle.session.specs.Holding.{holds, settled}
use Rattle.session.proofs.Rules.{settings-hold, settled-holds}
use Rattle.epoch_session.specs.declared.Round.{Round}
use Rattle.epoch_session.specs.Rounds.{earlier_point, rounds_agree}
use Rattle.epoch_session.proofs.Kept.{opened-present}
use Rattle.epoch_session.specs.Records.{held_round, starting, starting_session, opened_round}
use Rattle.epoch_session.proofs.Rules.{keeps-start, starting-round}
use Rattle.rules.specs.Rules.{NotZero}
use Rattle.session.specs.Requests.{Request, exact_point}
use Rattle.steps.specs.declared.ReportedMotion.{ReportedMotion}
use Rattle.steps.specs.Refusals.{is_last}
use Rattle.steps.proofs.Left.{zero_or_not}
use Rattle.epoch_steps.specs.Refusals.{first_round, start_refusal, later_round, refine_refusal}
use Rattle.epoch_steps.specs.Steps.{starting_from, start_by, start_of, judged_round, refine_by, refine_of}
use Rattle.epoch_steps.specs.declared.Outcome.TheVariants.{More, Opened}
use Rattle.epoch_steps.proofs.Answered.{opened-told, more-told}
use Rattle.epoch_steps.proofs.Refusals.{start-refuses, refine-refuses, started-centred, started-settings, started-range, started-points, refined-starting, refined-points, refined-more}
use Rattle.epoch_steps.proofs.Given.{start-whole, held_whole, given-points, given-starts, given-settles}

-- ---- a first round

module _ (r : Request) where
  abbrev after-start : Session
  after-start = (start_of r).session

  pub start-closes : NotZero (start_refusal r) → after-start ≡ closed_session
  unfolding start_of
  start-closes f = ap (λ a. a.session) (start-refuses r.tolerances r.limit (exact_point r.point) (first_round r) (start_refusal r) f)

  -- starting, from the epoch and the samples, with no later round
  pub start-began : start_refusal r ≡ 0 → after-start ≡ starting_from r.tolerances r.limit 0 (exact_point r.point) (first_round r)
  unfolding start_of
  start-began e = ap (λ n. (start_by n r.tolerances r.limit (exact_point r.point) (first_round r)).session) e

  pub start-begins : start_refusal r ≡ 0 → starting after-start ≡ true
  start-begins e =
      let settings = started-settings r e in
      ap starting (start-began e)
      ∙ given-starts r.points (exact_point r.point) r.floats r.tolerances r.limit 0 (started-centred r e) settings
      ((settings-hold r.tolerances r.limit).0 settings).1.0 (start-whole r.point (started-range r e)) (started-points r e)

  pub start-counts : start_refusal r ≡ 0 → after-start.corrections ≡ 0
  unfolding starting_session
  start-counts e = ap (λ t. t.corrections) (start-began e)

  pub start-leaves : (after-start ≡ closed_session) ⊎ (starting after-start ≡ true)
  start-leaves = ⊎_elim (λ e. inr (start-begins e)) (λ f. inl (start-closes f)) (zero_or_not (start_refusal r))

-- ---- a later round

module _ (s : Session) (floats : List Float) where
  abbrev later : Round
  later = later_round s floats

  abbrev agreed : Bool
  agreed = rounds_agree s.tolerances later (held_round s)

  abbrev after : Session
  after = (refine_of s floats).session

  pub refine-untouched : NotZero (refine_refusal s floats) → (refine_refusal s floats ≡ 8 → ⊥) → after ≡ s
  unfolding refine_of
  refine-untouched f g = ap (λ a. a.session) (refine-refuses s later (refine_refusal s floats) f g)

  pub refine-closes : refine_refusal s floats ≡ 8 → after ≡ closed_session
  unfolding refine_of
  refine-closes e = ap (λ n. (refine_by n s later).session) e

  -- nothing moved beyond the tolerance: settled, at the round's newest point
  pub refine-opened : refine_refusal s floats ≡ 0 → agreed ≡ true → after ≡ opened_round s.tolerances s.limit later
  unfolding refine_of
  refine-opened e t = ap (λ n. (refine_by n s later).session) e ∙ ap (λ b. (judged_round b s later).session) t

  pub refine-settles : refine_refusal s floats ≡ 0 → agreed ≡ true → settled after ≡ true
  unfolding later_round
  refine-settles e t =
      let standing = refined-starting s floats e in
      let h = keeps-start s standing in
      ap settled (refine-opened e t)
      ∙ given-settles s.points (estimate_of s) floats s.tolerances s.limit h.centred h.settings (starting-round s standing).epoch (refined-points s floats e)

  -- something did: starting, with one more later round
  pub refine-asked : refine_refusal s floats ≡ 0 → agreed ≡ false → after ≡ starting_from s.tolerances s.limit (s.corrections + 1) (estimate_of s) later
  unfolding refine_of
  refine-asked e f = ap (λ n. (refine_by n s later).session) e ∙ ap (λ b. (judged_round b s later).session) f

  not_last : is_last s ≡ false → s.corrections + 1 < s.limit
  unfolding is_last
  not_last = leb-false s.limit (s.corrections + 1)

  pub refine-starts : refine_refusal s floats ≡ 0 → agreed ≡ false → starting after ≡ true
  unfolding later_round
  refine-starts e f =
      let standing = refined-starting s floats e in
      let h = keeps-start s standing in
      let more : is_last s ≡ false = ap (λ t. not t and is_last s) (sym f) ∙ refined-more s floats e in
      ap starting (refine-asked e f)
      ∙ given-starts s.points (estimate_of s) floats s.tolerances s.limit (s.corrections + 1) h.centred h.settings (not_last more) (held_whole s standing)
      (refined-points s floats e)

  pub refine-counts : refine_refusal s floats ≡ 0 → agreed ≡ false → after.corrections ≡ s.corrections + 1
  unfolding starting_session
  refine-counts e f = ap (λ t. t.corrections) (refine-asked e f)

  pub refine-moves : refine_refusal s floats ≡ 0 → (settled after ≡ true) ⊎ (starting after ≡ true)
  refine-moves e = by agreed refl
    where
      by : (t : Bool) → agreed ≡ t → (settled after ≡ true) ⊎ (starting after ≡ true)
      by true f = inl (refine-settles e f)
      by false f = inr (refine-starts e f)

  pub refine-leaves : (after ≡ s) ⊎ ((holds after ≡ true) ⊎ ((starting after ≡ true) ⊎ (after ≡ closed_session)))
  refine-leaves = ⊎_elim (λ e. moved (refine-moves e)) (by (eqb (refine_refusal s floats) 8) refl) (zero_or_not (refine_refusal s floats))
    where
      moved : (settled after ≡ true) ⊎ (starting after ≡ true) → (after ≡ s) ⊎ ((holds after ≡ true) ⊎ ((starting after ≡ true) ⊎ (after ≡ closed_session)))
      moved (inl t) = inr (inl (settled-holds after t))
      moved (inr t) = inr (inr (inl t))

      by : (t : Bool) → eqb (refine_refusal s floats) 8 ≡ t → NotZero (refine_refusal s floats) → (after ≡ s) ⊎ ((holds after ≡ true) ⊎ ((starting after ≡ true) ⊎ (after ≡ closed_session)))
      by true e f = inr (inr (inr (refine-closes (eqb-true (refine_refusal s floats) 8 e))))
      by false e f = inl (refine-untouched f (eqb-false (refine_refusal s floats) 8 e))

-- ---- what a later round that opens leaves, and one that asks for more

-- at the newest point of the round r, with its samples and the settings of s
pub record OpenedAt (s : Session) (r : Round) (t : Session) : Type 0 where
  pub present : present_point t ≡ earlier_point r 0
  pub on-x : t.x.samples ≡ r.x.samples
  pub on-y : t.y.samples ≡ r.y.samples
  pub on-z : t.z.samples ≡ r.z.samples
  pub points : t.points ≡ s.points
  pub tolerances : t.tolerances ≡ s.tolerances
  pub limit : t.limit ≡ s.limit
  pub accepted : t.accepted ≡ 0
  pub corrections : t.corrections ≡ 0

module _ (s : Session) (floats : List Float) where
  pub later-points : (later_round s floats).points ≡ s.points
  unfolding later_round
  later-points = given-points s.points (estimate_of s) floats

  from-opened : after s floats ≡ opened_round s.tolerances s.limit (later s floats) → OpenedAt s (later s floats) (after s floats)
  unfolding opened_round
  from-opened e =
      record {
        present = ap present_point e ∙ opened-present s.tolerances s.limit (later s floats);
        on-x = ap (λ t. t.x.samples) e;
        on-y = ap (λ t. t.y.samples) e;
        on-z = ap (λ t. t.z.samples) e;
        points = ap (λ t. t.points) e ∙ later-points;
        tolerances = ap (λ t. t.tolerances) e;
        limit = ap (λ t. t.limit) e;
        accepted = ap (λ t. t.accepted) e;
        corrections = ap (λ t. t.corrections) e;
      }

  pub opened-at : (refine_of s floats).answer.outcome ≡ Opened → OpenedAt s (later s floats) (after s floats)
  opened-at h = let (e, t) = opened-told s floats h in from-opened (refine-opened s floats e t)

  pub opened-settled : (refine_of s floats).answer.outcome ≡ Opened → settled (after s floats) ≡ true
  opened-settled h = let (e, t) = opened-told s floats h in refine-settles s floats e t

  pub more-starting : (c : ReportedMotion) → (refine_of s floats).answer.outcome ≡ More c → (starting (after s floats) ≡ true) × ((after s floats).corrections ≡ s.corrections + 1)
  more-starting c h = let (e, (f, g)) = more-told s floats c h in (refine-starts s floats e f, refine-counts s floats e f)
