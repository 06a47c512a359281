-- Tracks add, and point n is that of the samples up to n, for every implementation whose answers are those of the formulas.
use mathlib.Core.Path.{◌≡◌, sym, ap, subst, ◌∙◌}
use mathlib.Core.List.{List, ◌∷◌}
use Prim.Native.Nat.{ℕ, zero, suc, ◌≤◌}
use native.Mathlib.Omega.{arith}
use lib.IntN.{◌+ℤ◌}
use lib.ListN.{length}
use Rattle.coefficients.specs.declared.Formula.{Formula}
use Rattle.ticks.specs.declared.WholeSample.{WholeSample}
use Rattle.axis.specs.Kinds.{Kind, of_position, of_velocity}
use Rattle.axis.proofs.Held.{corrector_of}
use Rattle.session.specs.Coordinates.{Coordinate, on_x, on_y, on_z, ticks_on}
use Rattle.session.specs.Moves.{present_point}
use Rattle.steps.specs.declared.ReportedPoint.{ReportedPoint}
use Rattle.demands.specs.Histories.{Implementation, predict, predicting, after, history, Entry, entries, samples_of}
use Rattle.demands.specs.ClosedForm.{Tells, Told, Predicts}
use Rattle.demands.specs.Demands.{Formulas, Leaves, position, velocity}
use Rattle.demands.proofs.Standing.{points-most}
use Rattle.adding.specs.Tracks.{Track, Called, reached, value_at, value_on, value_in}
use Rattle.adding.specs.Sums.{SumUpTo, SameUpTo}
use Rattle.adding.specs.Theorems.{Adds, OfSamplesUpTo}
use Rattle.adding.proofs.Linear.{value_by, ListsAdd, none, more, value-adds}
use Rattle.adding.proofs.UpTo.{up_to, up-to-none, newest-of, up-to-all}
use Rattle.adding.proofs.Points.{point-is, predictor_of, carried, prediction-is}
use Rattle.std.specs.Prelude.{Ok}

-- the samples up to n
abbrev sampled : ℕ → Track → List WholeSample
sampled n t = up_to n (entries t.events)

-- ---- samples that add point by point add as lists

moved : {us vs ws us' vs' ws' : List WholeSample} → us' ≡ us → vs' ≡ vs → ws' ≡ ws → ListsAdd us vs ws → ListsAdd us' vs' ws'
moved {us} {vs} {ws} {us'} {vs'} {ws'} e f g h =
    subst (λ xs. ListsAdd xs vs' ws') (sym e) (subst (λ xs. ListsAdd us xs ws') (sym f) (subst (λ xs. ListsAdd us vs xs) (sym g) h))

fewer : (n : ℕ) (a b c : Track) → SumUpTo (suc n) a b c → SumUpTo n a b c
fewer n a b c s =
    record {
      first = omega (arith, s.first);
      second = omega (arith, s.second);
      third = omega (arith, s.third);
      openings = s.openings;
      samples = λ k m l h. s.samples k m l (omega arith);
    }

lists-add : (n : ℕ) (a b c : Track) → SumUpTo n a b c → ListsAdd (sampled n a) (sampled n b) (sampled n c)
lists-add zero a b c s = moved (up-to-none (entries a.events)) (up-to-none (entries b.events)) (up-to-none (entries c.events)) none
lists-add (suc n) a b c s =
    let u = newest-of n (entries a.events) s.first in
    let v = newest-of n (entries b.events) s.second in
    let w = newest-of n (entries c.events) s.third in
    moved u.before v.before w.before
    (more (λ k. sym (w.ticks c.origin k) ∙ s.samples k (suc n) (omega arith) (omega arith) ∙ (λ i. u.ticks a.origin k i +ℤ v.ticks b.origin k i))
    (lists-add n a b c (fewer n a b c s)))

-- ---- samples that are the same point by point are one list

whole_by : (w v : WholeSample) → ((k : Coordinate) → ticks_on k w ≡ ticks_on k v) → w ≡ v
whole_by w v h = λ i. record { x = h on_x i; y = h on_y i; z = h on_z i }

lists-same : (n : ℕ) (a b : Track) → SameUpTo n a b → sampled n a ≡ sampled n b
lists-same zero a b s = up-to-none (entries a.events) ∙ sym (up-to-none (entries b.events))
lists-same (suc n) a b s =
    let u = newest-of n (entries a.events) s.first in
    let v = newest-of n (entries b.events) s.second in
    let one : u.newest ≡ v.newest =
    whole_by u.newest v.newest (λ k. sym (u.ticks a.origin k) ∙ s.samples k (suc n) (omega arith) (omega arith) ∙ v.ticks b.origin k) in
    let rest : sampled n a ≡ sampled n b =
    lists-same n a b (record {
      first = omega (arith, s.first);
      second = omega (arith, s.second);
      openings = s.openings;
      samples = λ k m l h. s.samples k m l (omega arith);
    }) in
    u.before ∙ (λ i. one i ∷ rest i) ∙ sym v.before

-- ---- a track of an implementation

module _ (I : Implementation) (F : Formulas I) (t : Track) (h : Called I t) where
  told : Told t.origin t.events
  told = subst (Told t.origin) (sym h.events) (F.told t.origin t.first h.begins h.calls)

  small : t.origin.points ≤ 9
  small = points-most t.origin t.first h.begins

  -- the record stands at the last point
  stands : Leaves I → (n : ℕ) → reached t ≡ n → (kind : Kind) (k : Coordinate) → value_on kind k (present_point t.last) ≡ value_at kind k t n
  stands L n m of_position k =
      ap (λ s. value_on of_position k (present_point s)) h.last
      ∙ (L.last t.origin t.first h.begins h.calls k).0
      ∙ ap (λ es. position t.origin k (entries es) (length (entries es))) (sym h.events)
      ∙ ap (position t.origin k (entries t.events)) m
  stands L n m of_velocity k =
      ap (λ s. value_on of_velocity k (present_point s)) h.last
      ∙ (L.last t.origin t.first h.begins h.calls k).1
      ∙ ap (λ es. velocity t.origin k (entries es) (length (entries es))) (sym h.events)
      ∙ ap (velocity t.origin k (entries t.events)) m

  -- what its next prediction tells is what the formulas give
  next-is : (n : ℕ) → reached t ≡ n → (q : ReportedPoint) → (I.predicts t.last).answer ≡ Ok q → (kind : Kind) (k : Coordinate) →
      value_in kind k q ≡ value_by (predictor_of kind) t.origin k (sampled n t)
  next-is n m q e =
      let o = t.origin in
      let es : List Entry = entries t.events in
      let called : Tells o (samples_of (entries (history I t.first h.calls))) (predicting (I.predicts (after I t.first h.calls)).answer) =
      (F.told o t.first h.begins (predict ∷ h.calls)).0 in
      let here : Tells o (samples_of es) (predicting (I.predicts (after I t.first h.calls)).answer) =
      subst (λ l. Tells o (samples_of (entries l)) (predicting (I.predicts (after I t.first h.calls)).answer)) (sym h.events) called in
      let tells : Tells o (samples_of es) (predicting (I.predicts t.last).answer) =
      subst (λ s. Tells o (samples_of es) (predicting (I.predicts s).answer)) (sym h.last) here in
      let predicts : Predicts o (samples_of es) q = subst (λ r. Tells o (samples_of es) (predicting r)) e tells in
      let all : up_to n es ≡ samples_of es = ap (λ l. up_to l es) (sym m) ∙ up-to-all es in
      carried o q n es (subst (λ ws. Predicts o ws q) (sym all) predicts)

-- ---- the statements

module _ (I : Implementation) (F : Formulas I) where
  -- what the closed form gives by a formula
  by-formula : (a b c : Track) → Called I c → (n : ℕ) → SumUpTo n a b c → (f : Formula) (k : Coordinate) →
      value_by f c.origin k (sampled n c) ≡ value_by f a.origin k (sampled n a) +ℤ value_by f b.origin k (sampled n b)
  by-formula a b c h n s f k = value-adds a.origin b.origin c.origin s.openings (small I F c h) k f (lists-add n a b c s)

  points-add : (a b c : Track) → Called I a → Called I b → Called I c → (n : ℕ) → SumUpTo n a b c → (kind : Kind) (k : Coordinate) →
      value_at kind k c n ≡ value_at kind k a n +ℤ value_at kind k b n
  points-add a b c la lb lc n s kind k =
      point-is c (told I F c lc) n kind k
      ∙ by-formula a b c lc n s (corrector_of kind) k
      ∙ (λ i. sym (point-is a (told I F a la) n kind k) i +ℤ sym (point-is b (told I F b lb) n kind k) i)

  pub of-samples-up-to : OfSamplesUpTo (Called I)
  of-samples-up-to =
      record {
        points = λ a b la lb n s kind k.
            point-is a (told I F a la) n kind k
            ∙ (λ i. value_by (corrector_of kind) (s.openings i) k (lists-same n a b s i))
            ∙ sym (point-is b (told I F b lb) n kind k);
        predictions = λ a b la lb n s q r p u kind k.
            prediction-is a (told I F a la) n q p kind k
            ∙ (λ i. value_by (predictor_of kind) (s.openings i) k (lists-same n a b s i))
            ∙ sym (prediction-is b (told I F b lb) n r u kind k);
      }

  pub adds : Leaves I → Adds I (Called I)
  adds L =
      record {
        points = points-add;
        predictions = λ a b c la lb lc n s q r t p u v kind k.
            prediction-is c (told I F c lc) n t v kind k
            ∙ by-formula a b c lc n s (predictor_of kind) k
            ∙ (λ i. sym (prediction-is a (told I F a la) n q p kind k) i +ℤ sym (prediction-is b (told I F b lb) n r u kind k) i);
        present = λ a b c la lb lc n s ma mb mc kind k.
            stands I F c lc L n mc kind k
            ∙ points-add a b c la lb lc n s kind k
            ∙ (λ i. sym (stands I F a la L n ma kind k) i +ℤ sym (stands I F b lb L n mb kind k) i);
        next = λ a b c la lb lc n s ma mb mc q r t p u v kind k.
            next-is I F c lc n mc t v kind k
            ∙ by-formula a b c lc n s (predictor_of kind) k
            ∙ (λ i. sym (next-is I F a la n ma q p kind k) i +ℤ sym (next-is I F b lb n mb r u kind k) i);
      }
