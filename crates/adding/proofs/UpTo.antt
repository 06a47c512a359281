-- The samples of the points up to n, the latest first: the accepted points that came after are dropped.
use mathlib.Core.Path.{◌≡◌, refl, ap, ◌∙◌}
use mathlib.Core.List.{List, [], ◌∷◌}
use Prim.Native.Nat.{ℕ, zero, suc, ◌+◌, ◌-◌, ◌≤◌, ◌<◌}
use native.Mathlib.Omega.{arith}
use lib.ListN.{length, drop, drop_of_length-le}
use Rattle.ticks.specs.declared.WholeSample.{WholeSample}
use Rattle.session.specs.Coordinates.{Coordinate, ticks_on}
use Rattle.demands.specs.Histories.{Entry, samples_of}
use Rattle.demands.specs.ClosedForm.{Origin, samples}
use Rattle.demands.specs.Demands.{sample}

abbrev pub up_to : ℕ → List Entry → List WholeSample
up_to n es = samples_of (drop (length es - n) es)

-- ---- one place

-- the entry at place j, and the rest behind it
pub record Place (es : List Entry) (j : ℕ) : Type 0 where
  pub entry : Entry
  pub behind : drop j es ≡ entry ∷ drop (suc j) es
  pub ticks : (o : Origin) (k : Coordinate) → samples o k (samples_of es) j ≡ ticks_on k entry.sample

placed : (es : List Entry) (j : ℕ) → j < length es → Place es j
placed [] j h = absurd (omega arith)
placed (e ∷ es) zero h = record { entry = e; behind = refl; ticks = λ o k. refl }
placed (e ∷ es) (suc j) h = let p = placed es j (omega arith) in record { entry = p.entry; behind = p.behind; ticks = p.ticks }

-- ---- point n

pub up-to-none : (es : List Entry) → up_to 0 es ≡ []
up-to-none es = ap samples_of (drop_of_length-le es {i = length es - 0} (omega arith))

pub record Newest (n : ℕ) (es : List Entry) : Type 0 where
  pub newest : WholeSample
  pub before : up_to (suc n) es ≡ newest ∷ up_to n es
  pub ticks : (o : Origin) (k : Coordinate) → sample o k es (suc n) 0 ≡ ticks_on k newest

pub newest-of : (n : ℕ) (es : List Entry) → suc n ≤ length es → Newest n es
newest-of n es h =
    let p = placed es (length es - suc n) (omega arith) in
    let one : suc (length es - suc n) ≡ length es - n = omega arith in
    let here : length es - suc n + 0 ≡ length es - suc n = omega arith in
    record {
      newest = p.entry.sample;
      before = ap samples_of p.behind ∙ ap (λ j. p.entry.sample ∷ samples_of (drop j es)) one;
      ticks = λ o k. ap (samples o k (samples_of es)) here ∙ p.ticks o k;
    }

-- ---- an entry more

pub up-to-earlier : (n : ℕ) (e : Entry) (es : List Entry) → n ≤ length es → up_to n (e ∷ es) ≡ up_to n es
up-to-earlier n e es h =
    let one : length (e ∷ es) - n ≡ suc (length es - n) = omega arith in
    ap (λ j. samples_of (drop j (e ∷ es))) one

pub up-to-all : (es : List Entry) → up_to (length es) es ≡ samples_of es
up-to-all es =
    let zero_left : length es - length es ≡ 0 = omega arith in
    ap (λ j. samples_of (drop j es)) zero_left
