-- Which slots are of which kind, and the fronts of the slots, which are the same in both editions.
use mathlib.Core.Path.{◌≡◌, refl, sym, ◌∙◌, ap}
use mathlib.Core.Bool.{Bool}
use mathlib.Core.List.{List, [], ◌∷◌, map}
use Prim.Native.Nat.{ℕ, zero, suc}
use lib.ListN.{get_or}
use Rattle.message.specs.declared.Edition.{Edition}
use Rattle.message.specs.declared.Edition.TheVariants.{Two, Three}
use Rattle.received.specs.declared.forms.Kind.TheVariants.{One, Perhaps, Any}
use Rattle.received.specs.Slots.{Slot, one, perhaps, any, form_of}
use Rattle.received.specs.Profile.{comment_form, has_more, slots}
use Rattle.received.specs.Reading.{slot_at, front_at}
use Rattle.received.specs.Finding.{kind_of}

-- a slot by its kind
pub is_one_lem : (s : Slot) → kind_of s ≡ One → one (form_of s) ≡ s
is_one_lem (one f) e = refl
is_one_lem (perhaps may f) e = cc
is_one_lem (any f) e = cc

pub is_any_lem : (s : Slot) → kind_of s ≡ Any → any (form_of s) ≡ s
is_any_lem (one f) e = cc
is_any_lem (perhaps may f) e = cc
is_any_lem (any f) e = refl

-- a slot that may be left out may stand in the editions with further keywords
abbrev AsHasMore : Bool → List Slot → Type 0
AsHasMore more [] = Unit {0}
AsHasMore more (one f ∷ ss) = AsHasMore more ss
AsHasMore more (perhaps may f ∷ ss) = (may ≡ more) × AsHasMore more ss
AsHasMore more (any f ∷ ss) = AsHasMore more ss

perhaps-by : (more : Bool) (ss : List Slot) (k : ℕ) → AsHasMore more ss → kind_of (get_or ss k (any comment_form)) ≡ Perhaps
    → perhaps more (form_of (get_or ss k (any comment_form))) ≡ get_or ss k (any comment_form)
perhaps-by more [] zero a e = cc
perhaps-by more [] (suc k) a e = cc
perhaps-by more (one f ∷ ss) zero a e = cc
perhaps-by more (perhaps may f ∷ ss) zero a e = ap (λ m. perhaps m f) (sym a.0)
perhaps-by more (any f ∷ ss) zero a e = cc
perhaps-by more (one f ∷ ss) (suc k) a e = perhaps-by more ss k a e
perhaps-by more (perhaps may f ∷ ss) (suc k) a e = perhaps-by more ss k a.1 e
perhaps-by more (any f ∷ ss) (suc k) a e = perhaps-by more ss k a e

pub is_perhaps_lem : (e : Edition) (k : ℕ) → kind_of (slot_at e k) ≡ Perhaps → perhaps (has_more e) (form_of (slot_at e k)) ≡ slot_at e k
is_perhaps_lem e k h = perhaps-by (has_more e) (slots e) k (refl, (refl, tt)) h

-- ---- the fronts

fronts-of : (ss : List Slot) (k : ℕ) → (form_of (get_or ss k (any comment_form))).front ≡ get_or (map (λ s. (form_of s).front) ss) k comment_form.front
fronts-of [] zero = refl
fronts-of [] (suc k) = refl
fronts-of (s ∷ ss) zero = refl
fronts-of (s ∷ ss) (suc k) = fronts-of ss k

pub front_same : (e : Edition) (k : ℕ) → (form_of (slot_at e k)).front ≡ front_at k
front_same Two k = refl
front_same Three k = fronts-of (slots Three) k ∙ sym (fronts-of (slots Two) k)
