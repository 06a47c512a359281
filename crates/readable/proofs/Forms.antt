-- Lines of a form, and groups of lines that fill slots.
use mathlib.Core.Path.{◌≡◌, refl, ◌∙◌, ap, ap₂}
use mathlib.Core.Bool.{Bool, true}
use mathlib.Core.List.{List, [], ◌∷◌, ◌++◌, map}
use Prim.Native.Nat.{ℕ, ◌+◌, ◌-◌}
use native.Mathlib.Omega.{arith}
use lib.ListN.{length, take, length-append}
use lib.Seq.{take-append_seam, drop-append_seam}
use Rattle.integers.specs.Tests.{joined}
use Rattle.calendar.proofs.Back.{same_true, same_refl}
use Rattle.received.specs.Lines.{newline}
use Rattle.received.specs.Messages.{Every}
use Rattle.received.specs.Slots.{Form, line_with, rest_in, has_front, is_of, Slot, one, perhaps, any, AllOf, Fills, FillAll}

-- ---- a line of a form

pub rest_of : (front rest : List ℕ) → rest_in front (line_with front rest) ≡ rest
unfolding rest_in
rest_of front rest =
    let n : length (line_with front rest) - (length front + 1) ≡ length rest =
    omega (arith, length-append front (rest ++ (newline ∷ [])), length-append rest (newline ∷ [])) in
    ap₂ take n (drop-append_seam front (rest ++ (newline ∷ []))) ∙ take-append_seam rest (newline ∷ [])

pub of-form : (f : Form) (rest : List ℕ) → f.test rest ≡ true → is_of f (line_with f.front rest) ≡ true
unfolding is_of has_front
of-form f rest h = rw (rest_of f.front rest, same_refl (line_with f.front rest)) h

pub form_of : (f : Form) (line : List ℕ) → is_of f line ≡ true
    → (line ≡ line_with f.front (rest_in f.front line)) × (f.test (rest_in f.front line) ≡ true)
unfolding is_of has_front
form_of f line h = let (p, q) = simp joined at h in (same_true line (line_with f.front (rest_in f.front line)) p, q)

-- ---- groups of lines and their rests

-- no rest, or one where it may stand
abbrev pub Perhaps : Bool → Form → List (List ℕ) → Type 0
Perhaps may f [] = Unit {0}
Perhaps may f (rest ∷ []) = (may ≡ true) × (f.test rest ≡ true)
Perhaps may f (rest ∷ more ∷ rests) = ⊥

-- a rest for each slot for one line, and rests for each slot for any number or for one or none
abbrev pub Rests : List Slot → Type 0
Rests [] = Unit {0}
Rests (one f ∷ slots) = ((rest : List ℕ) × (f.test rest ≡ true)) × Rests slots
Rests (perhaps may f ∷ slots) = ((rests : List (List ℕ)) × Perhaps may f rests) × Rests slots
Rests (any f ∷ slots) = ((rests : List (List ℕ)) × Every (λ r. f.test r ≡ true) rests) × Rests slots

-- the lines of these rests
abbrev pub groups_of : (slots : List Slot) → Rests slots → List (List (List ℕ))
groups_of [] h = []
groups_of (one f ∷ slots) h = (line_with f.front h.0.0 ∷ []) ∷ groups_of slots h.1
groups_of (perhaps may f ∷ slots) h = map (line_with f.front) h.0.0 ∷ groups_of slots h.1
groups_of (any f ∷ slots) h = map (line_with f.front) h.0.0 ∷ groups_of slots h.1

lines_of : (f : Form) (rests : List (List ℕ)) → Every (λ r. f.test r ≡ true) rests → AllOf f (map (line_with f.front) rests)
lines_of f [] h = tt
lines_of f (r ∷ rests) h = (of-form f r h.0, lines_of f rests h.1)

perhaps-lines : (may : Bool) (f : Form) (rests : List (List ℕ)) → Perhaps may f rests → Fills (perhaps may f) (map (line_with f.front) rests)
perhaps-lines may f [] h = tt
perhaps-lines may f (r ∷ []) h = (h.0, of-form f r h.1)
perhaps-lines may f (r ∷ more ∷ rests) h = absurd h

pub groups-fill : (slots : List Slot) (h : Rests slots) → FillAll slots (groups_of slots h)
groups-fill [] h = tt
groups-fill (one f ∷ slots) h = (of-form f h.0.0 h.0.1, groups-fill slots h.1)
groups-fill (perhaps may f ∷ slots) h = (perhaps-lines may f h.0.0 h.0.1, groups-fill slots h.1)
groups-fill (any f ∷ slots) h = (lines_of f h.0.0 h.0.1, groups-fill slots h.1)

pub rests-of : (f : Form) (lines : List (List ℕ)) → AllOf f lines
    → (rests : List (List ℕ)) × Every (λ r. f.test r ≡ true) rests × (lines ≡ map (line_with f.front) rests)
rests-of f [] a = ([], tt, refl)
rests-of f (line ∷ lines) a =
    let (rests, e, p) = rests-of f lines a.1 in
    let (q, t) = form_of f line a.0 in
    (rest_in f.front line ∷ rests, (t, e), ap₂ (λ x y. x ∷ y) q p)

perhaps-rests : (may : Bool) (f : Form) (lines : List (List ℕ)) → Fills (perhaps may f) lines
    → (rests : List (List ℕ)) × Perhaps may f rests × (lines ≡ map (line_with f.front) rests)
perhaps-rests may f [] a = ([], tt, refl)
perhaps-rests may f (line ∷ []) a = let (q, t) = form_of f line a.1 in (rest_in f.front line ∷ [], (a.0, t), ap (λ l. l ∷ []) q)
perhaps-rests may f (line ∷ more ∷ lines) a = absurd a

-- groups that fill all slots are the lines of some rests
pub fill-groups : (slots : List Slot) (groups : List (List (List ℕ))) → FillAll slots groups → (h : Rests slots) × (groups ≡ groups_of slots h)
fill-groups [] [] a = (tt, refl)
fill-groups [] (group ∷ groups) a = absurd a
fill-groups (one f ∷ slots) [] a = absurd a
fill-groups (perhaps may f ∷ slots) [] a = absurd a
fill-groups (any f ∷ slots) [] a = absurd a
fill-groups (one f ∷ slots) ([] ∷ groups) a = absurd a.0
fill-groups (one f ∷ slots) ((line ∷ []) ∷ groups) a =
    let (h, e) = fill-groups slots groups a.1 in
    let (q, t) = form_of f line a.0 in
    (((rest_in f.front line, t), h), ap₂ (λ x y. (x ∷ []) ∷ y) q e)
fill-groups (one f ∷ slots) ((line ∷ more ∷ lines) ∷ groups) a = absurd a.0
fill-groups (perhaps may f ∷ slots) (group ∷ groups) a =
    let (h, e) = fill-groups slots groups a.1 in
    let (rests, t, q) = perhaps-rests may f group a.0 in
    (((rests, t), h), ap₂ (λ x y. x ∷ y) q e)
fill-groups (any f ∷ slots) (group ∷ groups) a =
    let (h, e) = fill-groups slots groups a.1 in
    let (rests, t, q) = rests-of f group a.0 in
    (((rests, t), h), ap₂ (λ x y. x ∷ y) q e)
