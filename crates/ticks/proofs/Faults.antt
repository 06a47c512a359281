-- The worst fault is what is wrong with all floats, and what that says of each test and of each float.
use mathlib.Core.Path.{◌≡◌, refl, sym, ap, ◌∙◌, subst}
use mathlib.Core.Logic.{◌↔◌}
use mathlib.Core.Bool.{Bool, true, false, cond, ◌||◌}
use mathlib.Core.List.{List, [], ◌∷◌}
use Prim.Native.Nat.{max}
use native.Mathlib.Omega.{arith}
use borrow.Author.Tests.{ltb-true, ltb-false}
use lib.Dec.{ltb}
use lib.Ieee.{Float}
use lib.IntN.{ℤ}
use Rattle.std.specs.Prelude.{Option, Some, None, Result, Ok, Err}
use Rattle.std.specs.List.{fold, reduce, filter_map, cons_option}
use Rattle.ticks.specs.declared.Sample.{Sample}
use Rattle.ticks.specs.declared.WholeSample.{WholeSample}
use Rattle.ticks.specs.declared.Fault.{Fault}
use Rattle.ticks.specs.declared.FaultySample.{FaultySample}
use Rattle.ticks.specs.declared.Fault.TheVariants.{TooLarge, Infinite, NotANumber}
use Rattle.ticks.specs.Round.{rounded_of, is_not_a_number, is_infinite, is_too_large, ticks_in}
use Rattle.ticks.specs.Samples.{any, fault_in, FaultMeans, AllTicks, WithinLimit, axes_of, whole_of, sample_with, sample_of}
use Rattle.ticks.specs.Faults.{fault_of, rank, worse}
use Rattle.ticks.proofs.Meaning.{ticks-small}

-- ---- the worse of two faults, by rank

same_rank : (a b : Option Fault) → rank a ≡ rank b → a ≡ b
same_rank None None e = refl
same_rank None (Some TooLarge) e = absurd (omega arith)
same_rank None (Some Infinite) e = absurd (omega arith)
same_rank None (Some NotANumber) e = absurd (omega arith)
same_rank (Some TooLarge) None e = absurd (omega arith)
same_rank (Some TooLarge) (Some TooLarge) e = refl
same_rank (Some TooLarge) (Some Infinite) e = absurd (omega arith)
same_rank (Some TooLarge) (Some NotANumber) e = absurd (omega arith)
same_rank (Some Infinite) None e = absurd (omega arith)
same_rank (Some Infinite) (Some TooLarge) e = absurd (omega arith)
same_rank (Some Infinite) (Some Infinite) e = refl
same_rank (Some Infinite) (Some NotANumber) e = absurd (omega arith)
same_rank (Some NotANumber) None e = absurd (omega arith)
same_rank (Some NotANumber) (Some TooLarge) e = absurd (omega arith)
same_rank (Some NotANumber) (Some Infinite) e = absurd (omega arith)
same_rank (Some NotANumber) (Some NotANumber) e = refl

rank-worse : (a b : Option Fault) → rank (worse a b) ≡ max (rank a) (rank b)
rank-worse a b = go (ltb (rank a) (rank b)) refl
  where
    go : (t : Bool) → ltb (rank a) (rank b) ≡ t → rank (cond t b a) ≡ max (rank a) (rank b)
    go true e = omega (arith, ltb-true (rank a) (rank b) e)
    go false e = omega (arith, ltb-false (rank a) (rank b) e)

pub worse-assoc : (a b c : Option Fault) → worse (worse a b) c ≡ worse a (worse b c)
worse-assoc a b c =
    same_rank (worse (worse a b) c) (worse a (worse b c)) (omega (arith, rank-worse (worse a b) c, rank-worse a b, rank-worse a (worse b c), rank-worse b c))

pub worse-nothing : (f : Option Fault) → worse f None ≡ f
worse-nothing f = same_rank (worse f None) f (omega (arith, rank-worse f None))

pub nothing-worse : (f : Option Fault) → worse None f ≡ f
nothing-worse f = same_rank (worse None f) f (omega (arith, rank-worse None f))

-- ---- one float more

abbrev by_tests : Bool → Bool → Bool → Option Fault
by_tests a b c = cond a (Some NotANumber) (cond b (Some Infinite) (cond c (Some TooLarge) None))

one_more : (r : Result ℤ Fault) (a b c : Bool) → by_tests (is_not_a_number r || a) (is_infinite r || b) (is_too_large r || c) ≡ worse (fault_of r) (by_tests a b c)
one_more (Ok n) a b c = sym (nothing-worse (by_tests a b c))
one_more (Err NotANumber) true b c = refl
one_more (Err NotANumber) false true c = refl
one_more (Err NotANumber) false false true = refl
one_more (Err NotANumber) false false false = refl
one_more (Err Infinite) true b c = refl
one_more (Err Infinite) false true c = refl
one_more (Err Infinite) false false true = refl
one_more (Err Infinite) false false false = refl
one_more (Err TooLarge) true b c = refl
one_more (Err TooLarge) false true c = refl
one_more (Err TooLarge) false false true = refl
one_more (Err TooLarge) false false false = refl

pub fault-cons : (x : Float) (xs : List Float) → fault_in (x ∷ xs) ≡ worse (fault_of (rounded_of x)) (fault_in xs)
unfolding fault_in any
fault-cons x xs = one_more (rounded_of x) (any is_not_a_number xs) (any is_infinite xs) (any is_too_large xs)

-- ---- the greatest fault of all, taken one by one

abbrev pub faults : List Float → List Fault
faults xs = filter_map (λ x. fault_of (rounded_of x)) xs

module _ (greater : Fault → Fault → Fault) (law : (a b : Fault) → Some (greater a b) ≡ worse (Some a) (Some b)) where
  next : (a : Fault) (f : Option Fault) (fs : List Fault) (w : Option Fault) → ((b : Fault) → Some (fold greater b fs) ≡ worse (Some b) w)
      → Some (fold greater a (cons_option f fs)) ≡ worse (Some a) (worse f w)
  next a None fs w h = h a ∙ ap (worse (Some a)) (sym (nothing-worse w))
  next a (Some f) fs w h = h (greater a f) ∙ ap (λ v. worse v w) (law a f) ∙ worse-assoc (Some a) (Some f) w

  after : (xs : List Float) (a : Fault) → Some (fold greater a (faults xs)) ≡ worse (Some a) (fault_in xs)
  unfolding fault_in any
  after [] a = sym (worse-nothing (Some a))
  after (x ∷ xs) a = next a (fault_of (rounded_of x)) (faults xs) (fault_in xs) (after xs) ∙ ap (worse (Some a)) (sym (fault-cons x xs))

  first : (f : Option Fault) (fs : List Fault) (w : Option Fault) → reduce greater fs ≡ w → ((b : Fault) → Some (fold greater b fs) ≡ worse (Some b) w)
      → reduce greater (cons_option f fs) ≡ worse f w
  first None fs w e h = e ∙ sym (nothing-worse w)
  first (Some f) fs w e h = h f

  pub greatest-fault : (xs : List Float) → reduce greater (faults xs) ≡ fault_in xs
  unfolding fault_in any
  greatest-fault [] = refl
  greatest-fault (x ∷ xs) = first (fault_of (rounded_of x)) (faults xs) (fault_in xs) (greatest-fault xs) (after xs) ∙ sym (fault-cons x xs)

-- ---- what a fault says of the tests

module _ (xs : List Float) where
  holds : FaultMeans xs (fault_in xs)
  unfolding fault_in
  holds = go (any is_not_a_number xs) (any is_infinite xs) (any is_too_large xs) refl refl refl
    where
      go : (a b c : Bool) → any is_not_a_number xs ≡ a → any is_infinite xs ≡ b → any is_too_large xs ≡ c → FaultMeans xs (by_tests a b c)
      go true b c p q r = p
      go false true c p q r = (p, q)
      go false false true p q r = (p, q, r)
      go false false false p q r = (p, q, r)

  only : (f : Option Fault) → FaultMeans xs f → fault_in xs ≡ f
  unfolding fault_in
  only (Some NotANumber) h = simp h
  only (Some Infinite) h = simp (h.0, h.1)
  only (Some TooLarge) h = simp (h.0, h.1, h.2)
  only None h = simp (h.0, h.1, h.2)

  pub fault-means : (f : Option Fault) → (fault_in xs ≡ f) ↔ FaultMeans xs f
  fault-means f = (λ e. subst (FaultMeans xs) e holds, only f)

-- ---- nothing is wrong exactly where every float rounds to ticks

no-fault : (r : Result ℤ Fault) → rank (fault_of r) ≡ 0 → r ≡ Ok (ticks_in r)
no-fault (Ok n) e = refl
no-fault (Err NotANumber) e = absurd (omega arith)
no-fault (Err Infinite) e = absurd (omega arith)
no-fault (Err TooLarge) e = absurd (omega arith)

all-ticks : (xs : List Float) → rank (fault_in xs) ≡ 0 → AllTicks xs
unfolding AllTicks
all-ticks [] e = tt
all-ticks (x ∷ xs) e =
    let r = rank-worse (fault_of (rounded_of x)) (fault_in xs) in
    let f = ap rank (fault-cons x xs) in
    (no-fault (rounded_of x) (omega arith), all-ticks xs (omega arith))

none : (xs : List Float) → AllTicks xs → fault_in xs ≡ None
unfolding AllTicks fault_in any
none [] h = refl
none (x ∷ xs) h = fault-cons x xs ∙ rw h.0 (nothing-worse (fault_in xs) ∙ none xs h.1)

pub nothing-means : (xs : List Float) → (fault_in xs ≡ None) ↔ AllTicks xs
nothing-means xs = (λ e. all-ticks xs (ap rank e), none xs)

-- ---- a sample has its ticks, beside its fault where it has one

module _ (s : Sample) where
  pub sample-fault : (f : FaultySample) → Err f ≡ sample_of s → (Some f.fault ≡ fault_in (axes_of s)) × (f.ticks ≡ whole_of s)
  sample-fault f e = go (fault_in (axes_of s)) e
    where
      go : (o : Option Fault) → Err f ≡ sample_with o (whole_of s) → (Some f.fault ≡ o) × (f.ticks ≡ whole_of s)
      go None h = absurd (cc)
      go (Some g) h = let e : f ≡ record { fault = g; ticks = whole_of s } = cc in (ap (λ k. Some k.fault) e, ap (λ k. k.ticks) e)

  pub sample-ticks : (w : WholeSample) → Ok w ≡ sample_of s → (None ≡ fault_in (axes_of s)) × (w ≡ whole_of s)
  sample-ticks w e = go (fault_in (axes_of s)) e
    where
      go : (o : Option Fault) → Ok w ≡ sample_with o (whole_of s) → (None ≡ o) × (w ≡ whole_of s)
      go None h = (refl, cc)
      go (Some g) h = absurd (cc)

-- ---- a sample's ticks are within the limit

pub whole-within : (s : Sample) → WithinLimit (whole_of s)
whole-within s = record { on-x = ticks-small s.x; on-y = ticks-small s.y; on-z = ticks-small s.z }
