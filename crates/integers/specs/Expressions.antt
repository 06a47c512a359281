-- Expressions over ℤ and their normal forms, which `Solver` computes and compares.
use Rattle.std.specs.Prelude.{◌≡◌, refl, List, [], ◌∷◌, Bool, true, false, ℕ, suc, ◌*◌, leb, eqb, ℤ, pos, negsuc, neg_ℤ, ◌+ℤ◌, ◌*ℤ◌}
use Rattle.integers.specs.Ring.{minus-*}

-- ---- expressions

infixl 65 ◌⊕◌ ◌⊝◌
infixl 70 ◌⊗◌
pub data Expr : Type 0 where
  var : ℕ → ℤ → Expr
  num minus : ℕ → Expr
  ◌⊕◌ ◌⊗◌ : Expr → Expr → Expr
  neg : Expr → Expr

abbrev pub ◌⊝◌ : Expr → Expr → Expr
e ⊝ f = e ⊕ neg f

-- what an expression stands for
abbrev pub plain : Expr → ℤ
plain (var i z) = z
plain (num n) = pos n
plain (minus n) = negsuc n
plain (e ⊕ f) = plain e +ℤ plain f
plain (e ⊗ f) = plain e *ℤ plain f
plain (neg e) = neg_ℤ (plain e)

-- the same, shut: `simp` gathers what stands around it
pub val : Expr → ℤ
val e = plain e

pub val-plain : (e : Expr) → val e ≡ plain e
unfolding val
val-plain e = refl

pub atom : (i : ℕ) (z : ℤ) → z ≡ val (var i z)
unfolding val
atom i z = refl

pub val_pos : (n : ℕ) → pos n ≡ val (num n)
unfolding val
val_pos n = refl

pub val-negsuc : (n : ℕ) → negsuc n ≡ val (minus n)
unfolding val
val-negsuc n = refl

pub val-+ : (e f : Expr) → val e +ℤ val f ≡ val (e ⊕ f)
unfolding val
val-+ e f = refl

pub val-* : (e f : Expr) → val e *ℤ val f ≡ val (e ⊗ f)
unfolding val
val-* e f = refl

pub val-neg : (e : Expr) → neg_ℤ (val e) ≡ val (neg e)
unfolding val
val-neg e = refl

-- a literal on the left, where the operation has computed as far as it can and no longer shows its name
pub val-pos-+ : (n : ℕ) (e : Expr) → pos n +ℤ val e ≡ val (num n ⊕ e)
unfolding val
val-pos-+ n e = refl

pub val-negsuc-+ : (n : ℕ) (e : Expr) → negsuc n +ℤ val e ≡ val (minus n ⊕ e)
unfolding val
val-negsuc-+ n e = refl

pub val-pos-* : (n : ℕ) (e : Expr) → pos n *ℤ val e ≡ val (num n ⊗ e)
unfolding val
val-pos-* n e = refl

pub val-negsuc-* : (n : ℕ) (e : Expr) → negsuc n *ℤ val e ≡ val (minus n ⊗ e)
unfolding val
val-negsuc-* n e = refl

-- a negative literal so computed: −k, of which `simp` sees only k
pub val-minus-* : (k : ℕ) (e : Expr) → elim (val e) as (λ x. ℤ) [ pos b ↦ neg_ℤ (pos (k * b)) | negsuc b ↦ pos (k * suc b) ] ≡ val (neg (num k ⊗ e))
unfolding val
val-minus-* k e = minus-* k (val e)

pub ruleset terms = (val_pos, val-negsuc, val-+, val-*, val-neg, val-pos-+, val-negsuc-+, val-pos-*, val-negsuc-*, val-minus-*)

-- ---- the same over numbered unknowns

pub data Known : Type 0 where
  none : Known
  is : ℕ → ℤ → Known → Known

abbrev pub pick : Bool → ℤ → ℤ → ℤ
pick true x y = x
pick false x y = y

abbrev pub at : Known → ℕ → ℤ
at none i = pos 0
at (is j z ρ) i = pick (eqb i j) z (at ρ i)

-- the unknowns of an expression, before those known
abbrev pub known_in : Expr → Known → Known
known_in (var i z) ρ = is i z ρ
known_in (num n) ρ = ρ
known_in (minus n) ρ = ρ
known_in (e ⊕ f) ρ = known_in e (known_in f ρ)
known_in (e ⊗ f) ρ = known_in e (known_in f ρ)
known_in (neg e) ρ = known_in e ρ

abbrev pub ⟦◌⟧ : Expr → Known → ℤ
⟦ var i z ⟧ ρ = at ρ i
⟦ num n ⟧ ρ = pos n
⟦ minus n ⟧ ρ = negsuc n
⟦ e ⊕ f ⟧ ρ = ⟦ e ⟧ ρ +ℤ ⟦ f ⟧ ρ
⟦ e ⊗ f ⟧ ρ = ⟦ e ⟧ ρ *ℤ ⟦ f ⟧ ρ
⟦ neg e ⟧ ρ = neg_ℤ (⟦ e ⟧ ρ)

-- ---- normal forms: sums of a coefficient times sorted variables, no monomial twice

pub data Sum : Type 0 where
  end : Sum
  term : ℤ → List ℕ → Sum → Sum

abbrev pub both : Bool → Bool → Bool
both true b = b
both false b = false

abbrev pub ins_if : Bool → ℕ → ℕ → List ℕ → List ℕ → List ℕ
ins_if true i j m r = i ∷ (j ∷ m)
ins_if false i j m r = j ∷ r

abbrev pub ins : ℕ → List ℕ → List ℕ
ins i [] = i ∷ []
ins i (j ∷ m) = ins_if (leb i j) i j m (ins i m)

abbrev pub join : List ℕ → List ℕ → List ℕ
join [] n = n
join (i ∷ m) n = ins i (join m n)

abbrev pub same : List ℕ → List ℕ → Bool
same [] [] = true
same [] (j ∷ n) = false
same (i ∷ m) [] = false
same (i ∷ m) (j ∷ n) = both (eqb i j) (same m n)

abbrev pub put_if : Bool → ℤ → ℤ → List ℕ → Sum → Sum → Sum
put_if true c d n s r = term (c +ℤ d) n s
put_if false c d n s r = term d n r

abbrev pub put : ℤ → List ℕ → Sum → Sum
put c m end = term c m end
put c m (term d n s) = put_if (same m n) c d n s (put c m s)

abbrev pub plus : Sum → Sum → Sum
plus end t = t
plus (term c m s) t = put c m (plus s t)

abbrev pub scale : ℤ → List ℕ → Sum → Sum
scale c m end = end
scale c m (term d n s) = put (c *ℤ d) (join m n) (scale c m s)

abbrev pub times : Sum → Sum → Sum
times end t = end
times (term c m s) t = plus (scale c m t) (times s t)

abbrev pub norm : Expr → Sum
norm (var i z) = term (pos 1) (i ∷ []) end
norm (num n) = term (pos n) [] end
norm (minus n) = term (negsuc n) [] end
norm (e ⊕ f) = plus (norm e) (norm f)
norm (e ⊗ f) = times (norm e) (norm f)
norm (neg e) = scale (negsuc 0) [] (norm e)

abbrev pub is_zero : ℤ → Bool
is_zero (pos n) = eqb n 0
is_zero (negsuc n) = false

abbrev pub vanishes : Sum → Bool
vanishes end = true
vanishes (term c m s) = both (is_zero c) (vanishes s)
