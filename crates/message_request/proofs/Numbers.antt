-- The numbers of a point, one after another.
use Rattle.std.proofs.Common.{◌≡◌, ℕ, zero, suc, ◌+◌, ◌-◌, ◌≤◌, ◌<◌, List, [], ◌∷◌, ◌++◌, length, take, set, refl, sym, ◌∙◌, ap, add-one, arith, append_assoc, append-nil, length-set}
use Rattle.std.specs.Prelude.{Option, Some, None, IfSome, option_map, option_and_then, ℤ}
use Rattle.std.proofs.Math.Seq.{take-suc-set, take_all}
use Rattle.text.specs.Numbers.{ascii}
use Rattle.message_request.specs.Lines.{past_word}
use Rattle.message_request.specs.Points.{whole_at, wholes_in, wholes_at, point_at}

-- numbers, and those that were read after them
abbrev behind : List ℤ → Option (List ℤ × ℕ) → Option (List ℤ × ℕ)
behind values rest = option_map (λ (w : List ℤ × ℕ). (values ++ w.0, w.1)) rest

-- k numbers were read, and what is left to read gives the rest
pub record Reading (text : List ℕ) (start : ℕ) (values : List ℤ) (k end : ℕ) : Type 0 where
  pub long : length values ≡ 12
  pub wholes : wholes_in 12 text start ≡ behind (take k values) (wholes_in (12 - k) text end)

pub begun : (text : List ℕ) (start : ℕ) (values : List ℤ) → length values ≡ 12 → Reading text start values 0 start
begun text start values l = record { long = l; wholes = same (wholes_in 12 text start) }
  where
    same : (o : Option (List ℤ × ℕ)) → o ≡ behind [] o
    same None = refl
    same (Some w) = refl

module _ (text : List ℕ) (start : ℕ) {values : List ℤ} {k end : ℕ} (r : Reading text start values k end) (h : k < 12) where
  left : wholes_in (12 - k) text end ≡ wholes_in (suc (12 - (k + 1))) text end
  left = let m : 12 - k ≡ suc (12 - (k + 1)) = omega arith in ap (λ j. wholes_in j text end) m

  pub no_more : whole_at text end ≡ None → None ≡ wholes_at text start
  unfolding wholes_at wholes_in
  no_more e =
      let none : wholes_in (12 - k) text end ≡ None = left ∙ rw e refl in
      sym (r.wholes ∙ ap (behind (take k values)) none)

  pub one_more : (v : ℤ) (to : ℕ) → whole_at text end ≡ Some (v, to) → Reading text start (set values k v) (k + 1) to
  unfolding wholes_in
  one_more v to e =
      let front : take (k + 1) (set values k v) ≡ take k values ++ (v ∷ []) =
      ap (λ j. take j (set values k v)) (add-one k) ∙ take-suc-set values k v (omega (arith, r.long)) in
      let more : wholes_in (12 - k) text end ≡ option_map (λ (w : List ℤ × ℕ). (v ∷ w.0, w.1)) (wholes_in (12 - (k + 1)) text to) =
      left ∙ rw e (goes (wholes_in (12 - (k + 1)) text to)) in
      record {
        long = length-set values k v ∙ r.long;
        wholes = r.wholes ∙ ap (behind (take k values)) more ∙ by front (wholes_in (12 - (k + 1)) text to);
      }
    where
      goes : (o : Option (List ℤ × ℕ)) → option_and_then {U = List ℤ × ℕ} (λ (w : List ℤ × ℕ). Some (v ∷ w.0, w.1)) o ≡ option_map (λ (w : List ℤ × ℕ). (v ∷ w.0, w.1)) o
      goes None = refl
      goes (Some w) = refl

      by : {more : List ℤ} → more ≡ take k values ++ (v ∷ []) → (o : Option (List ℤ × ℕ))
          → behind (take k values) (option_map (λ (w : List ℤ × ℕ). (v ∷ w.0, w.1)) o) ≡ behind more o
      by f None = refl
      by f (Some w) = ap (λ vs. Some (vs, w.1)) (sym (append_assoc (take k values) (v ∷ []) w.0) ∙ ap (λ vs. vs ++ w.0) (sym f))

pub all_read : (text : List ℕ) (start : ℕ) {values : List ℤ} {k end : ℕ} → Reading text start values k end → 12 ≤ k → Some (values, end) ≡ wholes_at text start
unfolding wholes_at wholes_in
all_read text start {values} {k} {end} r h =
    let z : 12 - k ≡ 0 = omega arith in
    let whole : take k values ≡ values = take_all k values (omega (arith, r.long)) in
    sym (r.wholes ∙ ap (λ j. behind (take k values) (wholes_in j text end)) z ∙ rw whole (simp (append-nil)))

-- ---- a point has twelve numbers

so-many : (k : ℕ) (text : List ℕ) (at : ℕ) → IfSome (wholes_in k text at) (λ (w : List ℤ × ℕ). length w.0 ≡ k)
unfolding wholes_in
so-many zero text at = refl
so-many (suc k) text at = by (λ at. so-many k text at) (whole_at text at)
  where
    longer : (v : ℤ) (o : Option (List ℤ × ℕ)) → IfSome o (λ (w : List ℤ × ℕ). length w.0 ≡ k)
        → IfSome (option_and_then {U = List ℤ × ℕ} (λ (w : List ℤ × ℕ). Some (v ∷ w.0, w.1)) o) (λ (w : List ℤ × ℕ). length w.0 ≡ suc k)
    longer v None h = tt
    longer v (Some w) h = ap suc h

    by : ((at : ℕ) → IfSome (wholes_in k text at) (λ (w : List ℤ × ℕ). length w.0 ≡ k)) → (o : Option (ℤ × ℕ))
        → IfSome (option_and_then {U = List ℤ × ℕ} (λ (v : ℤ × ℕ). option_and_then {U = List ℤ × ℕ} (λ (w : List ℤ × ℕ). Some (v.0 ∷ w.0, w.1)) (wholes_in k text v.1)) o) (λ (w : List ℤ × ℕ). length w.0 ≡ suc k)
    by rest None = tt
    by rest (Some v) = longer v.0 (wholes_in k text v.1) (rest v.1)

pub twelve : (text : List ℕ) (at : ℕ) → IfSome (point_at text at) (λ (w : List ℤ × ℕ). length w.0 ≡ 12)
unfolding point_at wholes_at
twelve text at = by (past_word text at (ascii "point"))
  where
    ended : (values : List ℤ) → length values ≡ 12 → (o : Option ℕ)
        → IfSome (option_and_then {U = List ℤ × ℕ} (λ (next : ℕ). Some (values, next)) o) (λ (w : List ℤ × ℕ). length w.0 ≡ 12)
    ended values h None = tt
    ended values h (Some next) = h

    read : (o : Option (List ℤ × ℕ)) → IfSome o (λ (w : List ℤ × ℕ). length w.0 ≡ 12)
        → IfSome (option_and_then {U = List ℤ × ℕ} (λ (w : List ℤ × ℕ). option_and_then {U = List ℤ × ℕ} (λ (next : ℕ). Some (w.0, next)) (past_word text w.1 (ascii "\n"))) o) (λ (w : List ℤ × ℕ). length w.0 ≡ 12)
    read None h = tt
    read (Some w) h = ended w.0 h (past_word text w.1 (ascii "\n"))

    by : (o : Option ℕ)
        → IfSome (option_and_then {U = List ℤ × ℕ} (λ (from : ℕ). option_and_then {U = List ℤ × ℕ} (λ (w : List ℤ × ℕ). option_and_then {U = List ℤ × ℕ} (λ (next : ℕ). Some (w.0, next)) (past_word text w.1 (ascii "\n"))) (wholes_in 12 text from)) o) (λ (w : List ℤ × ℕ). length w.0 ≡ 12)
    by None = tt
    by (Some from) = read (wholes_in 12 text from) (so-many 12 text from)
