-- The fields of a data line, one after another, and the end of the line.
use mathlib.Core.Path.{◌≡◌, refl, sym, ◌∙◌, ap, subst}
use mathlib.Core.Bool.{Bool, true, false, cond}
use mathlib.Core.List.{List, [], ◌∷◌, ◌++◌}
use Prim.Native.Nat.{ℕ, zero, suc, ◌+◌, ◌-◌, ◌≤◌, ◌<◌}
use native.Mathlib.Numerals.{add-one}
use native.Mathlib.Omega.{arith}
use lib.Dec.{eqb, ltb}
use lib.IntN.{ℤ}
use lib.ListN.{length, take, drop, get_or, set, length-set, drop_of_length-le, get_or-eq_default}
use lib.Seq.{take-suc-set, take_all}
use borrow.Author.Tests.{eq-eqb, ne_eqb}
use Rattle.text.specs.Numbers.{ascii}
use Rattle.std.specs.Prelude.{Option, Some, None}
use Rattle.std.proofs.lemmas.Option.{none-some}
use native.Mathlib.Nat.{add-zero}
use Rattle.calendar.specs.Text.{same_text}
use Rattle.decimal.specs.Text.{few_digits, position_fits, velocity_fits}
use Rattle.decimal.specs.Reading.{fixed_at}
use Rattle.decimal.proofs.Back.{fixed-only}
use Rattle.received.specs.Data.{decimals_of, field_by, field_at, field_start, value_in, first_ones, value_of, end_of}

-- ---- one field

-- at most 16 digits as a position and as a velocity
pub few-as : (k : ℕ) (n : ℤ) {r : Bool} → r ≡ position_fits n → r ≡ velocity_fits n → r ≡ few_digits (decimals_of k) n
few-as k n {r} p v = by (ltb k 3)
  where
    by : (t : Bool) → r ≡ few_digits (cond t 6 9) n
    by true = p
    by false = v

module _ (decimals : ℕ) (line : List ℕ) where
  no-space-by : (at : ℕ) → eqb (get_or line at 0) 32 ≡ false → None ≡ field_at decimals line at
  unfolding field_at
  no-space-by zero e = refl
  no-space-by (suc k) e = sym (rw e refl)

  pub no-space : (at : ℕ) → (get_or line at 0 ≡ 32 → ⊥) → None ≡ field_at decimals line at
  no-space at e = no-space-by at (ne_eqb (get_or line at 0) 32 e)

  pub past-line : (at : ℕ) → length line ≤ at → None ≡ field_at decimals line at
  past-line at h =
      let z : get_or line at 0 ≡ 0 = get_or-eq_default line 0 {n = at} h in
      no-space at (λ e. omega (arith, z, e))

  pub a-field : (at : ℕ) → 0 < at → get_or line at 0 ≡ 32 → field_by decimals (fixed_at decimals line (at + 1)) ≡ field_at decimals line at
  unfolding field_at
  a-field zero n e = absurd (omega arith)
  a-field (suc k) n e = sym (rw (eq-eqb (get_or line (suc k) 0) 32 e) refl)

  module _ (at : ℕ) (n : 0 < at) (space : get_or line at 0 ≡ 32) where
    pub not-number : None ≡ fixed_at decimals line (at + 1) → None ≡ field_at decimals line at
    unfolding field_by
    not-number e = ap (field_by decimals) e ∙ a-field at n space

    module _ {v : ℤ} {end : ℕ} (e : Some (v, end) ≡ fixed_at decimals line (at + 1)) where
      pub long-number : few_digits decimals v ≡ false → None ≡ field_at decimals line at
      unfolding field_by
      long-number f = sym (ap (λ t. cond {A = Option (ℤ × ℕ)} t (Some (v, end)) None) f) ∙ ap (field_by decimals) e ∙ a-field at n space

      pub short-number : few_digits decimals v ≡ true → Some (v, end) ≡ field_at decimals line at
      unfolding field_by
      short-number f = sym (ap (λ t. cond {A = Option (ℤ × ℕ)} t (Some (v, end)) None) f) ∙ ap (field_by decimals) e ∙ a-field at n space

  -- its end stands behind its beginning
  few-ends : (at : ℕ) (v w : ℤ) (e end : ℕ) → fixed_at decimals line (at + 1) ≡ Some (w, e) → (t : Bool) → cond {A = Option (ℤ × ℕ)} t (Some (w, e)) None ≡ Some (v, end) → at < end
  few-ends at v w e end q true h = omega (arith, (fixed-only decimals line (at + 1) w e q).0.ends, ap end_of h)
  few-ends at v w e end q false h = absurd (none-some (v, end) h)

  number-ends : (at : ℕ) (v : ℤ) (end : ℕ) (o : Option (ℤ × ℕ)) → fixed_at decimals line (at + 1) ≡ o → field_by decimals o ≡ Some (v, end) → at < end
  unfolding field_by
  number-ends at v end None q h = absurd (none-some (v, end) h)
  number-ends at v end (Some (w, e)) q h = few-ends at v w e end q (few_digits decimals w) h

  space-ends : (at : ℕ) (v : ℤ) (end : ℕ) (t : Bool) → cond t (field_by decimals (fixed_at decimals line (at + 1))) None ≡ Some (v, end) → at < end
  space-ends at v end true h = number-ends at v end (fixed_at decimals line (at + 1)) refl h
  space-ends at v end false h = absurd (none-some (v, end) h)

  pub field-ends : (at : ℕ) (v : ℤ) (end : ℕ) → field_at decimals line at ≡ Some (v, end) → at < end
  unfolding field_at
  field-ends zero v end h = absurd (none-some (v, end) h)
  field-ends (suc k) v end h = space-ends (suc k) v end (eqb (get_or line (suc k) 0) 32) h

-- ---- k fields were read

pub record Reading (line : List ℕ) (values : List ℤ) (k end : ℕ) : Type 0 where
  pub few : k ≤ 6
  pub long : length values ≡ 6
  pub taken : take k values ≡ first_ones (value_in line) k
  pub ends : end ≡ field_start line k
  pub behind : 0 < end

pub begun : (line : List ℕ) (values : List ℤ) → length values ≡ 6 → Reading line values 0 19
unfolding first_ones field_start
begun line values l = record { few = omega arith; long = l; taken = refl; ends = refl; behind = omega arith }

module _ (line : List ℕ) {values : List ℤ} {k end : ℕ} (r : Reading line values k end) where
  pub one_more : k < 6 → {v : ℤ} {to : ℕ} → Some (v, to) ≡ field_at (decimals_of k) line end → Reading line (set values k v) (k + 1) to
  unfolding first_ones field_start value_in
  one_more h {v} {to} f =
      let here = f ∙ ap (field_at (decimals_of k) line) r.ends in
      rw (add-one k) (record {
        few = omega arith;
        long = length-set values k v ∙ r.long;
        taken =
            take-suc-set values k v (omega (arith, r.long))
            ∙ ap (λ vs. vs ++ (v ∷ [])) r.taken
            ∙ ap (λ x. first_ones (value_in line) k ++ (x ∷ [])) (ap value_of here);
        ends = ap end_of here;
        behind = omega (arith, field-ends (decimals_of k) line end v to (sym f));
      })

  zero-later : (j m : ℕ) → m + j ≡ 6 → field_start line m ≡ 0 → field_start line 6 ≡ 0
  unfolding field_start field_at
  zero-later zero m e z = subst (λ n. field_start line n ≡ 0) (sym (add-zero m) ∙ e) z
  zero-later (suc j) m e z = zero-later j (suc m) (omega arith) (ap (λ at. end_of (field_at (decimals_of m) line at)) z)

  pub none_more : k < 6 → None ≡ field_at (decimals_of k) line end → field_start line 6 ≡ 0
  unfolding field_start
  none_more h n = zero-later (5 - k) (suc k) (omega arith) (sym (ap end_of (n ∙ ap (field_at (decimals_of k) line) r.ends)))

  pub all_read : 6 ≤ k → (values ≡ first_ones (value_in line) 6) × (end ≡ field_start line 6)
  all_read h =
      let z : k ≡ 6 = omega (arith, r.few) in
      (sym (take_all k values (omega (arith, r.long))) ∙ r.taken ∙ ap (first_ones (value_in line)) z, r.ends ∙ ap (field_start line) z)

-- ---- the end of the line

module _ (line : List ℕ) (at : ℕ) where
  pub ends_before : length line ≤ at → false ≡ same_text (drop at line) (ascii "\n")
  unfolding same_text ascii
  ends_before h = sym (ap (λ s. same_text s (10 ∷ [])) (drop_of_length-le line {i = at} h))
