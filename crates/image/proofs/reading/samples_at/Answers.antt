-- `image::reading::samples_at` meets its contract: nine numbers, 24 bytes apart.
use Rattle.std.proofs.Common.{◌≡◌, refl, ℕ, zero, suc, ◌+◌, ◌*◌, ◌<◌, List, ℤ, length, get_or, sym, ap, ◌∙◌, arith, ◌≢◌, get_or-set_other, get_or-set_same, below_more, length-set}
use Rattle.std.proofs.lemmas.List.{same_lists}
use borrow.Author.Rules.{sfits_of}
use Rattle.image.proofs.Signs.{held}
use Rattle.image.specs.Reading.{signed_at, samples_at}
use Rattle.image.proofs.reading.samples_at.Goals as goal

as-many : (n at : ℕ) (s : List ℕ) → length (samples_at n at s) ≡ n
unfolding samples_at
as-many zero at s = refl
as-many (suc n) at s = ap suc (as-many n (at + 24) s)

each : (n at : ℕ) (s : List ℕ) (k : ℕ) (d : ℤ) → k < n → get_or (samples_at n at s) k d ≡ signed_at (at + 24 * k) s
unfolding samples_at
each zero at s k d h = absurd (omega arith)
each (suc n) at s zero d h = let e : at ≡ at + 24 * 0 = omega arith in ap (λ j. signed_at j s) e
each (suc n) at s (suc k) d h =
    let e : at + 24 + 24 * k ≡ at + 24 * suc k = omega arith in
    each n (at + 24) s k d (omega arith) ∙ ap (λ j. signed_at j s) e

pub loop-k-preserved : goal.loop-k-preserved
loop-k-preserved c =
    let l = c.loop-k in (
      length-set l.sample-items l.k _ ∙ l.invariant.0,
      below_more _ _
          (λ j h d. let ne : j ≢ l.k = omega arith in rw get_or-set_other (l.invariant.1 j h d))
          (λ d. let lt : l.k < length l.sample-items = omega arith in rw get_or-set_same (held (sfits_of c.signed_at.type_inv) c.signed_at.ensures)),
    )

pub returns : goal.returns
returns c =
    let a = c.args in
    let l = c.loop-k in
    same_lists l.sample-items (samples_at 9 a.at a.s.now) (l.invariant.0 ∙ sym (as-many 9 a.at a.s.now))
    (λ k d h. l.invariant.1 k (omega arith) d ∙ sym (each 9 a.at a.s.now k d (omega arith)))
