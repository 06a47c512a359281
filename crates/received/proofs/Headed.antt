-- The lines before the data: a walk that goes through, and a spot behind them; or the line at which it stops.
use mathlib.Core.Path.{◌≡◌, refl, sym, ◌∙◌, ap, subst}
use mathlib.Core.Bool.{true}
use mathlib.Core.List.{List, ◌++◌, flatten}
use Prim.Native.Nat.{ℕ, ◌+◌}
use native.Mathlib.Omega.{arith}
use lib.ListN.{length, take, drop}
use lib.Seq.{take_all}
use Rattle.std.specs.Prelude.{Result, Ok, Err}
use Rattle.message.specs.declared.Edition.{Edition}
use Rattle.received.specs.declared.heads.Spot.{Spot}
use Rattle.received.specs.Lines.{lines_in}
use Rattle.received.specs.Slots.{FillAll, Walked, Through, Stopped}
use Rattle.received.specs.Profile.{slots}
use Rattle.received.specs.Reading.{number_at, read_by, read_lines, read_of}
use Rattle.received.specs.Mending.{Cannot, mend_by, mend_of}
use Rattle.received.specs.Finding.{bytes_of, spot, spot_from, groups_of, is_through, walk_over, judged_by}
use Rattle.received.proofs.Cuts.{lines-drop}
use Rattle.received.proofs.Walks.{Sound, walk-sound}
use Rattle.received.proofs.Reached.{filled}

pub record Headed (e : Edition) (text : List ℕ) (head : Spot) : Type 0 where
  pub rest : List (List ℕ)
  pub through : is_through (walk_over e text) ≡ true
  pub walked : walk_over e text ≡ Through (groups_of (walk_over e text)) rest
  pub lines_are : lines_in text ≡ flatten (groups_of (walk_over e text)) ++ rest
  pub fill : FillAll (slots e) (groups_of (walk_over e text))
  pub at-is : head.at ≡ bytes_of (flatten (groups_of (walk_over e text)))
  pub line-is : head.line ≡ number_at (groups_of (walk_over e text)) 17

module _ (e : Edition) (text : List ℕ) where
  headed-by : (head : Spot) (w : Walked) → walk_over e text ≡ w → Sound (slots e) (lines_in text) w → Ok head ≡ spot_from 0 1 w → Headed e text head
  unfolding spot_from number_at
  headed-by head (Through groups rest) q (l, f) s =
      let same : groups_of (walk_over e text) ≡ groups = ap groups_of q in
      let there : head ≡ spot 0 1 (flatten groups) = cc in
      let place : head.at ≡ bytes_of (flatten groups) = omega (arith, ap (λ p. p.at) there) in
      let all : take 17 groups ≡ groups = take_all 17 groups (omega (arith, filled (slots e) groups f)) in
      record {
        rest = rest;
        through = ap is_through q;
        walked = q ∙ ap (λ gs. Through gs rest) (sym same);
        lines_are = l ∙ ap (λ gs. flatten gs ++ rest) (sym same);
        fill = subst (FillAll (slots e)) (sym same) f;
        at-is = place ∙ ap (λ gs. bytes_of (flatten gs)) (sym same);
        line-is = ap (λ p. p.line) there ∙ ap (λ gs. 1 + length (flatten gs)) (sym all ∙ ap (take 17) (sym same));
      }
  headed-by head (Stopped before) q l s = cc

  pub headed : (head : Spot) → Ok head ≡ spot_from 0 1 (walk_over e text) → Headed e text head
  headed head = headed-by head (walk_over e text) refl (walk-sound (slots e) (lines_in text))

  pub goes_through : (head : Spot) → Ok head ≡ spot_from 0 1 (walk_over e text) → is_through (walk_over e text) ≡ true
  goes_through head s = (headed head s).through

  pub behind : {head : Spot} (h : Headed e text head) → lines_in (drop head.at text) ≡ h.rest
  behind h = ap (λ n. lines_in (drop n text)) h.at-is ∙ lines-drop (flatten (groups_of (walk_over e text))) text h.rest h.lines_are

  told : (n k : ℕ) → ◌≡◌ {A = Result Spot ℕ} (Err n) (Err (1 + k)) → n ≡ 1 + k
  told n k s = cc

  -- it stops at a line: reading stops there, and nothing can be mended
  stops-by : (w : Walked) (n : ℕ) → Err n ≡ spot_from 0 1 w → Err n ≡ judged_by (read_by w)
  unfolding spot_from read_by judged_by
  stops-by (Through groups rest) n s = cc
  stops-by (Stopped before) n s = let m : n ≡ length before + 1 = omega (arith, told n (length before) s) in ap Err m

  pub head-stops : (n : ℕ) → Err n ≡ spot_from 0 1 (walk_over e text) → Err n ≡ judged_by (read_of e text)
  unfolding read_of read_lines
  head-stops n s = stops-by (walk_over e text) n s

  cannot-by : (w : Walked) (n : ℕ) → Err n ≡ spot_from 0 1 w → mend_by w ≡ Cannot
  unfolding spot_from mend_by
  cannot-by (Through groups rest) n s = cc
  cannot-by (Stopped before) n s = refl

  pub no-head : (n : ℕ) → Err n ≡ spot_from 0 1 (walk_over e text) → mend_of e text ≡ Cannot
  unfolding mend_of
  no-head n s = cannot-by (walk_over e text) n s
