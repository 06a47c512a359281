-- The points of a request one after another, and the room that their numbers fill from its start.
use Rattle.std.proofs.Common.{◌≡◌, ℕ, zero, suc, ◌+◌, ◌-◌, ◌/◌, ◌≤◌, ◌<◌, List, ◌++◌, length, take, drop, refl, sym, ◌∙◌, ap, subst, arith, append-nil, append_assoc}
use Rattle.std.specs.Prelude.{Option, Some, None, IfSome, ℤ}
use Rattle.std.proofs.Math.ListN.{take-append-drop}
use Rattle.std.proofs.Math.Seq.{paste, take-paste, drop-paste, length-paste, take_all, drop-drop, length-take-le}
use borrow.Author.Tests.{lt-ltb, le-ltb}
use Rattle.message_request.specs.declared.Unread.{Unread}
use Rattle.message_request.specs.declared.Unread.TheVariants.{Line, Full}
use Rattle.message_request.specs.Lines.{line_number}
use Rattle.message_request.specs.Points.{point_at, Kept, nothing, going_on, kept_from, points_of, over}
use Rattle.message_request.proofs.Numbers.{twelve}

-- ---- from a place on

module _ (text : List ℕ) (at : ℕ) where
  pub over-there : length text ≤ at → (most : ℕ) → kept_from most text at ≡ nothing None
  unfolding kept_from going_on
  over-there h zero = rw (le-ltb at (length text) h) refl
  over-there h (suc most) = rw (le-ltb at (length text) h) refl

  module _ (h : at < length text) where
    pub no_point : point_at text at ≡ None → (most : ℕ) → kept_from most text at ≡ nothing (Some (Line (line_number text at)))
    unfolding kept_from going_on
    no_point e zero = rw (lt-ltb at (length text) h, e) refl
    no_point e (suc most) = rw (lt-ltb at (length text) h, e) refl

    module _ (values : List ℤ) (next : ℕ) (e : point_at text at ≡ Some (values, next)) where
      pub no_room : kept_from 0 text at ≡ nothing (Some Full)
      unfolding kept_from going_on
      no_room = rw (lt-ltb at (length text) h, e) refl

      pub a_point : (most : ℕ) → kept_from (suc most) text at
          ≡ record { numbers = values ++ (kept_from most text next).numbers; unread = (kept_from most text next).unread }
      unfolding kept_from going_on
      a_point most = rw (lt-ltb at (length text) h, e) refl

-- ---- in a room: so many numbers are kept, and what is left to read gives the rest

pub record Taking (text : List ℕ) (start : ℕ) (room numbers : List ℤ) (count at : ℕ) : Type 0 where
  pub within : count ≤ length room
  pub long : length numbers ≡ length room
  pub kept : (kept_from (length room / 12) text start).numbers ≡ take count numbers ++ (kept_from ((length room - count) / 12) text at).numbers
  pub ends : (kept_from (length room / 12) text start).unread ≡ (kept_from ((length room - count) / 12) text at).unread
  pub behind : drop count numbers ≡ drop count room

pub begun : (text : List ℕ) (start : ℕ) (room : List ℤ) → Taking text start room room 0 start
begun text start room =
    let z : length room ≡ length room - 0 = omega arith in
    record {
      within = omega arith;
      long = refl;
      kept = ap (λ n. (kept_from (n / 12) text start).numbers) z;
      ends = ap (λ n. (kept_from (n / 12) text start).unread) z;
      behind = refl;
    }

module _ (text : List ℕ) (start : ℕ) {room numbers : List ℤ} {count at : ℕ} (t : Taking text start room numbers count at) where
  abbrev whole : Kept
  whole = kept_from (length room / 12) text start

  abbrev left : ℕ
  left = (length room - count) / 12

  -- nothing more is kept
  module _ {unread : Option Unread} (e : kept_from left text at ≡ nothing unread) where
    all : whole.numbers ≡ take count numbers
    all = t.kept ∙ ap (λ k. take count numbers ++ k.numbers) e ∙ append-nil (take count numbers)

    size : length whole.numbers ≡ count
    size = ap length all ∙ length-take-le count numbers (omega (arith, t.within, t.long))

    pub filled : numbers ≡ over whole room
    filled =
        sym (take-append-drop count numbers)
        ∙ ap (λ ns. ns ++ drop count numbers) (sym all)
        ∙ ap (λ ns. whole.numbers ++ ns) t.behind
        ∙ ap (λ n. whole.numbers ++ drop n room) (sym size)

    pub counted : ◌≡◌ {A = ℕ × Option Unread} (count, unread) (points_of whole)
    counted = rw (t.ends ∙ ap (λ k. k.unread) e, size) refl

  -- one point more is kept
  module _ (h : at < length text) (values : List ℤ) (next : ℕ) (e : point_at text at ≡ Some (values, next)) (r : count + 12 ≤ length room) where
    pub size-of : length values ≡ 12
    size-of = let P : Option (List ℤ × ℕ) → Type 0 = λ o. IfSome o (λ (w : List ℤ × ℕ). length w.0 ≡ 12) in subst P e (twelve text at)

    fewer : left ≡ suc ((length room - (count + 12)) / 12)
    fewer = omega arith

    goes_on : kept_from left text at
        ≡ record {
          numbers = values ++ (kept_from ((length room - (count + 12)) / 12) text next).numbers;
          unread = (kept_from ((length room - (count + 12)) / 12) text next).unread;
        }
    goes_on = ap (λ k. kept_from k text at) fewer ∙ a_point text at h values next e ((length room - (count + 12)) / 12)

    pub one_more : {after : List ℤ} → after ≡ paste numbers count values 12 → Taking text start room after (count + 12) next
    one_more {after} p =
        let size : length values ≡ 12 = size-of in
        let m = (length room - (count + 12)) / 12 in
        let front : take (count + 12) after ≡ take count numbers ++ values =
        ap (take (count + 12)) p
        ∙ take-paste numbers count values 12 (omega (arith, t.long, t.within)) (omega (arith, size))
        ∙ ap (λ vs. take count numbers ++ vs) (take_all 12 values (omega (arith, size))) in
        record {
          within = r;
          long = ap length p ∙ length-paste numbers count values 12 (omega (arith, t.long, r)) (omega (arith, size)) ∙ t.long;
          kept =
              t.kept
              ∙ ap (λ k. take count numbers ++ k.numbers) goes_on
              ∙ sym (append_assoc (take count numbers) values (kept_from m text next).numbers)
              ∙ ap (λ ns. ns ++ (kept_from m text next).numbers) (sym front);
          ends = t.ends ∙ ap (λ k. k.unread) goes_on;
          behind =
              ap (drop (count + 12)) p
              ∙ drop-paste numbers count values 12 (omega (arith, t.long, t.within)) (omega (arith, size))
              ∙ sym (drop-drop 12 count numbers)
              ∙ ap (drop 12) t.behind
              ∙ drop-drop 12 count room;
        }
