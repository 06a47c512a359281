-- The text that is written in an edition is readable in it, and says what was asked for.
use mathlib.Core.Path.{◌≡◌, refl, sym, ◌∙◌, ap}
use mathlib.Core.Bool.{Bool, true, false, and-eq-true_iff}
use mathlib.Core.List.{List, [], ◌++◌, flatten, map, append-nil}
use Prim.Native.Nat.{ℕ, zero, suc, ◌+◌, ◌-◌, ◌/◌, ◌%◌, ◌^◌, ◌<◌, ◌≤◌}
use native.Mathlib.Nat.{add-mul, mul-le-mul_right, zero-add}
use native.Mathlib.Omega.{arith}
use lib.Dec.{eqb}
use lib.IntN.{ℤ, pos, nat_abs}
use lib.ListN.{length, get_or}
use lib.Signed.{le_z, lt_z}
use borrow.Author.Tests.{leb-true, eqb-true, eqb-false, not-false, lt-ltb, le-ltb, ltb-true}
use Rattle.integers.specs.Parts.{integers, nat_abs-parts, one-part}
use Rattle.integers.specs.Tests.{joined}
use Rattle.rules.proofs.Tests.{clear}
use Rattle.exact.specs.declared.Exact.{Exact}
use Rattle.exact.specs.Numerator.{D, between}
use Rattle.exact.proofs.Bounds.{between-bounded}
use Rattle.text.specs.Numbers.{ascii}
use Rattle.calendar.specs.Calendar.{most_seconds}
use Rattle.decimal.specs.Text.{position_fits, velocity_fits}
use Rattle.decimal.proofs.Digits.{few-digits}
use Rattle.message.specs.Request.{Request, count_of, place, value_at, seconds_in, seconds_at}
use Rattle.message.specs.Message.{says, time_after, texts, value_text, field, line, line_from, message_as}
use Rattle.message.specs.Refusals.{is_time, names_hold, settings_hold, ends_in_time, well_formed, all_of, exact_at, position_holds, velocity_holds, holds_as, value_holds, point_holds, points_hold, rules, refusal}
use Rattle.message.specs.declared.Edition.{Edition}
use Rattle.message.specs.Editions.{version_of}
use Rattle.received.specs.Data.{field_of, data_line, line_of, first_seconds, last_seconds}
use Rattle.received.specs.Messages.{head_of, IsPoint, Says}
use Rattle.readable.specs.Sent.{points_from, position_at, velocity_at, point_at, sent}
use Rattle.readable.proofs.Series.{texts-from, every-from, rising-from, length_from, last-from, same-texts}
use Rattle.readable.proofs.Units.{position-small, velocity-small}

-- ---- a data line of the one is a data line of the other

pub same_line : (r : Request) (i : ℕ) → line_from r.tick r.step r.points (seconds_in r.start) i ≡ line_of (point_at r i)
unfolding line_from line data_line seconds_at texts field field_of value_text flatten
same_line r i = refl

-- ---- what a request that is not refused has

pub record Taken (r : Request) : Type 0 where
  pub names : names_hold r.originator r.object r.id r.center r.frame ≡ true
  pub created : is_time r.created ≡ true
  pub step : 1 ≤ r.step
  pub some : 0 < count_of r.points
  pub ends : seconds_at r (count_of r.points - 1) ≤ most_seconds
  pub holds : (i k : ℕ) → i < count_of r.points → k < 6 → value_holds r.tick r.step r.points i k ≡ true

all-at : (f : ℕ → Bool) (n i : ℕ) → all_of f n ≡ true → i < n → f i ≡ true
unfolding all_of
all-at f zero i h l = absurd (omega arith)
all-at f (suc n) i h l = let (p, q) = simp joined at h in by (eqb i n) refl (λ m. all-at f n i p m) q
  where
    by : (t : Bool) → eqb i n ≡ t → (i < n → f i ≡ true) → f n ≡ true → f i ≡ true
    by true t ih q = ap f (eqb-true i n t) ∙ q
    by false t ih q = ih (omega (arith, eqb-false i n t))

pub taken : (r : Request) (room : ℕ) → refusal r room ≡ 0 → Taken r
unfolding refusal well_formed settings_hold ends_in_time points_hold point_holds count_of
taken r room e =
    let well = not-false (well_formed r) (clear 11 (rules r room) refl e).0 in
    let hold = not-false (points_hold r.tick r.step r.points) (clear 6 (rules r room) refl e).0 in
    let (names, (created, (start, ((tick, (step, most)), (some, ends))))) = simp joined at well in
    let (twelve, all) = simp joined at hold in
    record {
      names = names;
      created = created;
      step = leb-true 1 r.step step;
      some = omega (arith, eqb-false (length r.points) 0 some, eqb-true (length r.points % 12) 0 twelve);
      ends = leb-true (seconds_at r (length r.points / 12 - 1)) most_seconds ends;
      holds = λ i k l m. all-at (value_holds r.tick r.step r.points i) 6 k (all-at (point_holds r.tick r.step r.points) (length r.points / 12) i all l) m;
    }

-- ---- its points

part_small : (z : ℤ) → le_z (pos 0) z ≡ true → lt_z z (pos D) ≡ true → nat_abs z < D
part_small z l u = omega (integers, nat_abs-parts z, one-part z)

module _ (r : Request) (t : Taken r) (i k : ℕ) (l : i < count_of r.points) (m : k < 6) where
  abbrev e : Exact
  e = value_at r.points (place i k)

  exact : e.part < D
  unfolding value_holds exact_at value_at
  exact =
      let ((low, high), _) = simp joined at (t.holds i k l m) in
      part_small (get_or r.points (place i k + 1) (pos 0)) low high

  position-few : k < 3 → nat_abs (position_at r i k) < 10 ^ 16
  unfolding value_holds holds_as position_holds
  position-few n =
      let (_, p) = (and-eq-true_iff (exact_at r.points (place i k)) _).0 (t.holds i k l m) in
      let (b, f) = (and-eq-true_iff (between (2 ^ 52) e) (position_fits (position_at r i k))).0 (rw (lt-ltb k 3 n) at p) in
      let small = position-small r.tick e (between-bounded (2 ^ 52) e exact b) in
      ltb-true (nat_abs (position_at r i k)) (10 ^ 16) (sym (few-digits 6 (position_at r i k) (omega arith) small) ∙ f)

  velocity-few : 3 ≤ k → nat_abs (velocity_at r i k) < 10 ^ 16
  unfolding value_holds holds_as velocity_holds
  velocity-few n =
      let (_, p) = (and-eq-true_iff (exact_at r.points (place i k)) _).0 (t.holds i k l m) in
      let (b, f) = (and-eq-true_iff (between (2 ^ 40) e) (velocity_fits (velocity_at r i k))).0 (rw (le-ltb k 3 n) at p) in
      let small = velocity-small r.tick r.step e t.step (between-bounded (2 ^ 40) e exact b) in
      ltb-true (nat_abs (velocity_at r i k)) (10 ^ 16) (sym (few-digits 9 (velocity_at r i k) (omega arith) small) ∙ f)

module _ (r : Request) (t : Taken r) where
  in-time : (i : ℕ) → i < count_of r.points → seconds_at r i ≤ most_seconds
  unfolding seconds_at
  in-time i l = omega (arith, t.ends, mul-le-mul_right {m = i} {n = count_of r.points - 1} r.step (omega arith))

  later : (i : ℕ) → seconds_at r i < seconds_at r (suc i)
  unfolding seconds_at
  later i = omega (arith, t.step, add-mul i 1 r.step)

  is-point : (i : ℕ) → i < count_of r.points → IsPoint (point_at r i)
  is-point i l =
      record {
        in_time = in-time i l;
        six = refl;
        digits = (
          position-few r t i 0 l (omega arith) (omega arith),
          (
            position-few r t i 1 l (omega arith) (omega arith),
            (
              position-few r t i 2 l (omega arith) (omega arith),
              (
                velocity-few r t i 3 l (omega arith) (omega arith),
                (
                  velocity-few r t i 4 l (omega arith) (omega arith),
                  (velocity-few r t i 5 l (omega arith) (omega arith), tt),
                ),
              ),
            ),
          ),
        );
      }

-- ---- its text

-- the times of the first and the last of some points
ends_at : (r : Request) (n : ℕ) → 0 < n
    → (first_seconds (points_from (point_at r) 0 n) ≡ seconds_at r 0) × (last_seconds (points_from (point_at r) 0 n) ≡ seconds_at r (n - 1))
ends_at r zero l = absurd (omega arith)
ends_at r (suc n) l =
    let k : 0 + n ≡ suc n - 1 = omega arith in
    (refl, last-from (point_at r) 0 0 n ∙ ap (seconds_at r) k)

abbrev texted : Edition → Request → List ℕ → List ℕ → List ℕ → List ℕ
texted e r start stop lines =
    says "CCSDS_OEM_VERS" (version_of e)
    ++ (says "CREATION_DATE" r.created
    ++ (says "ORIGINATOR" r.originator
    ++ (ascii "META_START\n"
    ++ (says "OBJECT_NAME" r.object
    ++ (says "OBJECT_ID" r.id
    ++ (says "CENTER_NAME" r.center
    ++ (says "REF_FRAME" r.frame
    ++ (says "TIME_SYSTEM" (ascii "TAI")
    ++ (says "START_TIME" start
    ++ (says "STOP_TIME" stop
    ++ (ascii "META_STOP\n"
    ++ lines)))))))))))

message-text : (e : Edition) (r : Request)
    → message_as e r
    ≡ texted e r (time_after (seconds_at r 0)) (time_after (seconds_at r (count_of r.points - 1)))
    (texts (line_from r.tick r.step r.points (seconds_in r.start)) (count_of r.points) ++ [])
unfolding message_as flatten
message-text e r = refl

sent-text : (e : Edition) (r : Request) (start stop : List ℕ) (lines : List (List ℕ))
    → flatten (flatten (head_of e (sent r) start stop) ++ lines) ≡ texted e r start stop (flatten lines)
unfolding flatten
sent-text e r start stop lines = refl

pub written : (e : Edition) (r : Request) (room : ℕ) → refusal r room ≡ 0 → Says e (message_as e r) (sent r)
unfolding names_hold texts
written e r room z =
    let t = taken r room z in
    let n = count_of r.points in
    let points = points_from (point_at r) 0 n in
    let (originator, (object, (id, (center, frame)))) = simp joined at t.names in
    let (first, last) = ends_at r n t.some in
    let f = line_from r.tick r.step r.points (seconds_in r.start) in
    let lines : texts f n ++ [] ≡ flatten (map line_of points) =
    append-nil (texts f n)
    ∙ same-texts f (λ k. line_of (point_at r k)) (same_line r) n
    ∙ ap (texts (λ k. line_of (point_at r k))) (sym (zero-add n))
    ∙ texts-from (point_at r) 0 n in
    record {
      holds =
          record {
            on_message = tt;
            classification = tt;
            created = t.created;
            originator = originator;
            identifier = tt;
            on_object = tt;
            object = object;
            id = id;
            center = center;
            frame = frame;
            on_data = tt;
            some = omega (arith, t.some, length_from (point_at r) 0 n);
            points = every-from (point_at r) IsPoint 0 n (λ k _ l. is-point r t k (omega arith));
            rising = rising-from (point_at r) 0 0 n (later r t) (omega arith);
          };
      text-is =
          message-text e r
          ∙ (λ i. texted e r (time_after (sym first i)) (time_after (sym last i)) (lines i))
          ∙ sym (sent-text e r (time_after (first_seconds points)) (time_after (last_seconds points)) (map line_of points));
    }
