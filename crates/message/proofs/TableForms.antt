-- The tests of names, times and settings decide the statement that a request is formed.
use mathlib.Core.Path.{◌≡◌, refl, ◌∙◌, ap}
use mathlib.Core.Logic.{◌↔◌, ◌⊎◌, inl, inr}
use mathlib.Core.Bool.{Bool, true, false, ◌||◌}
use mathlib.Core.List.{List, [], ◌∷◌, ◌++◌}
use Prim.Native.Nat.{ℕ, ◌+◌, ◌-◌, ◌*◌, ◌/◌}
use Prim.Native.String.{String}
use native.Mathlib.Omega.{arith}
use borrow.Author.Tests.{leb-true, leb-false, le-leb, eqb-false, ne_eqb}
use lib.Dec.{leb}
use lib.ListN.{length, length-append, get_or}
use Rattle.integers.specs.Tests.{◌and◌, joined, clash, fails}
use Rattle.rules.specs.Rules.{Decides}
use Rattle.rules.proofs.Readings.{decides}
use Rattle.text.specs.Numbers.{ascii}
use Rattle.std.specs.Prelude.{Option, is_some}
use Rattle.std.specs.Prelude as P
use Rattle.calendar.specs.Calendar.{Within, seconds_of, most_seconds}
use Rattle.calendar.specs.Text.{time_in}
use Rattle.calendar.proofs.Back.{time-back, time-only}
use Rattle.calendar.proofs.Moments.{last-moment}
use Rattle.message.specs.Request.{Request, count_of, seconds_in, seconds_at}
use Rattle.message.specs.Form.{has_between, all_between, one_case, name_holds, fits}
use Rattle.message.specs.Refusals.{is_time, names_hold, settings_hold, ends_in_time, well_formed}
use Rattle.message.specs.Table.{Every, Some, Name, Time, Formed}
use Rattle.message.proofs.Formed.{settings, is-time, seconds-are}
use Rattle.message.proofs.Seconds.{in-time}
use Rattle.message.proofs.Wholes.{well, last-time}

-- ---- names

within : (low high b : ℕ) → ((leb low b and leb b high) ≡ true) ↔ Within low high b
within low high b = (
  (λ h. let (l, u) = simp joined at h in (leb-true low b l, leb-true b high u)),
  (λ w. simp joined (le-leb low b w.0, le-leb b high w.1)),
)

module _ (low high : ℕ) where
  every-to : (s : List ℕ) → all_between low high s ≡ true → Every (Within low high) s
  unfolding all_between
  every-to [] h = tt
  every-to (b ∷ s) h = let ((l, u), rest) = simp joined at h in ((leb-true low b l, leb-true b high u), every-to s rest)

  every-from : (s : List ℕ) → Every (Within low high) s → all_between low high s ≡ true
  unfolding all_between
  every-from [] e = refl
  every-from (b ∷ s) e = rw ((within low high b).1 e.0, every-from s e.1) refl

  some_to : (s : List ℕ) → has_between low high s ≡ true → Some (Within low high) s
  unfolding has_between
  some_to [] h = clash h refl
  some_to (b ∷ s) h = by (leb low b and leb b high) refl h (some_to s)
    where
      by : (t : Bool) → (leb low b and leb b high) ≡ t → (t || has_between low high s) ≡ true → (has_between low high s ≡ true → Some (Within low high) s)
          → Within low high b ⊎ Some (Within low high) s
      by true e h rest = inl ((within low high b).0 e)
      by false e h rest = inr (rest h)

  some-from : (s : List ℕ) → Some (Within low high) s → has_between low high s ≡ true
  unfolding has_between
  some-from [] e = absurd e
  some-from (b ∷ s) (inl w) = rw ((within low high b).1 w) refl
  some-from (b ∷ s) (inr e) = rw (some-from s e) (last (leb low b and leb b high))
    where
      last : (t : Bool) → (t || true) ≡ true
      last true = refl
      last false = refl

three : length (ascii " = ") ≡ 3
unfolding ascii
three = refl

line-long : (keyword : String) (name : List ℕ) → length (ascii keyword ++ (ascii " = " ++ name)) ≡ length (ascii keyword) + 3 + length name
line-long keyword name = omega (arith, length-append (ascii keyword) (ascii " = " ++ name), length-append (ascii " = ") name, three)

module _ (keyword : String) (name : List ℕ) where
  name-to : fits keyword name ≡ true → Name keyword name
  unfolding name_holds one_case
  name-to h =
      let (a, (b, (c, (d, (e, f))))) = simp joined at h in
      record {
        some = leb-true 1 (length name) a;
        line = omega (arith, line-long keyword name, leb-true (length (ascii keyword) + 3 + length name) 254 b);
        printable = every-to 32 126 name c;
        begins = eqb-false (get_or name 0 0) 32 d;
        ends = eqb-false (get_or name (length name - 1) 0) 32 e;
        letters = λ (u, l). clash (simp joined (some-from 65 90 name u, some-from 97 122 name l)) f;
      }

  name-from : Name keyword name → fits keyword name ≡ true
  unfolding name_holds one_case
  name-from n =
      simp joined (
        le-leb 1 (length name) n.some,
        (
          le-leb (length (ascii keyword) + 3 + length name) 254 (omega (arith, line-long keyword name, n.line)),
          (
            every-from 32 126 name n.printable,
            (
              ne_eqb (get_or name 0 0) 32 n.begins,
              (
                ne_eqb (get_or name (length name - 1) 0) 32 n.ends,
                fails (has_between 65 90 name and has_between 97 122 name)
                    (λ h. let (u, l) = simp joined at h in n.letters (some_to 65 90 name u, some_to 97 122 name l)),
              ),
            ),
          ),
        ),
      )

-- ---- times

module _ (s : List ℕ) where
  time-to : is_time s ≡ true → Time s
  unfolding is_time
  time-to h = by (time_in s) refl h
    where
      by : (t : Option ℕ) → time_in s ≡ t → is_some t ≡ true → Time s
      by (P.Some n) e h = let t = time-only s n e in record { moment = t.moment; real = t.real; text = t.text }
      by P.None e h = clash h refl

  time-read : (t : Time s) → time_in s ≡ P.Some (seconds_of t.moment)
  time-read t = ap time_in t.text ∙ time-back t.moment t.real

  time-from : Time s → is_time s ≡ true
  time-from t = is-time s (time-read t)

-- ---- a request

module _ (r : Request) where
  formed-to : well_formed r ≡ true → Formed r
  unfolding names_hold count_of seconds_at
  formed-to h =
      let w = well r h in
      let (a, (b, (c, (d, e)))) = simp joined at w.names in
      let s = settings w.settings in
      record {
        originator = name-to "ORIGINATOR" r.originator a;
        object = name-to "OBJECT_NAME" r.object b;
        id = name-to "OBJECT_ID" r.id c;
        center = name-to "CENTER_NAME" r.center d;
        frame = name-to "REF_FRAME" r.frame e;
        created = time-to r.created w.created;
        start = time-to r.start w.start;
        tick = s.0;
        step = (s.1, s.2);
        some = eqb-false (length r.points) 0 w.some;
        times = λ i l. omega (arith, last-moment, in-time (seconds_in r.start) (length r.points / 12) r.step i (last-time r w) (omega (arith, l)));
      }

  -- where there is no whole point the start stands for the last one
  ends_by : Formed r → (t : Bool) → leb 12 (length r.points) ≡ t → ends_in_time r ≡ true
  unfolding ends_in_time seconds_at count_of
  ends_by f true t =
      let l = leb-true 12 (length r.points) t in
      le-leb (seconds_in r.start + (length r.points / 12 - 1) * r.step) most_seconds (omega (arith, last-moment, f.times (length r.points / 12 - 1) (omega (arith, l))))
  ends_by f false t =
      let l = leb-false 12 (length r.points) t in
      let z : length r.points / 12 - 1 ≡ 0 = omega (arith, l) in
      let m = seconds-are r.start (time-read r.start f.start) in
      le-leb (seconds_in r.start + (length r.points / 12 - 1) * r.step) most_seconds (rw z (omega (arith, m.0, m.1)))

  formed-from : Formed r → well_formed r ≡ true
  unfolding well_formed names_hold settings_hold
  formed-from f =
      simp joined (
        (
          name-from "ORIGINATOR" r.originator f.originator,
          (
            name-from "OBJECT_NAME" r.object f.object,
            (
              name-from "OBJECT_ID" r.id f.id,
              (name-from "CENTER_NAME" r.center f.center, name-from "REF_FRAME" r.frame f.frame),
            ),
          ),
        ),
        (
          time-from r.created f.created,
          (
            time-from r.start f.start,
            (
              (le-leb r.tick 16 f.tick, (le-leb 1 r.step f.step.0, le-leb r.step 3600 f.step.1)),
              (ne_eqb (length r.points) 0 f.some, ends_by f (leb 12 (length r.points)) refl),
            ),
          ),
        ),
      )

  pub formed-decided : Decides (well_formed r) (Formed r)
  formed-decided = decides (formed-to, formed-from)
