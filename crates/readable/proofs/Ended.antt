-- Every line of a message ends in its only newline: all characters before it are printable.
use mathlib.Core.Path.{◌≡◌, refl, sym, subst}
use mathlib.Core.Bool.{Bool, true}
use mathlib.Core.List.{List, [], ◌∷◌, ◌++◌, flatten, map, append_assoc}
use Prim.Native.Nat.{ℕ, zero, suc, ◌+◌, ◌/◌, ◌%◌, ◌^◌, ◌<◌, ◌≤◌}
use Prim.Native.String.{String}
use native.Mathlib.Omega.{arith}
use lib.IntN.{ℤ, pos, negsuc, nat_abs}
use lib.ListN.{length, get_or}
use borrow.Author.Tests.{leb-true, le-leb}
use Rattle.integers.specs.Parts.{integers}
use Rattle.integers.specs.Tests.{joined}
use Rattle.text.specs.Numbers.{ascii, digit, last_digits}
use Rattle.calendar.specs.declared.Moment.{Moment}
use Rattle.calendar.specs.Calendar.{moment_of}
use Rattle.calendar.specs.Text.{time_text}
use Rattle.calendar.proofs.Back.{text-long}
use Rattle.decimal.specs.Text.{fixed_text}
use Rattle.decimal.proofs.Form.{Digits, Form}
use Rattle.decimal.proofs.Form.{form}
use Rattle.message.specs.Message.{says, time_after, texts}
use Rattle.message.specs.Form.{all_between, name_holds}
use Rattle.message.specs.Request.{seconds_in}
use Rattle.message.specs.Refusals.{is_time}
use Rattle.message.specs.declared.Edition.{Edition}
use Rattle.message.specs.declared.Edition.TheVariants.{Two, Three}
use Rattle.message.specs.Editions.{version_of}
use Rattle.received.specs.Slots.{line_with}
use Rattle.received.specs.Profile.{printable, is_text, is_remark, any_value, has_more}
use Rattle.received.specs.Data.{Point, decimals_of, field_of, data_line, line_of}
use Rattle.received.specs.Messages.{Every, IsPoint, Remarks, Further, comment}
use Rattle.readable.specs.Lines.{Plain, IsLine}
use Rattle.readable.proofs.Fields.{size_fits}
use Rattle.readable.proofs.Points.{every-at, time-told}
use Rattle.readable.proofs.Heads.{Parts, head_from, says-line}

-- ---- lists

module _ {A : Type 0} (P : A → Type 0) where
  pub every_append : (xs ys : List A) → Every P xs → Every P ys → Every P (xs ++ ys)
  every_append [] ys p q = q
  every_append (x ∷ xs) ys p q = (p.0, every_append xs ys p.1 q)

plain-append : (s t : List ℕ) → Plain s → Plain t → Plain (s ++ t)
plain-append s t p q = every_append (λ b. ¬ (b ≡ 10)) s t p q

-- ---- printable characters

pub shows : (s : List ℕ) → all_between 32 126 s ≡ true → Plain s
unfolding all_between
shows [] h = tt
shows (b ∷ s) h = let ((low, high), more) = simp joined at h in (λ e. omega (arith, e, leb-true 32 b low), shows s more)

between-append : (s t : List ℕ) → all_between 32 126 s ≡ true → all_between 32 126 t ≡ true → all_between 32 126 (s ++ t) ≡ true
unfolding all_between
between-append [] t p q = q
between-append (b ∷ s) t p q = let (here, more) = simp joined at p in simp joined (here, between-append s t more q)

last-between : (k n : ℕ) → all_between 32 126 (last_digits k n) ≡ true
unfolding last_digits all_between
last-between zero n = refl
last-between (suc k) n =
    between-append (last_digits k (n / 10)) (digit (n % 10) ∷ []) (last-between k (n / 10))
    (simp joined ((le-leb 32 (digit (n % 10)) (omega arith), le-leb (digit (n % 10)) 126 (omega arith)), refl))

separator : (s : List ℕ) (b k n : ℕ) → all_between 32 126 s ≡ true → all_between 32 126 (b ∷ []) ≡ true → all_between 32 126 (s ++ (b ∷ []) ++ last_digits k n) ≡ true
separator s b k n p q = between-append (s ++ (b ∷ [])) (last_digits k n) (between-append s (b ∷ []) p q) (last-between k n)

pub time-between : (m : Moment) → all_between 32 126 (time_text m) ≡ true
unfolding time_text ascii all_between
time-between m =
    let year = last_digits 4 m.year in
    let month = year ++ (45 ∷ []) ++ last_digits 2 m.month in
    let day = month ++ (45 ∷ []) ++ last_digits 2 m.day in
    let hour = day ++ (84 ∷ []) ++ last_digits 2 m.hour in
    let minute = hour ++ (58 ∷ []) ++ last_digits 2 m.minute in
    separator minute 58 2 m.second
    (separator hour 58 2 m.minute
    (separator day 84 2 m.hour
    (separator month 45 2 m.day
    (separator year 45 2 m.month (last-between 4 m.year) refl)
    refl)
    refl)
    refl)
    refl

-- a time may stand behind either keyword
time-printable : (front : ℕ) → front ≤ 235 → (seconds : ℕ) → printable front (time_after seconds) ≡ true
unfolding printable
time-printable front h seconds =
    simp joined (
      le-leb (front + length (time_after seconds)) 254 (omega (arith, text-long (moment_of seconds))),
      time-between (moment_of seconds),
    )

pub start-printable : (seconds : ℕ) → any_value "START_TIME" (time_after seconds) ≡ true
unfolding ascii
start-printable seconds = time-printable 13 (omega arith) seconds

pub stop-printable : (seconds : ℕ) → any_value "STOP_TIME" (time_after seconds) ≡ true
unfolding ascii
stop-printable seconds = time-printable 12 (omega arith) seconds

time-plain : (s : List ℕ) → is_time s ≡ true → Plain s
time-plain s h = rw (time-told s h).1 (shows (time_after (seconds_in s)) (time-between (moment_of (seconds_in s))))

printable-plain : (front : ℕ) (s : List ℕ) → printable front s ≡ true → Plain s
unfolding printable
printable-plain front s h = let (_, p) = simp joined at h in shows s p

name-plain : (keyword : ℕ) (s : List ℕ) → name_holds keyword s ≡ true → Plain s
unfolding name_holds
name-plain keyword s h = let (_, (_, (p, _))) = simp joined at h in shows s p

remark-plain : (s : List ℕ) → is_remark s ≡ true → Plain s
unfolding is_remark
remark-plain s h = let (_, p) = simp joined at h in printable-plain 7 s p

-- ---- the lines of a head

line-with : (front rest : List ℕ) → Plain front → Plain rest → IsLine (line_with front rest)
line-with front rest p q =
    record { body = front ++ rest; plain = plain-append front rest p q; line-is = sym (append_assoc front rest (10 ∷ [])) }

says-ends : (keyword : String) (value : List ℕ) → all_between 32 126 (ascii keyword ++ ascii " = ") ≡ true → Plain value → IsLine (says keyword value)
says-ends keyword value k v =
    rw (says-line keyword value) at (line-with (ascii keyword ++ ascii " = ") value (shows (ascii keyword ++ ascii " = ") k) v)

comments-end : (remarks : List (List ℕ)) → Remarks remarks → Every IsLine (map comment remarks)
unfolding all_between ascii
comments-end [] h = tt
comments-end (r ∷ remarks) h = (line-with (ascii "COMMENT") r (shows (ascii "COMMENT") refl) (remark-plain r h.0), comments-end remarks h.1)

text-plain : (front : ℕ) (s : List ℕ) → is_text front s ≡ true → Plain s
unfolding is_text
text-plain front s h = let (_, (p, _)) = simp joined at h in printable-plain front s p

further-end : (may : Bool) (keyword : String) (values : List (List ℕ)) → all_between 32 126 (ascii keyword ++ ascii " = ") ≡ true → Further may keyword values
    → Every IsLine (map (says keyword) values)
further-end may keyword [] k h = tt
further-end may keyword (value ∷ []) k h = (says-ends keyword value k (text-plain (length (ascii keyword) + 3) value h.1), tt)
further-end may keyword (value ∷ more ∷ values) k h = absurd h

pub version-plain : (e : Edition) → Plain (version_of e)
unfolding all_between ascii
version-plain Two = shows (ascii "2.0") refl
version-plain Three = shows (ascii "3.0") refl

pub head-ends : {e : Edition} (p : Parts e) → Every (Every IsLine) (head_from p)
unfolding all_between ascii
head-ends {e} p = (
  (says-ends "CCSDS_OEM_VERS" (version_of e) refl (version-plain e), tt),
  (
    comments-end p.on_message.0 p.on_message.1,
    (
      further-end (has_more e) "CLASSIFICATION" p.classification.0 refl p.classification.1,
      (
        (says-ends "CREATION_DATE" p.created.0 refl (time-plain p.created.0 p.created.1), tt),
        (
          (says-ends "ORIGINATOR" p.originator.0 refl (name-plain 10 p.originator.0 p.originator.1), tt),
          (
            further-end (has_more e) "MESSAGE_ID" p.identifier.0 refl p.identifier.1,
            (
              (record { body = ascii "META_START"; plain = shows (ascii "META_START") refl; line-is = refl }, tt),
              (
                comments-end p.on_object.0 p.on_object.1,
                (
                  (says-ends "OBJECT_NAME" p.object.0 refl (name-plain 11 p.object.0 p.object.1), tt),
                  (
                    (says-ends "OBJECT_ID" p.id.0 refl (name-plain 9 p.id.0 p.id.1), tt),
                    (
                      (says-ends "CENTER_NAME" p.center.0 refl (name-plain 11 p.center.0 p.center.1), tt),
                      (
                        (says-ends "REF_FRAME" p.frame.0 refl (name-plain 9 p.frame.0 p.frame.1), tt),
                        (
                          (says-ends "TIME_SYSTEM" (ascii "TAI") refl (shows (ascii "TAI") refl), tt),
                          (
                            (says-ends "START_TIME" p.start.0 refl (printable-plain 13 p.start.0 p.start.1), tt),
                            (
                              (says-ends "STOP_TIME" p.stop.0 refl (printable-plain 12 p.stop.0 p.stop.1), tt),
                              (
                                (record { body = ascii "META_STOP"; plain = shows (ascii "META_STOP") refl; line-is = refl }, tt),
                                (comments-end p.on_data.0 p.on_data.1, tt),
                              ),
                            ),
                          ),
                        ),
                      ),
                    ),
                  ),
                ),
              ),
            ),
          ),
        ),
      ),
    ),
  ),
)

-- ---- data lines

digits-plain : (s : List ℕ) → Digits s → Plain s
digits-plain [] h = tt
digits-plain (b ∷ s) h = let (low, high) = simp joined at h.0 in (λ e. omega (arith, e, leb-true 48 b low), digits-plain s h.1)

sign-plain : (decimals : ℕ) (n : ℤ) (text : List ℕ) (f : Form decimals n text) → Plain f.sign
unfolding ascii
sign-plain decimals (pos m) text f = subst Plain (sym (f.no_minus (omega integers))) tt
sign-plain decimals (negsuc m) text f = subst Plain (sym (f.minus (omega integers))) ((λ e. omega (arith, e)), tt)

number-plain : (decimals : ℕ) (n : ℤ) → nat_abs n < 10 ^ 16 → Plain (fixed_text decimals n)
unfolding ascii
number-plain decimals n h =
    let f = form decimals n (size_fits n h) in
    let front = plain-append f.sign f.whole (sign-plain decimals n (fixed_text decimals n) f) (digits-plain f.whole f.digits-before) in
    let pointed = plain-append (f.sign ++ f.whole) (46 ∷ []) front ((λ e. omega (arith, e)), tt) in
    subst Plain (sym f.holds) (plain-append (f.sign ++ f.whole ++ (46 ∷ [])) f.decimals pointed (digits-plain f.decimals f.digits-after))

field_plain : (values : List ℤ) (k : ℕ) → nat_abs (get_or values k (pos 0)) < 10 ^ 16 → Plain (field_of values k)
unfolding field_of ascii
field_plain values k h = (λ e. omega (arith, e), number-plain (decimals_of k) (get_or values k (pos 0)) h)

texts-plain : (f : ℕ → List ℕ) (n : ℕ) → ((k : ℕ) → k < n → Plain (f k)) → Plain (texts f n)
unfolding texts
texts-plain f zero h = tt
texts-plain f (suc n) h = plain-append (texts f n) (f n) (texts-plain f n (λ k l. h k (omega arith))) (h n (omega arith))

pub data-ends : (p : Point) → IsPoint p → IsLine (line_of p)
unfolding data_line flatten ascii
data-ends p h =
    let time = time_after p.seconds in
    let fields = texts (field_of p.values) 6 in
    let few : (k : ℕ) → k < 6 → nat_abs (get_or p.values k (pos 0)) < 10 ^ 16 =
    λ k l. every-at (λ n. nat_abs n < 10 ^ 16) p.values k (pos 0) h.digits (omega (arith, h.six)) in
    line-with time fields (shows time (time-between (moment_of p.seconds))) (texts-plain (field_of p.values) 6 (λ k l. field_plain p.values k (few k l)))

pub points-end : (points : List Point) → Every IsPoint points → Every IsLine (map line_of points)
points-end [] h = tt
points-end (p ∷ points) h = (data-ends p h.0, points-end points h.1)

pub flat-ends : (groups : List (List (List ℕ))) → Every (Every IsLine) groups → Every IsLine (flatten groups)
unfolding flatten
flat-ends [] h = tt
flat-ends (g ∷ groups) h = every_append IsLine g (flatten groups) h.0 (flat-ends groups h.1)
