-- What mending does to a text, exactly; that it is readable then, and that a readable text stays as it is.
use mathlib.Core.Path.{◌≡◌, refl, sym, ◌∙◌, ap, ap₂, subst}
use mathlib.Core.Logic.{inl, inr}
use mathlib.Core.List.{List, [], ◌∷◌, ◌++◌, flatten, map}
use Prim.Native.Nat.{ℕ}
use Prim.Native.String.{String}
use native.Mathlib.Omega.{arith}
use lib.ListN.{length, length-append, length-map}
use Rattle.calendar.proofs.Back.{same_refl}
use Rattle.message.specs.Message.{says, time_after}
use Rattle.message.specs.declared.Edition.{Edition}
use Rattle.received.specs.Lines.{lines_in}
use Rattle.received.specs.Slots.{walk}
use Rattle.received.specs.Profile.{slots}
use Rattle.received.specs.Data.{line_of, first_seconds, last_seconds}
use Rattle.received.specs.Messages.{head_of, lines_of, Says, Readable}
use Rattle.received.specs.Reading.{start_slot, stop_slot, data_slot, number_at}
use Rattle.received.specs.Mending.{Change, change, drops_from, time_change, Mends, mend_by, mend_of}
use Rattle.readable.specs.Keeping.{Keeps, none, keeps, drops}
use Rattle.readable.specs.Changes.{Rise, Lists, drop_of, Mended}
use Rattle.readable.specs.Answering.{head_in}
use Rattle.readable.proofs.Lines.{together}
use Rattle.readable.proofs.Runs.{numbers_of, kept-lines, keeps-settles, all-drops, all-kept}
use Rattle.readable.proofs.Heads.{message_of, parts_of, head_from, start-found, stop-found}
use Rattle.readable.proofs.Outcomes.{clear-head-of, holds_of, walk-head, walk-but}
use Rattle.readable.proofs.Mending.{lines_out, changes_out, changes_of, mend-some, Done, past-comments, comments-past, mending}
use Rattle.readable.proofs.Listing.{same-value, lists-settle, lists, numbers-rise, one-listed}
use Rattle.readable.proofs.Readers.{own_parts, own-but, says-lines}

module _ (e : Edition) (text : List ℕ) (out : List (List ℕ)) (changes : List Change) (q : mend_of e text ≡ Mends out changes) where
  abbrev m : Done e text
  m = mending e text out changes q

  out-is : out ≡ lines_of e (message_of m.head m.points)
  out-is = ap lines_out (sym q ∙ m.gives)

  changes-are : changes ≡ changes_of m.head m.points m.rest
  changes-are = ap changes_out (sym q ∙ m.gives)

  start-lists :
      Lists (says "START_TIME" m.head.start.0) (says "START_TIME" (time_after (first_seconds m.points)))
      (change (number_at (head_from m.head) start_slot) 2) (time_change (head_from m.head) start_slot 2 (first_seconds m.points))
  start-lists = lists m.head start_slot "START_TIME" m.head.start.0 (start-found m.head) (first_seconds m.points) 2

  stop-lists :
      Lists (says "STOP_TIME" m.head.stop.0) (says "STOP_TIME" (time_after (last_seconds m.points)))
      (change (number_at (head_from m.head) stop_slot) 3) (time_change (head_from m.head) stop_slot 3 (last_seconds m.points))
  stop-lists = lists m.head stop_slot "STOP_TIME" m.head.stop.0 (stop-found m.head) (last_seconds m.points) 3

  pub mended : Mended e text out changes
  mended =
      let number = number_at (head_from m.head) data_slot in
      let others = drops_from number 0 m.rest in
      let start = time_change (head_from m.head) start_slot 2 (first_seconds m.points) in
      let stop = time_change (head_from m.head) stop_slot 3 (last_seconds m.points) in
      record {
        message = message_of m.head m.points;
        start = m.head.start.0;
        stop = m.head.stop.0;
        rest = m.rest;
        holds = holds_of m.head m.points m.good;
        start-holds = m.head.start.1;
        stop-holds = m.head.stop.1;
        stood = m.lines_are;
        no-comment = past-comments m.rest m.past;
        comes-out = out-is;
        dropped = numbers_of others;
        keeps = subst (λ kept. Keeps number 0 m.rest kept (numbers_of others)) m.kept-are (kept-lines number 0 m.rest);
        start_change = start;
        stop_change = stop;
        listed = changes-are ∙ ap (λ x. start ++ (stop ++ x)) (all-drops number 0 m.rest).dropped;
        start_listed = start-lists;
        stop_listed = stop-lists;
      }

  says-out : Says e (flatten out) (message_of m.head m.points)
  says-out = record { holds = holds_of m.head m.points m.good; text-is = ap flatten out-is }

  pub mended-readable : Readable e (flatten out)
  mended-readable = (message_of m.head m.points, says-out)

  -- the lines that come out are the lines of their text
  pub out-found : lines_in (flatten out) ≡ out
  out-found = says-lines (flatten out) (message_of m.head m.points) says-out ∙ sym out-is

  pub mended-rising : Rise 1 (numbers_of changes)
  unfolding number_at
  mended-rising =
      let number = number_at (head_from m.head) data_slot in
      let others = drops_from number 0 m.rest in
      let start = time_change (head_from m.head) start_slot 2 (first_seconds m.points) in
      let stop = time_change (head_from m.head) stop_slot 3 (last_seconds m.points) in
      let (k, l) = numbers-rise m.head in
      let last = one-listed (number_at (head_from m.head) stop_slot) number _ _ _ stop others stop-lists (omega arith) l (all-drops number 0 m.rest).rise in
      subst (λ x. Rise 1 (numbers_of x)) (sym changes-are)
      (one-listed 1 (number_at (head_from m.head) stop_slot) _ _ _ start (stop ++ others) start-lists (omega arith) k last)

-- and this settles what comes out and what is listed
pub mended-so : (e : Edition) (text : List ℕ) (out : List (List ℕ)) (changes : List Change) → Mended e text out changes → mend_of e text ≡ Mends out changes
unfolding mend_of mend_by
mended-so e text out changes n =
    let m = n.message in
    let h = n.holds in
    let p = parts_of m h n.start n.stop n.start-holds n.stop-holds in
    let (kept, others) = keeps-settles n.keeps in
    let start = lists-settle p start_slot "START_TIME" n.start (start-found p) (first_seconds m.points) 2 n.start_change n.start_listed in
    let stop = lists-settle p stop_slot "STOP_TIME" n.stop (stop-found p) (last_seconds m.points) 3 n.stop_change n.stop_listed in
    ap (λ x. mend_by (walk (slots e) x)) n.stood
    ∙ ap mend_by (walk-head p n.rest (clear-head-of p n.rest (comments-past n.rest n.no-comment)))
    ∙ mend-some p n.rest m.points h.some kept (all-kept 0 0 m.points h.points h.rising).2
    ∙ ap₂ Mends (sym n.comes-out) ((λ i. start i ++ (stop i ++ others i)) ∙ sym n.listed)

-- ---- a readable text

pub unchanged : (e : Edition) (text : List ℕ) → Readable e text → mend_of e text ≡ Mends (lines_in text) []
unfolding mend_of mend_by time_change
unchanged e text (n, s) =
    let h = s.holds in
    let p = own_parts n h in
    let b = own-but n h in
    let lines = says-lines text n s in
    let rest = map line_of n.points in
    let (k, d, q) = all-kept (number_at (head_from p) data_slot) 0 n.points h.points h.rising in
    let listed : changes_of p n.points rest ≡ [] =
    rw (start-found p, stop-found p, same_refl (time_after (first_seconds n.points)), same_refl (time_after (last_seconds n.points))) d in
    ap (λ x. mend_by (walk (slots e) x)) lines
    ∙ ap mend_by (walk-but (lines_of e n) b)
    ∙ mend-some p rest n.points h.some k q
    ∙ ap₂ Mends (sym lines) listed

pub twice : (e : Edition) (text : List ℕ) (out : List (List ℕ)) (changes : List Change) → mend_of e text ≡ Mends out changes → mend_of e (flatten out) ≡ Mends out []
twice e text out changes q = unchanged e (flatten out) (mended-readable e text out changes q) ∙ ap (λ x. Mends x []) (out-found e text out changes q)

-- ---- an empty list

keeps-all : {number earliest : ℕ} {lines kept : List (List ℕ)} {dropped : List ℕ} → Keeps number earliest lines kept dropped → length dropped ≡ 0 → kept ≡ lines
keeps-all none h = refl
keeps-all (keeps {line = line} p t k) h = ap (λ x. line ∷ x) (keeps-all k h)
keeps-all (drops t k) h = absurd (omega (arith, h))

not_listed : (keyword : String) (stood out : List ℕ) (entry : Change) (changes : List Change) → Lists (says keyword stood) (says keyword out) entry changes
    → length changes ≡ 0 → stood ≡ out
not_listed keyword stood out entry changes (inl (e, _)) h = same-value keyword stood out e
not_listed keyword stood out entry changes (inr (_, e)) h = absurd (omega (arith, h, ap length e))

pub none-listed : (e : Edition) (text : List ℕ) (out : List (List ℕ)) → mend_of e text ≡ Mends out [] → flatten out ≡ text
none-listed e text out q =
    let n = mended e text out [] q in
    let counts = ap length n.listed in
    let whole = length-append n.start_change (n.stop_change ++ map drop_of n.dropped) in
    let part = length-append n.stop_change (map drop_of n.dropped) in
    let others = length-map n.dropped drop_of in
    let kept = keeps-all n.keeps (omega (arith, counts, whole, part, others)) in
    let start = not_listed "START_TIME" _ _ _ n.start_change n.start_listed (omega (arith, counts, whole, part, others)) in
    let stop = not_listed "STOP_TIME" _ _ _ n.stop_change n.stop_listed (omega (arith, counts, whole, part, others)) in
    let same : lines_in text ≡ out =
    n.stood ∙ ap₂ (λ x y. flatten (head_of e n.message x y) ++ n.rest) start stop ∙ ap (λ x. flatten (head_in e n.message) ++ x) (sym kept) ∙ sym n.comes-out in
    ap flatten (sym same) ∙ together text
