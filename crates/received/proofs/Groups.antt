-- Groups that fill the slots are the lines of the message that they say.
use mathlib.Core.Path.{◌≡◌, refl, sym, ◌∙◌, ap, subst}
use mathlib.Core.Bool.{Bool, true}
use mathlib.Core.List.{List, [], ◌∷◌, ◌++◌, flatten, map, append_assoc}
use Prim.Native.Nat.{ℕ, zero, suc, ◌+◌, ◌<◌}
use Prim.Native.String.{String}
use native.Mathlib.Omega.{arith}
use lib.ListN.{length, drop, get_or, drop_of_length-le}
use lib.Seq.{drop-cons}
use Rattle.text.specs.Numbers.{ascii}
use Rattle.calendar.proofs.Back.{same_true}
use Rattle.message.specs.declared.Edition.{Edition}
use Rattle.message.specs.Editions.{version_of}
use Rattle.message.specs.Message.{entry, says}
use Rattle.received.specs.Slots.{line_with, rest_in, is_of, perhaps, any, form_of, AllOf, Fills, FillAll}
use Rattle.received.specs.Profile.{saying, text_behind, comment_form, has_more, further, slots}
use Rattle.received.specs.Data.{Point}
use Rattle.received.specs.Messages.{comment, head_of, Every, Remarks, Further, IsPoint, Rising, Holds}
use Rattle.received.specs.Reading.{slot_at, front_at, line_at, rest_at, message_in}
use Rattle.received.specs.Finding.{is_one}
use Rattle.received.proofs.Fronts.{front-is, of-front, of-rest}
use Rattle.received.proofs.Reached.{filled, filled_at, has-front, Single, single}

-- ---- lines of C-14 by their front

pub says-with : (keyword : String) (value : List ℕ) → says keyword value ≡ line_with (ascii keyword ++ ascii " = ") value
unfolding entry flatten ascii
says-with keyword value = sym (append_assoc (ascii keyword) (32 ∷ 61 ∷ 32 ∷ []) (value ++ (10 ∷ [])))

pub starts_with : line_with (ascii "META_START") [] ≡ ascii "META_START\n"
unfolding ascii
starts_with = refl

pub stops-with : line_with (ascii "META_STOP") [] ≡ ascii "META_STOP\n"
unfolding ascii
stops-with = refl

-- ---- a list by its places

unfoldable rows_from : {A : Type 0} → A → List A → ℕ → ℕ → List A
rows_from d xs k zero = []
rows_from d xs k (suc n) = get_or xs k d ∷ rows_from d xs (suc k) n

rows : {A : Type 0} (d : A) (xs : List A) (n k : ℕ) → k + n ≡ length xs → drop k xs ≡ rows_from d xs k n
unfolding rows_from
rows d xs zero k e = drop_of_length-le xs {i = k} (omega arith)
rows d xs (suc n) k e = drop-cons xs k d (omega arith) ∙ ap (λ r. get_or xs k d ∷ r) (rows d xs n (suc k) (omega arith))

-- ---- comments

all-comments : (lines : List (List ℕ)) → AllOf comment_form lines → lines ≡ map comment (map (rest_in comment_form.front) lines)
all-comments [] a = refl
all-comments (line ∷ lines) (p, a) =
    λ i. front-is comment_form.front line (of-front comment_form line p) i ∷ all-comments lines a i

all-remarks : (lines : List (List ℕ)) → AllOf comment_form lines → Remarks (map (rest_in comment_form.front) lines)
all-remarks [] a = tt
all-remarks (line ∷ lines) (p, a) = (of-rest comment_form line p, all-remarks lines a)

-- ---- a line that may be left out

further-lines : (may : Bool) (keyword : String) (lines : List (List ℕ)) → Fills (perhaps may (saying keyword (text_behind keyword))) lines
    → lines ≡ map (says keyword) (map (rest_in (ascii keyword ++ ascii " = ")) lines)
further-lines may keyword [] a = refl
further-lines may keyword (line ∷ []) (m, p) =
    let f = saying keyword (text_behind keyword) in
    ap (λ l. l ∷ []) (front-is f.front line (of-front f line p) ∙ sym (says-with keyword (rest_in f.front line)))
further-lines may keyword (line ∷ more ∷ lines) a = absurd a

further-holds : (may : Bool) (keyword : String) (lines : List (List ℕ)) → Fills (perhaps may (saying keyword (text_behind keyword))) lines
    → Further may keyword (map (rest_in (ascii keyword ++ ascii " = ")) lines)
further-holds may keyword [] a = tt
further-holds may keyword (line ∷ []) (m, p) = (m, of-rest (saying keyword (text_behind keyword)) line p)
further-holds may keyword (line ∷ more ∷ lines) a = absurd a

-- ---- the groups

module _ (e : Edition) (groups : List (List (List ℕ))) (fill : FillAll (slots e) groups) where
  module _ (k : ℕ) (h : k < 17) (a : is_one (slot_at e k) ≡ true) where
    abbrev alone_at : Single (form_of (slot_at e k)) (get_or groups k [])
    alone_at = single (slot_at e k) (get_or groups k []) a (filled_at (slots e) groups k (any comment_form) fill h)

    line-is : alone_at.line ≡ line_at groups k
    unfolding line_at
    line-is = ap (λ g. get_or g 0 []) (sym alone_at.alone)

    passes : is_of (form_of (slot_at e k)) (line_at groups k) ≡ true
    passes = ap (is_of (form_of (slot_at e k))) (sym line-is) ∙ alone_at.passes

    pub group-is : get_or groups k [] ≡ line_with (front_at k) (rest_at groups k) ∷ []
    unfolding rest_at
    group-is =
        alone_at.alone
        ∙ ap (λ l. l ∷ []) (line-is ∙ front-is (front_at k) (line_at groups k) (has-front e k (line_at groups k) passes))

    pub test-is : (form_of (slot_at e k)).front ≡ front_at k → (form_of (slot_at e k)).test (rest_at groups k) ≡ true
    unfolding rest_at
    test-is f =
        ap (λ front. (form_of (slot_at e k)).test (rest_in front (line_at groups k))) (sym f) ∙ of-rest (form_of (slot_at e k)) (line_at groups k) passes

  comments-at : (k : ℕ) → k < 17 → slot_at e k ≡ any comment_form → AllOf comment_form (get_or groups k [])
  comments-at k h q = subst (λ s. Fills s (get_or groups k [])) q (filled_at (slots e) groups k (any comment_form) fill h)

  further-at : (k : ℕ) → k < 17 → (keyword : String) → slot_at e k ≡ further e keyword → Fills (further e keyword) (get_or groups k [])
  further-at k h keyword q = subst (λ s. Fills s (get_or groups k [])) q (filled_at (slots e) groups k (any comment_form) fill h)

  -- a keyword with its value
  says_at : (k : ℕ) (h : k < 17) (a : is_one (slot_at e k) ≡ true) (keyword : String) → front_at k ≡ ascii keyword ++ ascii " = "
      → get_or groups k [] ≡ says keyword (rest_at groups k) ∷ []
  says_at k h a keyword f =
      group-is k h a ∙ ap (λ front. line_with front (rest_at groups k) ∷ []) f ∙ ap (λ l. l ∷ []) (sym (says-with keyword (rest_at groups k)))

  pub head-back : (points : List Point) → groups ≡ head_of e (message_in groups points) (rest_at groups 13) (rest_at groups 14)
  unfolding message_in rows_from
  head-back points =
      rows [] groups 17 0 (sym (filled (slots e) groups fill))
      ∙ (λ i.
      (says_at 0 (omega arith) refl "CCSDS_OEM_VERS" refl ∙ ap (λ v. says "CCSDS_OEM_VERS" v ∷ []) (same_true (rest_at groups 0) (version_of e) (test-is 0 (omega arith) refl refl))) i
      ∷ all-comments (get_or groups 1 []) (comments-at 1 (omega arith) refl) i
      ∷ further-lines (has_more e) "CLASSIFICATION" (get_or groups 2 []) (further-at 2 (omega arith) "CLASSIFICATION" refl) i
      ∷ says_at 3 (omega arith) refl "CREATION_DATE" refl i
      ∷ says_at 4 (omega arith) refl "ORIGINATOR" refl i
      ∷ further-lines (has_more e) "MESSAGE_ID" (get_or groups 5 []) (further-at 5 (omega arith) "MESSAGE_ID" refl) i
      ∷ (group-is 6 (omega arith) refl ∙ ap (λ v. line_with (ascii "META_START") v ∷ []) (same_true (rest_at groups 6) [] (test-is 6 (omega arith) refl refl)) ∙ ap (λ l. l ∷ []) starts_with) i
      ∷ all-comments (get_or groups 7 []) (comments-at 7 (omega arith) refl) i
      ∷ says_at 8 (omega arith) refl "OBJECT_NAME" refl i
      ∷ says_at 9 (omega arith) refl "OBJECT_ID" refl i
      ∷ says_at 10 (omega arith) refl "CENTER_NAME" refl i
      ∷ says_at 11 (omega arith) refl "REF_FRAME" refl i
      ∷ (says_at 12 (omega arith) refl "TIME_SYSTEM" refl ∙ ap (λ v. says "TIME_SYSTEM" v ∷ []) (same_true (rest_at groups 12) (ascii "TAI") (test-is 12 (omega arith) refl refl))) i
      ∷ says_at 13 (omega arith) refl "START_TIME" refl i
      ∷ says_at 14 (omega arith) refl "STOP_TIME" refl i
      ∷ (group-is 15 (omega arith) refl ∙ ap (λ v. line_with (ascii "META_STOP") v ∷ []) (same_true (rest_at groups 15) [] (test-is 15 (omega arith) refl refl)) ∙ ap (λ l. l ∷ []) stops-with) i
      ∷ all-comments (get_or groups 16 []) (comments-at 16 (omega arith) refl) i
      ∷ [])

  pub head-holds : (points : List Point) → 0 < length points → Every IsPoint points → Rising 0 points → Holds e (message_in groups points)
  unfolding message_in
  head-holds points s p r =
      record {
        on_message = all-remarks (get_or groups 1 []) (comments-at 1 (omega arith) refl);
        classification = further-holds (has_more e) "CLASSIFICATION" (get_or groups 2 []) (further-at 2 (omega arith) "CLASSIFICATION" refl);
        created = test-is 3 (omega arith) refl refl;
        originator = test-is 4 (omega arith) refl refl;
        identifier = further-holds (has_more e) "MESSAGE_ID" (get_or groups 5 []) (further-at 5 (omega arith) "MESSAGE_ID" refl);
        on_object = all-remarks (get_or groups 7 []) (comments-at 7 (omega arith) refl);
        object = test-is 8 (omega arith) refl refl;
        id = test-is 9 (omega arith) refl refl;
        center = test-is 10 (omega arith) refl refl;
        frame = test-is 11 (omega arith) refl refl;
        on_data = all-remarks (get_or groups 16 []) (comments-at 16 (omega arith) refl);
        some = s;
        points = p;
        rising = r;
      }
