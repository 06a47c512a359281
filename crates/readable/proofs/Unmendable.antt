-- A text can be mended exactly where it has a head and a data line behind it.
use mathlib.Core.Path.{◌≡◌, refl, sym, ◌∙◌, ap, subst}
use mathlib.Core.Logic.{◌↔◌, inl, inr}
use mathlib.Core.List.{List, [], ◌∷◌, ◌++◌, flatten, map, append_assoc, append-nil, map-append}
use Prim.Native.Nat.{ℕ, ◌<◌}
use native.Mathlib.Omega.{arith}
use lib.ListN.{length, take, length-map}
use Rattle.integers.specs.Tests.{clash}
use Rattle.message.specs.declared.Edition.{Edition}
use Rattle.received.specs.Lines.{lines_in}
use Rattle.received.specs.Slots.{AllOf, is_of, leading, behind, walk}
use Rattle.received.specs.Profile.{comment_form, slots}
use Rattle.received.specs.Data.{Point, line_of, kept_of}
use Rattle.received.specs.Messages.{IsPoint, comment}
use Rattle.received.specs.Mending.{Cannot, mend_with, mend_by, mend_of}
use Rattle.readable.specs.Keeping.{Keeps, none, keeps, drops}
use Rattle.readable.specs.Changes.{Some, Mendable}
use Rattle.readable.proofs.Forms.{rests-of, fill-groups}
use Rattle.readable.proofs.Walks.{leading-all, behind-past, leading-behind}
use Rattle.readable.proofs.Runs.{kept-lines}
use Rattle.readable.proofs.Heads.{Parts, head_from, parts, head-is}
use Rattle.readable.proofs.Ended.{every_append}
use Rattle.readable.proofs.Outcomes.{data-no-comment, clear-head-of, head-fills, walk-head}
use Rattle.readable.proofs.Lines.{flat_append}
use Rattle.readable.proofs.Mending.{not-cannot, Either, mends, stays, either}

-- a line that says a point
abbrev Says : List ℕ → Type 0
Says line = (p : Point) × (IsPoint p × (line ≡ line_of p))

-- ---- some line is kept exactly where some line says a point

some-kept : {number earliest : ℕ} {lines kept : List (List ℕ)} {dropped : List ℕ} → Keeps number earliest lines kept dropped → 0 < length kept → Some Says lines
some-kept none h = absurd (omega arith)
some-kept (keeps p t k) h = inl (p, (t.is-point, t.line-is))
some-kept (drops t k) h = inr (some-kept k h)

none_kept : {number earliest : ℕ} {lines kept : List (List ℕ)} {dropped : List ℕ} → Keeps number earliest lines kept dropped → earliest ≡ 0 → length kept ≡ 0 → Some Says lines → ⊥
none_kept none z h s = s
none_kept (keeps p t k) z h s = omega (arith, h)
none_kept (drops t k) z h (inl (p, (i, l))) = t (p, record { is-point = i; line-is = l; in-turn = omega (arith, z) })
none_kept (drops t k) z h (inr s) = none_kept k z h s

-- ---- comments right behind a head belong to it

no-comments : (group rest : List (List ℕ)) → AllOf comment_form group → Some Says (group ++ rest) → Some Says rest
no-comments [] rest a s = s
no-comments (c ∷ group) rest a (inl (p, (i, l))) = clash (ap (is_of comment_form) (sym l) ∙ a.0) (data-no-comment p)
no-comments (c ∷ group) rest a (inr s) = no-comments group rest a.1 s

-- a head with some more of them
module _ {e : Edition} (p : Parts e) (rest : List (List ℕ)) where
  group : List (List ℕ)
  group = leading comment_form rest

  longer : (q : Parts e) × (flatten (head_from p) ++ rest ≡ flatten (head_from q) ++ behind comment_form rest)
  unfolding group flatten
  longer =
      let (remarks, every, same) = rests-of comment_form group (leading-all comment_form rest) in
      let before = take 16 (head_from p) in
      let own = map comment p.on_data.0 in
      let q : Parts e =
      record {
        on_message = p.on_message;
        classification = p.classification;
        created = p.created;
        originator = p.originator;
        identifier = p.identifier;
        on_object = p.on_object;
        object = p.object;
        id = p.id;
        center = p.center;
        frame = p.frame;
        start = p.start;
        stop = p.stop;
        on_data = (p.on_data.0 ++ remarks, every_append _ p.on_data.0 remarks p.on_data.1 every);
      } in
      let last : own ++ group ≡ map comment (p.on_data.0 ++ remarks) = ap (λ x. own ++ x) same ∙ sym (map-append comment p.on_data.0 remarks) in
      let all : flatten (head_from p) ++ group ≡ flatten (head_from q) =
      ap (λ x. x ++ group) (flat_append before (own ∷ []))
      ∙ append_assoc (flatten before) (own ++ []) group
      ∙ ap (λ x. flatten before ++ (x ++ group)) (append-nil own)
      ∙ ap (λ x. flatten before ++ x) (last ∙ sym (append-nil _))
      ∙ sym (flat_append before (map comment (p.on_data.0 ++ remarks) ∷ [])) in
      (q, ap (λ x. flatten (head_from p) ++ x) (sym (leading-behind comment_form rest)) ∙ sym (append_assoc (flatten (head_from p)) group (behind comment_form rest)) ∙ ap (λ x. x ++ behind comment_form rest) all)

-- ---- both

mendable-mends : (e : Edition) (text : List ℕ) → Mendable e text → ¬ (mend_of e text ≡ Cannot)
unfolding mend_of mend_by mend_with
mendable-mends e text m c =
    let (h, g) = fill-groups (slots e) m.groups m.fills in
    let p = parts h in
    let rest = behind comment_form m.rest in
    let (q, l) = longer p m.rest in
    let lines : lines_in text ≡ flatten (head_from q) ++ rest = m.lines_are ∙ ap (λ x. flatten x ++ m.rest) (g ∙ head-is e h) ∙ l in
    let w = ap (walk (slots e)) lines ∙ walk-head q rest (clear-head-of q rest (behind-past comment_form m.rest)) in
    let some = no-comments (leading comment_form m.rest) rest (leading-all comment_form m.rest) (subst (Some Says) (sym (leading-behind comment_form m.rest)) m.some) in
    by q rest (kept_of 0 rest) (kept-lines 0 0 rest) some (sym (ap mend_by w) ∙ c)
  where
    by : (q : Parts e) (rest kept : List (List ℕ)) {dropped : List ℕ} → Keeps 0 0 rest kept dropped → Some Says rest → ¬ (mend_with (head_from q) rest kept ≡ Cannot)
    by q rest [] k some c = none_kept k refl refl some
    by q rest (line ∷ lines) k some c = not-cannot c

pub cannot : (e : Edition) (text : List ℕ) → (mend_of e text ≡ Cannot) ↔ (¬ Mendable e text)
cannot e text = ((λ c m. mendable-mends e text m c), λ h. by h (either e text))
  where
    by : ¬ Mendable e text → Either e text → mend_of e text ≡ Cannot
    by h (stays s) = s
    by h (mends m) =
        absurd (h (record {
          groups = head_from m.head;
          rest = m.rest;
          fills = head-fills m.head;
          lines_are = m.lines_are;
          some = some-kept (kept-lines 0 0 m.rest) (omega (arith, m.good.some, ap length m.kept-are, length-map m.points line_of));
        }))
