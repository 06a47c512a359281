-- `oem::mending::mend` meets its contract: what mending left in its rooms is what is written.
use mathlib.Core.Path.{◌≡◌, sym, ◌∙◌, ap, subst}
use mathlib.Core.List.{List}
use Prim.Native.Nat.{ℕ, ◌*◌, ◌≤◌}
use borrow.Author.Rules.{rules}
use lib.ListN.{length}
use Rattle.message.specs.declared.Edition.{Edition}
use Rattle.received.specs.declared.Mended.{Mended}
use Rattle.received.specs.Versions.{edition_in}
use Rattle.received.specs.MendAnswer.{mended_to, out_after, changes_after}
use Rattle.reports.specs.Reports.{list_of}
use Rattle.oem.specs.Answers.{Says}
use Rattle.oem.specs.Mended.{mended_text, list_text}
use Rattle.oem.proofs.Rooms.{count_fits, mended-said, listed}
use Rattle.oem.proofs.mending.mend.Goals as goal

-- what the calls left, and what it is by the definitions
module _ (d : Edition) (text out changes : List ℕ) {r : Mended} {left words : List ℕ} (e : r ≡ mended_to d text out changes) (a : left ≡ out_after d text out changes)
    (b : words ≡ changes_after d text out changes) where
  count : 2 * r.changes ≤ length changes
  count = subst (λ r. 2 * r.changes ≤ length changes) (sym e) (count_fits out changes d text)

  message : Says left r.length (mended_text d text (length out) (length changes))
  message = rw (e, a) (mended-said out changes d text)

  list : {bytes : List ℕ} {n : ℕ} → Says bytes n (list_of r.number words r.changes) → Says bytes n (list_text d text (length out) (length changes))
  list {bytes} {n} h = subst (Says bytes n) (ap (λ r. list_of r.number words r.changes) e ∙ ap (λ w. list_of (mended_to d text out changes).number w (mended_to d text out changes).changes) b ∙ listed out changes d text) h

pub list_changes-listed-requires : goal.list_changes-listed-requires
list_changes-listed-requires c =
    let e = c.mend_message-done.ensures.value in
    let a = c.mend_message-done.ensures.out_after in
    let b = c.mend_message-done.ensures.changes_after in
    search (rules, count (edition_in c.args.text.now) c.args.text.now c.args.mended.now c.args.changes.now e a b)

pub returns : goal.returns
returns c =
    let text = c.args.text.now in
    let out = c.args.mended.now in
    let changes = c.args.changes.now in
    let e = c.mend_message-done.ensures.value in
    let a = c.mend_message-done.ensures.out_after in
    let b = c.mend_message-done.ensures.changes_after in
    record { says = message (edition_in text) text out changes e a b; says_2 = list (edition_in text) text out changes e a b c.list_changes-listed.ensures }
