-- `message::forms::name_holds` meets its contract: each way out knows which test failed.
use mathlib.Core.Path.{ap}
use mathlib.Core.Bool.{not}
use Prim.Native.Nat.{◌+◌}
use native.Mathlib.Omega.{arith}
use borrow.Author.Tests.{lt-leb, le-leb, eq-eqb, ne_eqb}
use lib.ListN.{length}
use Rattle.integers.specs.Tests.{and_no, and_yes, stop, go_on}
use Rattle.message.specs.Form.{name_holds}
use Rattle.std.proofs.lemmas.Bool.{not_from_false, not_from_true}
use Rattle.message.proofs.forms.name_holds.Goals as goal

pub returns-then-name-lt1 : goal.returns-then-name-lt1
unfolding name_holds
returns-then-name-lt1 c = and_no _ (lt-leb _ _ c.if-name-lt1.true)

pub returns-then-keyword-name : goal.returns-then-keyword-name
unfolding name_holds
returns-then-keyword-name c =
    and_yes (le-leb _ _ c.if-name-lt1.false) (and_no _ (lt-leb (c.args.keyword + 3 + length c.args.name.now) 254 (omega (arith, c.if-keyword-name.true))))

pub returns-then-not-all_between : goal.returns-then-not-all_between
unfolding name_holds
returns-then-not-all_between c =
    and_yes (le-leb _ _ c.if-name-lt1.false)
    (and_yes (le-leb (c.args.keyword + 3 + length c.args.name.now) 254 (omega (arith, c.requires, c.if-keyword-name.false)))
    (stop _ c.all_between.ensures (not_from_false _ c.if-not-all_between.true)))

pub returns-then-name-eq32 : goal.returns-then-name-eq32
unfolding name_holds
returns-then-name-eq32 c =
    and_yes (le-leb _ _ c.if-name-lt1.false)
    (and_yes (le-leb (c.args.keyword + 3 + length c.args.name.now) 254 (omega (arith, c.requires, c.if-keyword-name.false)))
    (go_on c.all_between.ensures (not_from_true _ c.if-not-all_between.false)
    (and_no _ (ap not (eq-eqb _ _ c.if-name-eq32.true)))))

pub returns-then-name-eq32-2 : goal.returns-then-name-eq32-2
unfolding name_holds
returns-then-name-eq32-2 c =
    and_yes (le-leb _ _ c.if-name-lt1.false)
    (and_yes (le-leb (c.args.keyword + 3 + length c.args.name.now) 254 (omega (arith, c.requires, c.if-keyword-name.false)))
    (go_on c.all_between.ensures (not_from_true _ c.if-not-all_between.false)
    (and_yes (ap not (ne_eqb _ _ c.if-name-eq32.false))
    (and_no _ (ap not (eq-eqb _ _ c.if-name-eq32-2.true))))))

pub returns : goal.returns
unfolding name_holds
returns c =
    and_yes (le-leb _ _ c.if-name-lt1.false)
    (and_yes (le-leb (c.args.keyword + 3 + length c.args.name.now) 254 (omega (arith, c.requires, c.if-keyword-name.false)))
    (go_on c.all_between.ensures (not_from_true _ c.if-not-all_between.false)
    (and_yes (ap not (ne_eqb _ _ c.if-name-eq32.false))
    (and_yes (ap not (ne_eqb _ _ c.if-name-eq32-2.false)) c.one_case.ensures))))
