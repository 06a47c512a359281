-- `received::heads::begin_of` meets its contract.
use mathlib.Core.Path.{◌≡◌, refl, sym, ◌∙◌}
use Rattle.std.specs.Prelude.{Ok}
use Rattle.received.specs.Finding.{begin_at, groups_of, walk_over}
use Rattle.received.proofs.Reached.{slot-begins}
use Rattle.received.proofs.heads.begin_of.Goals as goal

pub unwrap-requires : goal.unwrap-requires
unwrap-requires c =
    let a = c.args in
    rw (c.reach.ensures.ends ∙ slot-begins a.edition a.text.now a.k c.requires.k_bound c.requires.through) refl

pub returns-clause-begins : goal.returns-clause-begins
returns-clause-begins c =
    let a = c.args in
    let e : Ok c.unwrap.result ≡ Ok (begin_at (groups_of (walk_over a.edition a.text.now)) a.k) =
    sym c.unwrap.ensures ∙ c.reach.ensures.ends ∙ slot-begins a.edition a.text.now a.k c.requires.k_bound c.requires.through in
    cc
