-- `received::mending::put_list` meets its contract: START_TIME, STOP_TIME, and the lines dropped.
use mathlib.Core.Path.{◌≡◌, sym, ap}
use mathlib.Core.List.{List, ◌++◌}
use Prim.Native.Nat.{ℕ, ◌+◌}
use native.Mathlib.Omega.{arith}
use lib.ListN.{length, length-append}
use Rattle.text.proofs.Pieces.{then, retold}
use Rattle.received.specs.declared.planning.Plan.{Plan}
use Rattle.received.specs.Mending.{drops_from, words}
use Rattle.received.specs.Planning.{data_lines, change_unless, planned_list, Planned}
use Rattle.received.proofs.Mends.{list-parts}
use Rattle.received.proofs.mending.put_list.Goals as goal

abbrev first : Plan → List ℕ
first p = words (change_unless p.starts p.line 2)

abbrev second : Plan → List ℕ
second p = words (change_unless p.stops (p.line + 1) 3)

abbrev third : List ℕ → Plan → List ℕ
third text p = words (drops_from p.number 0 (data_lines text p))

sizes : (text : List ℕ) (p : Plan) → Planned text p
    → length (words (planned_list text p)) ≡ length (first p) + (length (second p) + length (third text p))
sizes text p h =
    omega (arith, ap length (list-parts text p h), length-append (first p) (second p ++ third text p), length-append (second p) (third text p))

pub put_time_change-a-requires : goal.put_time_change-a-requires
put_time_change-a-requires c =
    omega (arith, c.requires.p_in_bounds, sizes c.args.text.now c.args.p c.requires.planned)

pub overflow_add-p : goal.overflow_add-p
overflow_add-p c = omega (arith, c.requires.planned.early, c.requires.planned.in_order, c.requires.planned.head-ends, c.requires.planned.within)

pub put_time_change-b-requires : goal.put_time_change-b-requires
put_time_change-b-requires c =
    let v = c.put_time_change-a.ensures in
    omega (arith, c.requires.p_in_bounds, sizes c.args.text.now c.args.p c.requires.planned, v.ends, v.long)

pub put_drops-requires : goal.put_drops-requires
put_drops-requires c =
    let v = c.put_time_change-a.ensures in
    let w = c.put_time_change-b.ensures in record { from_in_bounds = (omega (arith, c.requires.planned.within), c.requires.planned.few); text_in_bounds = omega (arith, c.requires.p_in_bounds, sizes c.args.text.now c.args.p c.requires.planned, v.ends, v.long, w.ends, w.long) }

pub returns : goal.returns
returns c =
    retold (sym (list-parts c.args.text.now c.args.p c.requires.planned))
    (then c.put_time_change-a.ensures (then c.put_time_change-b.ensures c.put_drops.ensures))
