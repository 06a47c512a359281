-- `ticks::samples::fault_in` meets its contract: the greatest fault is what is wrong with all floats.
use mathlib.Core.Path.{◌∙◌}
use Rattle.std.proofs.Common.{rules, tests}
use Rattle.std.proofs.lemmas.Iterator.{YieldsList-from_slice}
use Rattle.std.proofs.lemmas.Iterator.Consumers.{reduce_from_yields_List, YieldsList-from_filter_map}
use Rattle.ticks.specs.Round.{rounded_of}
use Rattle.ticks.specs.Faults.{fault_of}
use Rattle.ticks.proofs.Faults.{greatest-fault}
use Rattle.ticks.proofs.Order.{greater-worse}
use Rattle.ticks.proofs.samples.fault_in.Goals as goal

pub returns : goal.returns
returns c =
    reduce_from_yields_List _ _ _ c.max.ensures.ran (YieldsList-from_filter_map _ (λ x. fault_of (rounded_of x)) (YieldsList-from_slice c.args.xs.now (cc)) c.filter_map.ensures.closure (λ x r q k. search (rules, tests)))
    ∙ greatest-fault _ greater-worse c.args.xs.now
