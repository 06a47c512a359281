-- What is proved, collected.
use Rattle.demands.proofs.Invariant.{open-begins-itself}
use Rattle.image.specs.Reading.{held_in}
use Rattle.hosted.specs.Runs.{Asks}
use Rattle.hosted.specs.Theorems.{EachCall, AnyCalls, AfterRead}
use Rattle.hosted.proofs.Each.{on-record, on-fourteen, on-fourteen-leaves, open_made, open-closed, open-fourteen, open-fourteen-leaves}
use Rattle.hosted.proofs.Any.{any_left, any_told}
use Rattle.hosted.proofs.Kept.{run-keeps, run-counts, any-keeps, any-counts, any-alike, any-opened, since-opening}
use Rattle.hosted.proofs.Figures.{as-worked}

pub each-call : EachCall
each-call =
    record {
      predicts = on-record Asks.predicts;
      corrects = λ s h a. on-record (Asks.corrects a) s h;
      withdraws = on-record Asks.withdraws;
      opens = open_made;
      closes = open-closed;
      fourteen = on-fourteen;
      fourteen_leaves = on-fourteen-leaves;
      open_fourteen = open-fourteen;
      open_fourteen_leaves = open-fourteen-leaves;
    }

pub any-calls : AnyCalls
any-calls =
    record {
      left = any_left;
      told = any_told;
      opened = any-opened;
      keeps = any-keeps;
      counts = any-counts;
      since_opening = since-opening;
      alike = any-alike;
      computed = as-worked;
    }

pub after_read : AfterRead
after_read =
    record {
      begins = λ bytes t h. open-begins-itself (held_in bytes) h;
      keeps = λ bytes t h calls. run-keeps (held_in bytes) calls _ (open-begins-itself (held_in bytes) h);
      counts = λ bytes t h calls. run-counts (held_in bytes) calls h;
    }
