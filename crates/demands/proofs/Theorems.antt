-- What is proved, collected.
use Rattle.demands.specs.Histories.{ours, after}
use Rattle.demands.specs.Theorems.{OurCalls, AnyCalls, TurnedDown}
use Rattle.demands.proofs.Records.{open-record, settled-record, awaiting-record, starting-record}
use Rattle.demands.proofs.Ours.{demand1, demand2, formulas, demand3, counts, leave}
use Rattle.demands.proofs.Held.{held_after}
use Rattle.demands.proofs.Before.{unchanged}
use Rattle.demands.proofs.Cowell.{in-ticks}
use Rattle.demands.proofs.Alike.{same_next}
use Rattle.demands.proofs.RoundFractions.{in-fractions}
use Rattle.demands.proofs.Opens.{opening-sample}
use Rattle.demands.proofs.Openings.{anew, anew-start, of-openings, of-starts, closed, bad-settings, untrue-sums, unopened, unstarted, waits, goes_on}
use Rattle.demands.proofs.Unique as U
use Rattle.demands.proofs.TurnedDown as T

pub our-calls : OurCalls
our-calls =
    record {
      demand1 = demand1;
      demand2 = demand2;
      formulas = formulas;
      demand3 = demand3;
      counts = counts;
      leaves = leave;
      held = held_after ours leave;
      unchanged = unchanged;
      in_fractions = in-fractions;
      in_ticks = in-ticks;
      same_next = λ o s t b d m calls others e f g. same_next o s t b d calls others e m ((settled-record (after ours s calls)).yes.1 f) ((settled-record (after ours t others)).yes.1 g);
      open_records = open-record;
      settled_records = settled-record;
      awaiting_records = awaiting-record;
      starting_records = starting-record;
      waits = waits;
      goes_on = goes_on;
      closed = closed;
      bad_settings = bad-settings;
      untrue_sums = untrue-sums;
      unopened = unopened;
      unstarted = unstarted;
      of_openings = of-openings ours demand3 counts;
      of_starts = of-starts ours demand3 counts;
      replaces = U.replacing ours demand1 demand2;
    }

pub any-calls : AnyCalls
any-calls = record { replaces = U.replacing; anew = anew; anew_start = anew-start; openings = of-openings; starts = of-starts; opening_sample = opening-sample; unique = U.unique }

pub turned_down : TurnedDown
turned_down = T.turned_down
