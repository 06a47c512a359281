-- All that is said of tracks that add, shown.
use Rattle.demands.specs.Histories.{ours}
use Rattle.demands.proofs.Theorems.{our-calls}
use Rattle.adding.specs.Tracks.{Called}
use Rattle.adding.specs.Theorems.{Adds, OfSamplesUpTo, Adding}
use Rattle.adding.proofs.Added.{of-samples-up-to, adds}
use Rattle.adding.proofs.Requests.{requests-add}
use Rattle.adding.proofs.Floats.{whole-rounds, whole_sum, sum-rounds, samples-round}
use Rattle.adding.proofs.Sessions.{sessions-add, sessions-up-to}
use Rattle.adding.proofs.Slips.{slipping-apart}

our-up-to : OfSamplesUpTo (Called ours)
our-up-to = of-samples-up-to ours our-calls.formulas

our-adds : Adds ours (Called ours)
our-adds = adds ours our-calls.formulas our-calls.leaves

pub adding : Adding
adding =
    record {
      up_to = of-samples-up-to;
      adds = adds;
      our_up_to = our-up-to;
      our_adds = our-adds;
      sessions_up_to = sessions-up-to our-up-to;
      sessions = sessions-add our-adds;
      requests = requests-add;
      whole_floats = record { rounds = whole-rounds; sums = whole_sum; samples = samples-round; floats = sum-rounds };
      slipping = slipping-apart;
    }
