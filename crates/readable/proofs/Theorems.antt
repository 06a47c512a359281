-- What is proved, collected.
use Rattle.message.specs.declared.Edition.{Edition}
use Rattle.message.specs.Message.{message_as}
use Rattle.readable.specs.Sent.{sent}
use Rattle.readable.specs.Theorems.{OfLines, OfReading, OfAnswers, OfSending, OfMending, OfMendAnswers, OfEditions, OfExamples}
use Rattle.readable.proofs.Lines.{together, found-again}
use Rattle.readable.proofs.Runs.{in_order}
use Rattle.readable.proofs.Readers.{sound, complete, unique, exactly, times-last}
use Rattle.readable.proofs.Placing.{named}
use Rattle.readable.proofs.Stopping.{stops, one-stop, decided}
use Rattle.readable.proofs.Answers.{seventeen, fifteen, stopped, twelve, leaves, wrote}
use Rattle.readable.proofs.Sent.{same_line, written}
use Rattle.readable.proofs.Changing.{mended, mended-so, mended-readable, unchanged, twice, none-listed, mended-rising}
use Rattle.readable.proofs.Unmendable.{cannot}
use Rattle.readable.proofs.MendAnswers as M
use Rattle.readable.proofs.Editions.{own, one-edition, chosen, refused, neither, stays}
use Rattle.readable.proofs.Figures.{as-found, as_read, as-mended}
use Rattle.readable.proofs.NewFigures.{as-named, as-valued, new-read, new-found, new-mended}

pub of-lines : OfLines
of-lines = record { together = together; found_again = found-again }

pub of-reading : (e : Edition) → OfReading e
of-reading e =
    record {
      sound = sound e;
      complete = complete e;
      named = named e;
      unique = unique e;
      exactly = exactly e;
      decided = decided e;
      stops = stops e;
      one_stop = one-stop e;
      times_last = times-last e;
    }

pub of-answers : (e : Edition) → OfAnswers e
of-answers e =
    record { seventeen = seventeen e; fifteen = fifteen e; stopped = stopped e; twelve = twelve e; leaves = leaves e; wrote = wrote e }

pub of-sending : OfSending
of-sending = record { same_line = same_line; written = written; read_back = λ e r room z. complete e (message_as e r) (sent r) (written e r room z) }

pub of-mending : (e : Edition) → OfMending e
of-mending e =
    record {
      mended = λ text out changes. (mended e text out changes, mended-so e text out changes);
      readable = mended-readable e;
      unchanged = unchanged e;
      twice = twice e;
      in_order = in_order;
      none_listed = none-listed e;
      rising = mended-rising e;
      cannot = cannot e;
    }

pub of-mend-answers : (e : Edition) → OfMendAnswers e
of-mend-answers e = record { seventeen = M.seventeen e; sixteen = M.sixteen e; twelve = M.twelve e; leaves = M.leaves e }

pub of-editions : OfEditions
of-editions =
    record { one_edition = one-edition; chosen = chosen; own = own; refused = refused; neither = neither; stays = stays }

pub of-examples : OfExamples
of-examples =
    record {
      read = (as_read, as-found);
      mended = as-mended;
      versions = (as-named, as-valued);
      new_read = (new-read, new-found);
      new_mended = new-mended;
    }
