-- What is proved, collected.
use Rattle.image.specs.Theorems.{OfSaving, OfImages, OfReading}
use Rattle.image.proofs.Stands.{stands-so, stands-not, closed-alike, standing-again, standing-shaped, standing-fits}
use Rattle.image.proofs.Images.{image-long, image-table, image-bodies, image-no-gap, saved-alike, same-session, read_back, held_back, image-back, same_bytes, accepted-long, accepted-exactly, held-said, all-shaped, read-accepted, read-refused}
use Rattle.image.proofs.Figures.{closed-image, as_written}

pub saved : OfSaving
saved = record { itself = stands-so; closed = stands-not; shaped = standing-shaped; fits = standing-fits; again = standing-again }

pub images : OfImages
images =
    record {
      long = image-long;
      table = image-table;
      bodies = image-bodies;
      no_gap = image-no-gap;
      alike = saved-alike;
      one = λ s t h k a b e. same-session s t h k e a b;
      closed_alike = closed-alike;
      closed_image = closed-image;
      computed = as_written;
    }

pub read : OfReading
read =
    record {
      back = read_back;
      back_held = held_back;
      back_image = image-back;
      same = same_bytes;
      long = accepted-long;
      exactly = accepted-exactly;
      says = held-said;
      shaped = all-shaped;
      accepted = read-accepted;
      refused = read-refused;
    }
