-- `received::reader::found` meets its contract.
use Rattle.received.specs.Answer.{received}
use Rattle.received.proofs.reader.found.Goals as goal

pub returns : goal.returns
unfolding received
returns c =
    let a = c.args in
    λ i.
    record {
      number = 0;
      line = 0;
      count = a.count;
      created = c.place_of.ensures.0 i;
      originator = c.place_of-2.ensures.0 i;
      object = c.place_of-3.ensures.0 i;
      id = c.place_of-4.ensures.0 i;
      center = c.place_of-5.ensures.0 i;
      frame = c.place_of-6.ensures.0 i;
    }
