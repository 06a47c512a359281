-- What the names of a request and the value of an edition are of the text: each is a part of it, whatever the text is.
use Rattle.std.specs.Prelude.{ℕ, ◌≤◌, List, length}
use Rattle.message_request.specs.declared.Rest.{Rest}
use Rattle.message_request.specs.declared.Names.{Names}

pub record Within (text : List ℕ) (rest : Rest) : Type 0 where
  pub starts : rest.from ≤ rest.end
  pub ends : rest.end ≤ length text

pub record AllWithin (text : List ℕ) (names : Names) : Type 0 where
  pub created : Within text names.created
  pub originator : Within text names.originator
  pub object : Within text names.object
  pub id : Within text names.id
  pub center : Within text names.center
  pub frame : Within text names.frame
  pub start : Within text names.start
