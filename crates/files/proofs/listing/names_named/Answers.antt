-- The names at the front of the buffer.
use Rattle.files.specs.Texts.{some}
use Rattle.files.proofs.listing.names_named.Goals as goal

pub returns-in-Ok : goal.returns-in-Ok
returns-in-Ok g c = some _ (c.read_named.ensures.few _ c.in-Ok.is) c.names_in.ensures
