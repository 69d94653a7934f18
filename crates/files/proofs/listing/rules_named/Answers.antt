-- The rules in the text of the file.
use Rattle.files.proofs.Whole.{reads_text}
use Rattle.files.proofs.listing.rules_named.Goals as goal

pub returns-in-Ok : goal.returns-in-Ok
returns-in-Ok g c = reads_text c.rules_in.ensures
