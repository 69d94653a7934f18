-- The lines of an open file.
use Rattle.files.proofs.Made.{reads_lines}
use Rattle.files.proofs.reading.read_all.Goals as goal

pub returns-in-Some : goal.returns-in-Some
returns-in-Some g c = reads_lines c.read_open.ensures
