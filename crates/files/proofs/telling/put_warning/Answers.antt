-- `files::telling::put_warning` meets its contract. Assumes nothing.
use Rattle.text.proofs.Writes.{then}
use Rattle.files.specs.Told.{warning_text}
use Rattle.files.proofs.telling.put_warning.Goals as goal

pub returns : goal.returns
unfolding warning_text
returns c = then c.put-a.ensures (then c.put_place-b.ensures (rw c.said_at.ensures at c.put_years.ensures))
