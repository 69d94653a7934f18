-- `files::telling::put_years` meets its contract. Assumes nothing.
use Rattle.text.proofs.Writes.{then}
use Rattle.files.specs.Told.{years_text}
use Rattle.files.proofs.telling.put_years.Goals as goal

pub returns : goal.returns
unfolding years_text
returns c = then c.put-a.ensures (then c.put_decimal-b.ensures (then c.put-c.ensures (then c.put_decimal-d.ensures c.put.ensures)))
