use Rattle.conversion.proofs.Accepted.{found_on}
use Rattle.conversion.proofs.known.row_at.Goals as goal

pub returns : goal.returns
returns c = found_on _ _ _ _ _ _ c.row_before-from.ensures (rw c.year_count.ensures at c.find-p.ensures)
