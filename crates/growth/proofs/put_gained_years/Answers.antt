-- `growth::put_gained_years` meets its contract. Assumes nothing.
use Rattle.growth.specs.Growth.{gained_pieces}
use Rattle.output.proofs.Pieces.{then}
use Rattle.growth.proofs.put_gained_years.Goals as goal

pub returns : goal.returns
unfolding gained_pieces
returns c = then c.put_years_of-a.ensures (then c.put_what_stays-b.ensures c.put_what_is_new.ensures)
