-- `growth::put_both_tables` meets its contract. Assumes nothing.
use Rattle.growth.specs.Growth.{tables_pieces}
use Rattle.output.proofs.Pieces.{then}
use Rattle.growth.proofs.put_both_tables.Goals as goal

pub returns : goal.returns
unfolding tables_pieces
returns c = rw (← c.last_year.ensures, ← c.last_year-2.ensures) (then c.put_years_of-a.ensures c.put_years_of.ensures)
