-- `output::page::put_year_month` meets its contract. Assumes nothing.
use Rattle.output.specs.Pieces.{month_pieces}
use Rattle.output.proofs.Pieces.{then}
use Rattle.output.proofs.page.put_year_month.Goals as goal

pub returns : goal.returns
unfolding month_pieces
returns c = then c.put_number-a.ensures c.put_labelled.ensures
