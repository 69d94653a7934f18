-- `output::page::put_clock` meets its contract. Assumes nothing.
use Rattle.output.specs.Pieces.{clock_pieces}
use Rattle.output.proofs.Pieces.{then}
use Rattle.output.proofs.page.put_clock.Goals as goal

pub returns : goal.returns
unfolding clock_pieces
returns c = then c.put_wide-a.ensures c.put_digits.ensures
