-- `output::page::put_ymd` meets its contract. Assumes nothing.
use Rattle.output.specs.Pieces.{ymd_pieces}
use Rattle.output.proofs.Pieces.{then}
use Rattle.output.proofs.page.put_ymd.Goals as goal

pub returns : goal.returns
unfolding ymd_pieces
returns c = then c.put_wide-a.ensures (then c.put_digits-b.ensures c.put_digits.ensures)
